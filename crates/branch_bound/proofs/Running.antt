-- What a run of the search shows of a setting for which its programme stands.
use Rattle.std.proofs.Common.{◌≡◌, ◌∙◌, ◌⊎◌, inl, inr, ℕ, zero, suc, ◌+◌, ◌-◌, ◌*◌, ◌<◌, ◌≤◌, Bool, true, false, cond, List, [], ◌∷◌, ◌++◌, length, map, get_or, All, ℤ, pos, negsuc, refl, sym, ap, subst, arith}
use Rattle.std.specs.Prelude.{Some, slice_get, slice_index_or, slice_set, nat_le, nat_lt, ◌≤ℤ◌, ◌<ℤ◌}
use Rattle.std.specs.Int.{int_min}
use Rattle.std.proofs.Math.ListN.{get_or-map}
use Rattle.std.proofs.lemmas.Bool.{false≢true, leb-true, ltb-true}
use Rattle.std.proofs.lemmas.Bool.Decides.{nat_tests}
use Rattle.std.proofs.lemmas.Int.{ints, int_min_is}
use Rattle.std.proofs.lemmas.List.{length-append, length-map}
use Rattle.std.proofs.lemmas.Option.{slice_get_within}
use Rattle.adv_base.specs.declared.limits.TheConstants.{MOST_ENTRIES, MOST_SETS}
use Rattle.adv_base.specs.declared.catalogue.index.IndexShape.{IndexShape}
use Rattle.adv_base.specs.Configs.{Space, has_candidate, IsApart}
use Rattle.adv_base.specs.Nodes as nodes
use Rattle.adv_base.specs.Nodes.{is_free}
use Rattle.adv_base.specs.Settings.{TheSetting, KeepsLimits}
use Rattle.adv_base.specs.Sizes.{shape_pages}
use Rattle.plan_model.specs.Lagrangian.{TheMultipliers, IsLagrangian}
use Rattle.plan_model.specs.Useful.{IsUseful}
use Rattle.plan_model.proofs.Renting.{flag-of}
use Rattle.bip_model.specs.declared.fix.Fix.{Fix}
use Rattle.bip_model.specs.declared.fix.State.TheVariants.{Free, In, Out}
use Rattle.bip_model.specs.declared.multipliers.Multipliers.{Multipliers}
use Rattle.bip_model.specs.Best.{subproblems, HasTotal}
use Rattle.bip_model.specs.Candidates.{is_useful}
use Rattle.bip_model.specs.StandsFor.{StandsFor}
use Rattle.bip_model.specs.Trees.{Tree, Branches, Leaf, Full, ByFit, preorder, in_side, out_side, zeros, set_at, Shows}
use Rattle.bip_model.specs.Values.{value, grant_count}
use Rattle.bip_model.specs.Views.{space_in, is_in, is_out, node_of, multipliers_of, AreMultipliers, state_at}
use Rattle.bip_model.proofs.Deciding.{space-same}
use Rattle.bip_model.proofs.Exploring.{AreExplored, leaf-explored, branch-explored, both-explored}
use Rattle.bip_model.proofs.Sides.{parts-free, written-in, written-out}
use Rattle.bip_model.proofs.Totalling.{value-total}
use Rattle.bip_model.proofs.Usefulness.{useful-from}
use Rattle.lagrange_bound.specs.Bounds.{lagrangian}
use Rattle.branch_bound.specs.declared.found.Found.{Found}
use Rattle.branch_bound.specs.Sides.{fixed, inside, total}
use Rattle.branch_bound.specs.inner.Runs.{Rules, lag, reaches, visited, IsChoice, lowered, branched, Runs}
use Rattle.branch_bound.proofs.Choices.{open-choice}

-- ## Rules over a programme that stands for a setting

pub record AreRulesFor (setting : TheSetting) (rules : Rules) : Type 0 where
  pub limits : KeepsLimits setting
  pub stands : StandsFor setting rules.programme
  pub shapes_are : setting.shapes ≡ rules.shapes
  pub zeros_fit : AreMultipliers rules.programme rules.zeros
  pub sets_fit : All (AreMultipliers rules.programme) rules.sets
  pub some : 1 ≤ length rules.sets
  pub few : length rules.sets ≤ MOST_SETS
  pub entries : (length rules.sets ≡ 1) ⊎ (length rules.sets * grant_count rules.programme ≤ MOST_ENTRIES)
  pub zeros_are : multipliers_of rules.programme rules.zeros ≡ zeros
  pub useful_are : (i : ℕ) → i < length rules.programme.sizes → slice_index_or rules.useful i false ≡ is_useful rules.programme rules.budget (i + 1)
  pub values : (fix : Fix) (multipliers : Multipliers) → AreMultipliers rules.programme multipliers →
      IsLagrangian setting rules.budget (node_of fix) (multipliers_of rules.programme multipliers) (lagrangian rules.programme rules.budget fix multipliers)

-- the sets of an answer
abbrev pub own_sets : Rules → List TheMultipliers
own_sets rules = map (multipliers_of rules.programme) rules.sets

pub zeros-value : (setting : TheSetting) (rules : Rules) (fix : Fix) → AreRulesFor setting rules → IsLagrangian setting rules.budget (node_of fix) zeros (lag rules fix 0)
zeros-value setting rules fix are =
    subst (λ (m : TheMultipliers). IsLagrangian setting rules.budget (node_of fix) m (lag rules fix 0)) are.zeros_are (are.values fix rules.zeros are.zeros_fit)

-- the first of the sets
abbrev pub first_set : Rules → Multipliers
first_set rules = slice_index_or rules.sets 0 rules.zeros

pub first-fits : (setting : TheSetting) (rules : Rules) → AreRulesFor setting rules → AreMultipliers rules.programme (first_set rules)
first-fits setting rules are = are.sets_fit 0 rules.zeros are.some

pub first-value : (setting : TheSetting) (rules : Rules) (fix : Fix) → AreRulesFor setting rules → IsLagrangian setting rules.budget (node_of fix) (multipliers_of rules.programme (first_set rules)) (lag rules fix 1)
first-value setting rules fix are = are.values fix (first_set rules) (first-fits setting rules are)

found-map : {A B : Type 0} (f : A → B) (xs : List A) (k : ℕ) (d : A) → k < length xs → slice_get (map f xs) k ≡ Some (f (get_or xs k d))
found-map f [] k d within = absurd (omega (arith, within))
found-map f (x ∷ xs) zero d within = refl
found-map f (x ∷ xs) (suc k) d within = found-map f xs k d (omega (arith, within))

pub first-found : (setting : TheSetting) (rules : Rules) → AreRulesFor setting rules → set_at (own_sets rules) 1 ≡ Some (multipliers_of rules.programme (first_set rules))
first-found setting rules are = found-map (multipliers_of rules.programme) rules.sets 0 rules.zeros are.some

-- a number that has a set is that of zeros or of one of the sets
pub set-within : (rules : Rules) (j : ℕ) (other : TheMultipliers) → set_at (own_sets rules) j ≡ Some other → j ≤ length rules.sets
set-within rules zero other found = omega arith
set-within rules (suc j) other found = let within = slice_get_within (own_sets rules) j other found in omega (arith, within, length-map rules.sets (multipliers_of rules.programme))

-- the set of a leaf, and its value there
pub record HasSet (setting : TheSetting) (rules : Rules) (fix : Fix) (k : ℕ) : Type 0 where
  pub multipliers : TheMultipliers
  pub found : set_at (own_sets rules) k ≡ Some multipliers
  pub value_is : IsLagrangian setting rules.budget (node_of fix) multipliers (lag rules fix k)

pub leaf-set : (setting : TheSetting) (rules : Rules) (fix : Fix) (k : ℕ) → AreRulesFor setting rules → k ≤ length rules.sets → HasSet setting rules fix k
leaf-set setting rules fix zero are few = record { multipliers = zeros; found = refl; value_is = zeros-value setting rules fix are }
leaf-set setting rules fix (suc k) are few =
    let within : k < length rules.sets = omega (arith, few) in
    record {
      multipliers = multipliers_of rules.programme (slice_index_or rules.sets k rules.zeros);
      found = found-map (multipliers_of rules.programme) rules.sets k rules.zeros within;
      value_is = are.values fix (slice_index_or rules.sets k rules.zeros) (are.sets_fit k rules.zeros within);
    }

-- what is in has its total
inside-total : (setting : TheSetting) (rules : Rules) (fix : Fix) (level : ℕ) → AreRulesFor setting rules → level ≤ total rules.programme fix → HasTotal setting (node_of fix).inside (λ sum. level ≤ sum)
inside-total setting rules fix level are less =
    record { total = total rules.programme fix; total_is = value-total setting rules.programme (inside fix) are.limits are.stands; holds = less }

-- what clashes under the rules does in the setting
pub clash-in : (setting : TheSetting) (rules : Rules) (fix : Fix) → AreRulesFor setting rules → ¬ (IsApart rules.shapes (inside fix)) → ¬ (IsApart setting.shapes (inside fix))
clash-in setting rules fix are clash apart = clash (subst (λ (shapes : List IndexShape). IsApart shapes (inside fix)) are.shapes_are apart)

-- ## Visits

pub not-less-of : (a b : ℕ) → nat_lt a b ≡ false → b ≤ a
not-less-of a b e = grind (arith, nat_tests)

above-of : (a b : ℕ) → nat_le a b ≡ false → b < a
above-of a b e = grind (arith, nat_tests)

pub record IsVisit (rules : Rules) (fix : Fix) (before after : Found) : Type 0 where
  pub falls : after.cost ≤ before.cost
  pub most : after.cost ≤ total rules.programme fix
  pub low : after.low ≡ before.low
  pub made : after.made ≡ before.made

pub visit : (rules : Rules) (fix : Fix) (before : Found) → IsVisit rules fix before (visited rules fix before)
visit rules fix before = to (nat_lt (total rules.programme fix) before.cost) refl
  where
    to : (b : Bool) → nat_lt (total rules.programme fix) before.cost ≡ b →
        IsVisit rules fix before (cond b (record { config = inside fix; cost = total rules.programme fix; low = before.low; made = before.made }) before)
    to true is = let less = ltb-true (total rules.programme fix) before.cost is in record { falls = omega (arith, less); most = omega arith; low = refl; made = refl }
    to false is = let more = not-less-of (total rules.programme fix) before.cost is in record { falls = omega arith; most = more; low = refl; made = refl }

-- ## Sides

pub free-node : (fix : Fix) (i : ℕ) → state_at fix i ≡ Free → is_free (node_of fix) (i + 1) ≡ true
free-node fix i free =
    let inside_off : has_candidate (node_of fix).inside (suc i) ≡ false = flag-of (node_of fix).inside i ∙ get_or-map is_in fix.state i Free ∙ ap is_in free in
    let outside_off : has_candidate (node_of fix).outside (suc i) ≡ false = flag-of (node_of fix).outside i ∙ get_or-map is_out fix.state i Free ∙ ap is_out free in
    let same : suc i ≡ i + 1 = omega arith in
    ap (is_free (node_of fix)) (sym same) ∙ parts-free (node_of fix) (suc i) inside_off outside_off

back-one : (a i : ℕ) → a ≡ i + 1 → a - 1 ≡ i
back-one a i is = omega (arith, is)

pub in-is : (fix : Fix) (a i : ℕ) → a ≡ i + 1 → state_at fix i ≡ Free → node_of (fixed fix i In) ≡ in_side (node_of fix) a
in-is fix a i is free =
    written-in fix (fixed fix i In) a (omega (arith, is)) (ap (is_free (node_of fix)) is ∙ free-node fix i free) (ap (λ (k : ℕ). slice_set fix.state k In) (sym (back-one a i is)))

pub out-is : (fix : Fix) (a i : ℕ) → a ≡ i + 1 → state_at fix i ≡ Free → node_of (fixed fix i Out) ≡ out_side (node_of fix) a
out-is fix a i is free =
    written-out fix (fixed fix i Out) a (omega (arith, is)) (ap (is_free (node_of fix)) is ∙ free-node fix i free) (ap (λ (k : ℕ). slice_set fix.state k Out) (sym (back-one a i is)))

-- ## Choices

pub record IsGoodChoice (setting : TheSetting) (rules : Rules) (fix : Fix) (a i : ℕ) : Type 0 where
  pub free : state_at fix i ≡ Free
  pub is_open' : nodes.is_open setting.cat setting.shapes rules.budget (node_of fix) a ≡ true
  pub useful : IsUseful setting rules.budget a

pub good-choice : (setting : TheSetting) (rules : Rules) (fix : Fix) (a i : ℕ) → AreRulesFor setting rules → a ≡ i + 1 → IsChoice rules fix i → IsGoodChoice setting rules fix a i
good-choice setting rules fix a i are is choice =
    let own = open-choice rules fix i choice.chosen in
    let number : a ≡ suc i = omega (arith, is) in
    record {
      free = own.free;
      is_open' =
          ap (λ (space : Space). nodes.is_open_in space (node_of fix) a) (space-same setting rules.programme rules.budget are.stands)
          ∙ ap (nodes.is_open_in (space_in rules.programme rules.budget) (node_of fix)) number
          ∙ own.opens;
      useful =
          useful-from setting rules.programme rules.budget a are.stands
          (ap (is_useful rules.programme rules.budget) is ∙ sym (are.useful_are i choice.within) ∙ own.useful);
    }

-- ## No branch is in vain

reach-not : (value : ℤ) (cost : ℕ) → reaches value cost ≡ false → value <ℤ pos cost
reach-not (pos n) cost e = let less : n < cost = above-of cost n e in omega (arith, ints, less)
reach-not (negsuc n) cost e = omega (arith, ints)

pub reach-is : (value : ℤ) (cost : ℕ) → reaches value cost ≡ true → pos cost ≤ℤ value
reach-is (pos n) cost e = let less : cost ≤ n = leb-true cost n e in omega (arith, ints, less)
reach-is (negsuc n) cost e = absurd (false≢true e)

leaf-run : (setting : TheSetting) (rules : Rules) (fix : Fix) (before : Found) (k cost : ℕ) → AreRulesFor setting rules → cost ≡ (visited rules fix before).cost →
    AreExplored setting rules.budget (subproblems (node_of fix) (Leaf k)) before.cost cost
leaf-run setting rules fix before k cost are is =
    let v = visit rules fix before in
    leaf-explored setting rules.budget (record { node = node_of fix; tree = Leaf k }) before.cost cost (omega (arith, is, v.falls)) (λ a inside' outside' wrong. cc)
    (λ fits. inside-total setting rules fix cost are (omega (arith, is, v.most)))

pub runs-explored : (setting : TheSetting) (rules : Rules) (fix : Fix) (before : Found) (tree : Tree) (after : Found) → AreRulesFor setting rules → Runs rules fix before tree after →
    AreExplored setting rules.budget (subproblems (node_of fix) tree) before.cost after.cost
runs-explored setting rules fix before (Leaf k) after are run =
    elim run [
      | inl closed ↦ leaf-run setting rules fix before k after.cost are (ap (λ (f : Found). f.cost) closed.after_is)
      | inr forced ↦ leaf-run setting rules fix before k after.cost are (ap (λ (f : Found). f.cost) forced.after_is)
    ]
runs-explored setting rules fix before (Branches a inside_tree outside_tree) after are run =
    let i = run.index in
    let here : Found = visited rules fix before in
    let v = visit rules fix before in
    let good = good-choice setting rules fix a i are run.numbered run.branch.choice in
    let first = subst (λ (n : nodes.Node). AreExplored setting rules.budget (subproblems n inside_tree) here.cost run.middle.cost) (in-is fix a i run.numbered good.free)
    (runs-explored setting rules (fixed fix i In) (branched here) inside_tree run.middle are run.inside_run) in
    let second = subst (λ (n : nodes.Node). AreExplored setting rules.budget (subproblems n outside_tree) run.middle.cost after.cost) (out-is fix a i run.numbered good.free)
    (runs-explored setting rules (fixed fix i Out) run.middle outside_tree after are run.outside_run) in
    let below = both-explored setting rules.budget (subproblems (in_side (node_of fix) a) inside_tree) (subproblems (out_side (node_of fix) a) outside_tree) here.cost run.middle.cost after.cost first second in
    let own = branch-explored setting rules.budget (node_of fix) a inside_tree outside_tree before.cost here.cost v.falls good.is_open' good.useful
    (record { value = lag rules fix 0; value_is = zeros-value setting rules fix are; holds = reach-not (lag rules fix 0) here.cost run.branch.promising })
    (λ fits. inside-total setting rules fix here.cost are v.most) in
    both-explored setting rules.budget (record { node = node_of fix; tree = Branches a inside_tree outside_tree } ∷ [])
    (subproblems (in_side (node_of fix) a) inside_tree ++ subproblems (out_side (node_of fix) a) outside_tree) before.cost here.cost after.cost own below
runs-explored setting rules fix before Full after are run =
    leaf-explored setting rules.budget (record { node = node_of fix; tree = Full }) before.cost after.cost (omega (arith, ap (λ (f : Found). f.cost) run.after_is)) (λ a inside' outside' wrong. cc)
    (λ fits. absurd (clash-in setting rules fix are run.clash fits.apart))

-- ## What falls and what rises

min-first : (x y : ℤ) → int_min x y ≤ℤ x
min-first x y = omega (arith, ints, int_min_is x y)

min-second : (x y : ℤ) → int_min x y ≤ℤ y
min-second x y = omega (arith, ints, int_min_is x y)

pub record IsLater (before after : Found) : Type 0 where
  pub cost : after.cost ≤ before.cost
  pub low : after.low ≤ℤ before.low
  pub made : before.made ≤ after.made

later-closed : (rules : Rules) (fix : Fix) (before after : Found) → after ≡ visited rules fix before → IsLater before after
later-closed rules fix before after is =
    let v = visit rules fix before in
    let cost = ap (λ (f : Found). f.cost) is in
    let low = ap (λ (f : Found). f.low) is in
    let made = ap (λ (f : Found). f.made) is in
    record { cost = omega (arith, cost, v.falls); low = omega (arith, ints, low, v.low); made = omega (arith, made, v.made) }

later-forced : (rules : Rules) (fix : Fix) (before after : Found) (value : ℤ) → after ≡ lowered (visited rules fix before) value → IsLater before after
later-forced rules fix before after value is =
    let v = visit rules fix before in
    let cost = ap (λ (f : Found). f.cost) is in
    let low = ap (λ (f : Found). f.low) is in
    let made = ap (λ (f : Found). f.made) is in
    let less = min-first (visited rules fix before).low value in
    record { cost = omega (arith, cost, v.falls); low = omega (arith, ints, low, less, v.low); made = omega (arith, made, v.made) }

pub runs-later : (rules : Rules) (fix : Fix) (before : Found) (tree : Tree) (after : Found) → Runs rules fix before tree after → IsLater before after
runs-later rules fix before (Leaf k) after run =
    elim run [
      | inl closed ↦ later-closed rules fix before after closed.after_is
      | inr forced ↦ later-forced rules fix before after (lag rules fix k) forced.after_is
    ]
runs-later rules fix before (Branches a inside_tree outside_tree) after run =
    let v = visit rules fix before in
    let first = runs-later rules (fixed fix run.index In) (branched (visited rules fix before)) inside_tree run.middle run.inside_run in
    let second = runs-later rules (fixed fix run.index Out) run.middle outside_tree after run.outside_run in
    record {
      cost = omega (arith, v.falls, first.cost, second.cost);
      low = omega (arith, ints, v.low, first.low, second.low);
      made = omega (arith, v.made, first.made, second.made);
    }
runs-later rules fix before Full after run =
    let cost = ap (λ (f : Found). f.cost) run.after_is in
    let low = ap (λ (f : Found). f.low) run.after_is in
    let made = ap (λ (f : Found). f.made) run.after_is in
    record { cost = omega (arith, cost); low = omega (arith, ints, low); made = omega (arith, made) }

-- ## What the tree shows

at-most-both : (bound value after low : ℤ) → after ≡ int_min low value → bound ≤ℤ after → bound ≤ℤ value
at-most-both bound value after low is less = let right = min-second low value in omega (arith, ints, is, less, right)

at-most-cost : (bound value : ℤ) (cost after : ℕ) → after ≡ cost → pos cost ≤ℤ value → bound ≤ℤ pos after → bound ≤ℤ value
at-most-cost bound value cost after is reached less = omega (arith, ints, is, reached, less)

pub runs-shows : (setting : TheSetting) (rules : Rules) (fix : Fix) (before : Found) (tree : Tree) (after : Found) (bound : ℤ) → AreRulesFor setting rules → Runs rules fix before tree after →
    bound ≤ℤ pos after.cost → bound ≤ℤ after.low → Shows ByFit setting rules.budget bound (own_sets rules) (node_of fix) tree
runs-shows setting rules fix before (Leaf k) after bound are run most low =
    elim run [
      | inl closed ↦
          let set = leaf-set setting rules fix k are closed.closed.set in
          let cost = ap (λ (f : Found). f.cost) closed.after_is in
          record {
            multipliers = set.multipliers;
            found = set.found;
            value = lag rules fix k;
            value_is = set.value_is;
            at_least = at-most-cost bound (lag rules fix k) (visited rules fix before).cost after.cost cost (reach-is (lag rules fix k) (visited rules fix before).cost closed.closed.reached) most;
          }
      | inr forced ↦
          let set = leaf-set setting rules fix k are forced.forced.highest.set in
          record {
            multipliers = set.multipliers;
            found = set.found;
            value = lag rules fix k;
            value_is = set.value_is;
            at_least = at-most-both bound (lag rules fix k) after.low (visited rules fix before).low (ap (λ (f : Found). f.low) forced.after_is) low;
          }
    ]
runs-shows setting rules fix before (Branches a inside_tree outside_tree) after bound are run most low =
    let i = run.index in
    let good = good-choice setting rules fix a i are run.numbered run.branch.choice in
    let later = runs-later rules (fixed fix i Out) run.middle outside_tree after run.outside_run in (
      record {
        some = omega (arith, run.numbered);
        within = omega (arith, run.numbered, run.branch.choice.within, ap length are.stands.sizes_are, length-map setting.shapes (shape_pages setting.cat));
        free = ap (is_free (node_of fix)) run.numbered ∙ free-node fix i good.free;
      },
      subst (λ (n : nodes.Node). Shows ByFit setting rules.budget bound (own_sets rules) n inside_tree) (in-is fix a i run.numbered good.free)
          (runs-shows setting rules (fixed fix i In) (branched (visited rules fix before)) inside_tree run.middle bound are run.inside_run (omega (arith, ints, most, later.cost)) (omega (arith, ints, low, later.low))),
      subst (λ (n : nodes.Node). Shows ByFit setting rules.budget bound (own_sets rules) n outside_tree) (out-is fix a i run.numbered good.free)
          (runs-shows setting rules (fixed fix i Out) run.middle outside_tree after bound are run.outside_run most low),
    )
runs-shows setting rules fix before Full after bound are run most low = λ fits. clash-in setting rules fix are run.clash fits.apart

-- ## How many nodes the tree has

pub runs-count : (rules : Rules) (fix : Fix) (before : Found) (tree : Tree) (after : Found) → Runs rules fix before tree after → length (preorder tree) + before.made ≡ 1 + after.made
runs-count rules fix before (Leaf k) after run =
    let v = visit rules fix before in
    elim run [
      | inl closed ↦ let made = ap (λ (f : Found). f.made) closed.after_is in omega (arith, made, v.made)
      | inr forced ↦ let made = ap (λ (f : Found). f.made) forced.after_is in omega (arith, made, v.made)
    ]
runs-count rules fix before (Branches a inside_tree outside_tree) after run =
    let v = visit rules fix before in
    let first = runs-count rules (fixed fix run.index In) (branched (visited rules fix before)) inside_tree run.middle run.inside_run in
    let second = runs-count rules (fixed fix run.index Out) run.middle outside_tree after run.outside_run in
    let split = length-append (preorder inside_tree) (preorder outside_tree) in
    omega (arith, v.made, first, second, split)
runs-count rules fix before Full after run = let made = ap (λ (f : Found). f.made) run.after_is in omega (arith, made)
