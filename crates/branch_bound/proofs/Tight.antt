-- Where a search gave up: the leaf with the least value.
use Rattle.std.proofs.Common.{◌≡◌, ◌∙◌, ◌⊎◌, inl, inr, ℕ, zero, suc, ◌+◌, ◌-◌, ◌<◌, ◌≤◌, Bool, true, false, cond, List, length, ℤ, pos, refl, sym, ap, subst, arith}
use Rattle.std.specs.Prelude.{Some, slice_get, slice_index_or, ◌≤ℤ◌, int_lt}
use Rattle.std.specs.Int.{int_min}
use Rattle.std.proofs.lemmas.Bool.{false≢true, and_from, le-leb}
use Rattle.std.proofs.lemmas.Int.{ints}
use Rattle.std.proofs.lemmas.List.{length-map}
use Rattle.std.proofs.lemmas.Option.{slice_get_within}
use Rattle.adv_base.specs.Configs.{Space, IsConfigOf}
use Rattle.adv_base.specs.Nodes as nodes
use Rattle.adv_base.specs.Settings.{TheSetting}
use Rattle.adv_base.specs.Sizes.{shape_pages}
use Rattle.plan_model.specs.Lagrangian.{TheMultipliers, IsLagrangian}
use Rattle.bip_model.specs.declared.fix.Fix.{Fix}
use Rattle.bip_model.specs.declared.fix.State.TheVariants.{In, Out}
use Rattle.bip_model.specs.Best.{Subproblem, subproblems, HasLagrangian, IsTight}
use Rattle.bip_model.specs.Candidates.{is_useful}
use Rattle.bip_model.specs.Laws.{NoneUseful}
use Rattle.bip_model.specs.Trees.{Tree, Branches, Leaf, Full, in_side, out_side, set_at}
use Rattle.bip_model.specs.Views.{space_in, node_of}
use Rattle.bip_model.proofs.Deciding.{space-same}
use Rattle.bip_model.proofs.Descending.{with-config}
use Rattle.bip_model.proofs.Lists.{front-of, back-of}
use Rattle.bip_model.proofs.Totalling.{value-total}
use Rattle.bip_model.proofs.Unrented.{useless-total}
use Rattle.bip_model.proofs.Usefulness.{useful-to}
use Rattle.branch_bound.specs.declared.found.Found.{Found}
use Rattle.branch_bound.specs.Sides.{fixed, inside, total}
use Rattle.branch_bound.specs.inner.Runs.{Rules, lag, reaches, visited, NoChoice, IsHighest, IsForced, branched, Runs}
use Rattle.branch_bound.proofs.Running.{AreRulesFor, own_sets, zeros-value, set-within, leaf-set, visit, in-is, out-is, good-choice, runs-later}

-- ## A leaf without a choice is closed

no-choice-useless : (setting : TheSetting) (rules : Rules) (fix : Fix) → AreRulesFor setting rules → NoChoice rules fix → NoneUseful setting rules.budget (node_of fix)
no-choice-useless setting rules fix are none zero open' useful = absurd (omega (arith, useful.some))
no-choice-useless setting rules fix are none (suc i) open' useful =
    let within_shapes = slice_get_within setting.shapes (suc i - 1) useful.shape useful.found in
    let within : i < length rules.programme.sizes = omega (arith, within_shapes, ap length are.stands.sizes_are, length-map setting.shapes (shape_pages setting.cat)) in
    let opens : nodes.is_open_in (space_in rules.programme rules.budget) (node_of fix) (suc i) ≡ true =
    ap (λ (space : Space). nodes.is_open_in space (node_of fix) (suc i)) (sym (space-same setting rules.programme rules.budget are.stands)) ∙ open' in
    let next : suc i ≡ i + 1 = omega arith in
    let helps : slice_index_or rules.useful i false ≡ true = are.useful_are i within ∙ ap (is_useful rules.programme rules.budget) (sym next) ∙ useful-to setting rules.programme rules.budget (suc i) are.stands useful in
    absurd (false≢true (sym (none i within) ∙ and_from (slice_index_or rules.useful i false) (nodes.is_open_in (space_in rules.programme rules.budget) (node_of fix) (suc i)) helps opens))

reached-total : (value : ℤ) (sum cost : ℕ) → value ≡ pos sum → cost ≤ sum → reaches value cost ≡ true
reached-total value sum cost is less = ap (λ (v : ℤ). reaches v cost) is ∙ le-leb cost sum less

closed-without : (setting : TheSetting) (rules : Rules) (fix : Fix) (before : Found) → AreRulesFor setting rules → IsConfigOf setting.shapes (inside fix) → NoChoice rules fix → reaches (lag rules fix 0) (visited rules fix before).cost ≡ false → ⊥
closed-without setting rules fix before are config none promising =
    let sum = useless-total setting rules.budget (node_of fix) (lag rules fix 0) (total rules.programme fix) are.limits config (no-choice-useless setting rules fix are none) (zeros-value setting rules fix are)
    (value-total setting rules.programme (inside fix) are.limits are.stands) in
    false≢true (sym promising ∙ reached-total (lag rules fix 0) (total rules.programme fix) (visited rules fix before).cost sum (visit rules fix before).most)

-- ## The least value

pub record IsLowest (setting : TheSetting) (rules : Rules) (list : List Subproblem) (low : ℤ) (made : ℕ) : Type 0 where
  pub tight : IsTight setting rules.budget low (own_sets rules) list
  pub spent : (rules.stops ≡ true) ⊎ (rules.nodes ≤ made + 1)

min-cases : (x y : ℤ) → (int_min x y ≡ x) ⊎ (int_min x y ≡ y)
min-cases x y = to (int_lt y x)
  where
    to : (b : Bool) → (cond b y x ≡ x) ⊎ (cond b y x ≡ y)
    to true = inr refl
    to false = inl refl

highest-at : (setting : TheSetting) (rules : Rules) (fix : Fix) (k : ℕ) (low : ℤ) → AreRulesFor setting rules → low ≡ lag rules fix k → IsHighest rules fix (length rules.sets) k (lag rules fix k) →
    (j : ℕ) (other : TheMultipliers) → set_at (own_sets rules) j ≡ Some other → HasLagrangian setting rules.budget (node_of fix) other (λ value. value ≤ℤ low)
highest-at setting rules fix k low are is highest j other found =
    let within = set-within rules j other found in
    let set = leaf-set setting rules fix j are within in
    let same : set.multipliers ≡ other = only set.multipliers other (sym set.found ∙ found) in
    let over = highest.over j within in
    record { value = lag rules fix j; value_is = subst (λ (m : TheMultipliers). IsLagrangian setting rules.budget (node_of fix) m (lag rules fix j)) same set.value_is; holds = omega (arith, ints, is, over) }
  where
    only : (a b : TheMultipliers) → Some a ≡ Some b → a ≡ b
    only a b e = cc

forced-lowest : (setting : TheSetting) (rules : Rules) (fix : Fix) (before after : Found) (k : ℕ) → AreRulesFor setting rules → IsConfigOf setting.shapes (inside fix) → IsForced rules fix (visited rules fix before) k →
    after.low ≡ lag rules fix k → after.made ≡ (visited rules fix before).made → IsLowest setting rules (subproblems (node_of fix) (Leaf k)) after.low after.made
forced-lowest setting rules fix before after k are config forced low made =
    let set = leaf-set setting rules fix k are forced.highest.set in
    record {
      tight =
          record {
            number = 0;
            leaf = record { node = node_of fix; tree = Leaf k };
            leaf_found = refl;
            set = k;
            leaf_is = refl;
            multipliers = set.multipliers;
            set_found = set.found;
            value_is = subst (λ (v : ℤ). IsLagrangian setting rules.budget (node_of fix) set.multipliers v) (sym low) set.value_is;
            highest = highest-at setting rules fix k after.low are low forced.highest;
          };
      spent =
          elim forced.why [
            | inl stops ↦ inl stops
            | inr more ↦
                elim more [
                  | inl few ↦ inr (omega (arith, few, made))
                  | inr none ↦ absurd (closed-without setting rules fix before are config none forced.promising)
                ]
          ];
    }

shifted : (setting : TheSetting) (budget : ℕ) (bound : ℤ) (sets : List TheMultipliers) (xs ys : List Subproblem) (i : ℕ) → (tight : IsTight setting budget bound sets xs) → slice_get ys i ≡ Some tight.leaf → IsTight setting budget bound sets ys
shifted setting budget bound sets xs ys i tight found =
    record {
      number = i;
      leaf = tight.leaf;
      leaf_found = found;
      set = tight.set;
      leaf_is = tight.leaf_is;
      multipliers = tight.multipliers;
      set_found = tight.set_found;
      value_is = tight.value_is;
      highest = tight.highest;
    }

numbered-within : (setting : TheSetting) (rules : Rules) (a i : ℕ) → AreRulesFor setting rules → a ≡ i + 1 → i < length rules.programme.sizes → a ≤ length setting.shapes
numbered-within setting rules a i are is within = omega (arith, is, within, ap length are.stands.sizes_are, length-map setting.shapes (shape_pages setting.cat))

-- the least value is the one before, or that of a leaf of the tree where the walk gave up
pub runs-lowest : (setting : TheSetting) (rules : Rules) (fix : Fix) (before : Found) (tree : Tree) (after : Found) → AreRulesFor setting rules → IsConfigOf setting.shapes (inside fix) → Runs rules fix before tree after →
    (after.low ≡ before.low) ⊎ IsLowest setting rules (subproblems (node_of fix) tree) after.low after.made
runs-lowest setting rules fix before (Leaf k) after are config run =
    elim run [
      | inl closed ↦ inl (ap (λ (f : Found). f.low) closed.after_is ∙ (visit rules fix before).low)
      | inr forced ↦
          elim (min-cases (visited rules fix before).low (lag rules fix k)) [
            | inl same ↦ inl (ap (λ (f : Found). f.low) forced.after_is ∙ same ∙ (visit rules fix before).low)
            | inr own ↦
                inr (forced-lowest setting rules fix before after k are config forced.forced (ap (λ (f : Found). f.low) forced.after_is ∙ own) (ap (λ (f : Found). f.made) forced.after_is))
          ]
    ]
runs-lowest setting rules fix before (Branches a inside_tree outside_tree) after are config run =
    let i = run.index in
    let here : Found = visited rules fix before in
    let good = good-choice setting rules fix a i are run.numbered run.branch.choice in
    let in_node = in-is fix a i run.numbered good.free in
    let out_node = out-is fix a i run.numbered good.free in
    let xs : List Subproblem = subproblems (in_side (node_of fix) a) inside_tree in
    let ys : List Subproblem = subproblems (out_side (node_of fix) a) outside_tree in
    let later = runs-later rules (fixed fix i Out) run.middle outside_tree after run.outside_run in
    elim (runs-lowest setting rules (fixed fix i Out) run.middle outside_tree after are (subst (λ (n : nodes.Node). IsConfigOf setting.shapes n.inside) (sym out_node) config) run.outside_run) [
      | inr low ↦
          let there : IsLowest setting rules ys after.low after.made = subst (λ (n : nodes.Node). IsLowest setting rules (subproblems n outside_tree) after.low after.made) out_node low in
          inr (record {
            tight = shifted setting rules.budget after.low (own_sets rules) ys (subproblems (node_of fix) (Branches a inside_tree outside_tree)) (suc (length xs + there.tight.number)) there.tight (back-of xs ys there.tight.number there.tight.leaf there.tight.leaf_found);
            spent = there.spent;
          })
      | inl same ↦
          elim (runs-lowest setting rules (fixed fix i In) (branched here) inside_tree run.middle are (subst (λ (n : nodes.Node). IsConfigOf setting.shapes n.inside) (sym in_node) (with-config setting.shapes (inside fix) a (omega (arith, run.numbered)) (numbered-within setting rules a i are run.numbered run.branch.choice.within) config)) run.inside_run) [
            | inl equal ↦ inl (same ∙ equal ∙ (visit rules fix before).low)
            | inr low ↦
                let there : IsLowest setting rules xs run.middle.low run.middle.made = subst (λ (n : nodes.Node). IsLowest setting rules (subproblems n inside_tree) run.middle.low run.middle.made) in_node low in
                let tight : IsTight setting rules.budget after.low (own_sets rules) xs = subst (λ (v : ℤ). IsTight setting rules.budget v (own_sets rules) xs) (sym same) there.tight in
                inr (record {
                  tight = shifted setting rules.budget after.low (own_sets rules) xs (subproblems (node_of fix) (Branches a inside_tree outside_tree)) (suc tight.number) tight (front-of xs ys tight.number tight.leaf tight.leaf_found);
                  spent = elim there.spent [ inl stops ↦ inl stops | inr spent ↦ inr (omega (arith, spent, later.made)) ];
                })
          ]
    ]
runs-lowest setting rules fix before Full after are config run = inl (ap (λ (f : Found). f.low) run.after_is)
