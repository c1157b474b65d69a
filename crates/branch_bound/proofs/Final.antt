-- A run from the root, a climb after it, and the bound of both: the best answer of each setting for which the programme stands.
use Rattle.std.proofs.Common.{◌≡◌, ◌∙◌, ◌⊎◌, inl, inr, ℕ, zero, suc, ◌+◌, ◌-◌, ◌*◌, ◌^◌, ◌<◌, ◌≤◌, Bool, true, false, cond, List, [], ◌∷◌, length, map, get_or, All, ℤ, pos, negsuc, refl, sym, ap, subst, arith}
use Rattle.std.specs.Prelude.{nat_lt, not, ◌==◌, count_by, ◌≤ℤ◌, ◌<ℤ◌}
use Rattle.std.proofs.Math.ListN.{get_or-map, get_or-eq_default}
use Rattle.std.proofs.lemmas.Bool.{cases_lt, false≢true, ltb-true}
use Rattle.std.proofs.lemmas.Int.{ints}
use Rattle.std.proofs.lemmas.List.{length-map}
use Rattle.std.proofs.lemmas.List.Sums.{count_by-le-length, sum_by-cons}
use Rattle.adv_base.specs.declared.limits.TheConstants.{MOST_CANDIDATES, MOST_ENTRIES, MOST_RENT}
use Rattle.adv_base.specs.declared.setting.Config.{Config}
use Rattle.adv_base.specs.Configs.{has_candidate, IsConfigOf, Fits}
use Rattle.adv_base.specs.Laws.{IsRent}
use Rattle.adv_base.specs.Nodes.{is_free, IsBelow}
use Rattle.adv_base.specs.Settings.{TheSetting, KeepsLimits}
use Rattle.adv_base.specs.Sizes.{shape_pages}
use Rattle.plan_model.specs.declared.plan.TheConstants.{MOST_TOTAL}
use Rattle.plan_model.specs.Lagrangian.{TheMultipliers, IsLagrangian, IsAtMost}
use Rattle.plan_model.specs.Useful.{AreUseful}
use Rattle.plan_model.specs.Totals.{IsTotal}
use Rattle.plan_model.proofs.Renting.{flag-of}
use Rattle.plan_model.proofs.TotalBound.{total-below}
use Rattle.bip_model.specs.declared.answer.Node.{Node}
use Rattle.bip_model.specs.declared.fix.Fix.{Fix}
use Rattle.bip_model.specs.declared.fix.State.{State}
use Rattle.bip_model.specs.declared.fix.State.TheVariants.{Free, In, Out}
use Rattle.bip_model.specs.declared.multipliers.Multipliers.{Multipliers}
use Rattle.bip_model.specs.declared.programme.Programme.{Programme}
use Rattle.bip_model.specs.Best.{Subproblem, subproblems, NoneCostsLess, entry_count, HasTotal, HasLagrangian, IsTight, IsBest, without_candidate}
use Rattle.bip_model.specs.Candidates.{useful_below}
use Rattle.bip_model.specs.Proves.{RentsUses}
use Rattle.bip_model.specs.SearchLaws.{IsWhole}
use Rattle.bip_model.specs.Trees.{Tree, Leaf, ByFit, preorder, with_candidate, Shows}
use Rattle.bip_model.specs.Uses.{multipliers_in, AreMultipliersIn, rent_multipliers}
use Rattle.bip_model.specs.StandsFor.{StandsFor}
use Rattle.bip_model.specs.Values.{value, grant_count}
use Rattle.bip_model.specs.Views.{Place, is_place, rent_at, places, is_in, is_out, node_of, multipliers_of, AreMultipliers, state_at}
use Rattle.bip_model.proofs.Counting.{tight-smaller}
use Rattle.bip_model.proofs.Descending.{useful-branches, value-below, subproblems-length}
use Rattle.bip_model.proofs.Exploring.{AreExplored, explored-worthwhile}
use Rattle.bip_model.proofs.Places.{rents-use, entries-most}
use Rattle.bip_model.proofs.Showing.{shown}
use Rattle.adv_base.proofs.OfferBounds.{offers-limits}
use Rattle.bip_model.proofs.Totalling.{value-total}
use Rattle.bip_model.proofs.Usefulness.{useful-counted}
use Rattle.bip_model.proofs.Using.{multipliers-used, multipliers-kept}
use Rattle.bip_model.proofs.Lists.{on-get}
use Rattle.lagrange_bound.specs.Bounds.{lagrangian}
use Rattle.branch_bound.specs.declared.climb.Costed.{Costed}
use Rattle.branch_bound.specs.declared.found.Found.{Found}
use Rattle.branch_bound.specs.Sides.{inside, total, IsRoot}
use Rattle.branch_bound.specs.inner.Climbs.{flag_at, IsSound, IsTop}
use Rattle.branch_bound.specs.inner.Runs.{Rules, lag, MOST_LOW, reaches, started, Runs, least_bound}
use Rattle.branch_bound.proofs.Climbing.{free-is}
use Rattle.branch_bound.proofs.Fitting.{fits-in, fitting-of, runs-fit}
use Rattle.branch_bound.proofs.Running.{AreRulesFor, own_sets, first_set, first-fits, first-value, first-found, reach-is, runs-explored, runs-shows, not-less-of}
use Rattle.branch_bound.proofs.Sound.{under-root, sound-inside}
use Rattle.branch_bound.proofs.Choices.{free-of}
use Rattle.branch_bound.proofs.Tight.{IsLowest, runs-lowest}

-- ## The bound

pub bound-cost : (cost : ℕ) (low : ℤ) → least_bound cost low ≤ℤ pos cost
bound-cost cost (pos n) = to (nat_lt n cost) refl
  where
    to : (b : Bool) → nat_lt n cost ≡ b → cond b (pos n) (pos cost) ≤ℤ pos cost
    to true is = let less = ltb-true n cost is in omega (arith, ints, less)
    to false is = omega (arith, ints)
bound-cost cost (negsuc n) = omega (arith, ints)

pub bound-low : (cost : ℕ) (low : ℤ) → least_bound cost low ≤ℤ low
bound-low cost (pos n) = to (nat_lt n cost) refl
  where
    to : (b : Bool) → nat_lt n cost ≡ b → cond b (pos n) (pos cost) ≤ℤ pos n
    to true is = omega (arith, ints)
    to false is = let more = not-less-of n cost is in omega (arith, ints, more)
bound-low cost (negsuc n) = omega (arith, ints)

pub bound-cases : (cost : ℕ) (low : ℤ) → (least_bound cost low ≡ pos cost) ⊎ (least_bound cost low ≡ low)
bound-cases cost (pos n) = to (nat_lt n cost)
  where
    to : (b : Bool) → (cond b (pos n) (pos cost) ≡ pos cost) ⊎ (cond b (pos n) (pos cost) ≡ pos n)
    to true = inr refl
    to false = inl refl
bound-cases cost (negsuc n) = inr refl

-- ## Configurations

sizes-shapes : (setting : TheSetting) (rules : Rules) → AreRulesFor setting rules → length rules.programme.sizes ≡ length setting.shapes
sizes-shapes setting rules are = ap length are.stands.sizes_are ∙ length-map setting.shapes (shape_pages setting.cat)

pub sound-config : (setting : TheSetting) (rules : Rules) (root : Fix) (config : Config) (cost : ℕ) → AreRulesFor setting rules → IsSound rules.programme rules.shapes rules.budget root config cost → IsConfigOf setting.shapes config
sound-config setting rules root config cost are sound a found =
    elim (cases_lt a (length setting.shapes)) [
      | inl within ↦ within
      | inr past ↦ absurd (false≢true (sym (sound.past a (omega (arith, past, sizes-shapes setting rules are))) ∙ on-get config.on a found))
    ]

-- the state of a candidate that is in, or out, at a node
in-state : (state : State) → is_in state ≡ true → state ≡ In
in-state Free on = absurd (false≢true on)
in-state In on = refl
in-state Out on = absurd (false≢true on)

out-state : (state : State) → is_out state ≡ true → state ≡ Out
out-state Free on = absurd (false≢true on)
out-state In on = absurd (false≢true on)
out-state Out on = refl

pub sound-below : (rules : Rules) (root : Fix) (config : Config) (cost : ℕ) → IsSound rules.programme rules.shapes rules.budget root config cost → IsBelow (node_of root) config
sound-below rules root config cost sound = record { holds = holds; lacks = lacks }
  where
    holds : (a : ℕ) → has_candidate (node_of root).inside a ≡ true → has_candidate config a ≡ true
    holds zero on = absurd (false≢true on)
    holds (suc i) on = flag-of config i ∙ sound.holds i (in-state (state_at root i) (sym (get_or-map is_in root.state i Free) ∙ sym (flag-of (node_of root).inside i) ∙ on))

    lacks : (a : ℕ) → has_candidate (node_of root).outside a ≡ true → has_candidate config a ≡ false
    lacks zero on = absurd (false≢true on)
    lacks (suc i) on = flag-of config i ∙ sound.lacks i (out-state (state_at root i) (sym (get_or-map is_out root.state i Free) ∙ sym (flag-of (node_of root).outside i) ∙ on))

one-more : (setting : TheSetting) (rules : Rules) (root : Fix) (config : Config) (cost : ℕ) → AreRulesFor setting rules → IsTop rules.programme rules.shapes rules.budget root config cost →
    (a : ℕ) → 1 ≤ a → a ≤ length setting.shapes → is_free (node_of root) a ≡ true → has_candidate config a ≡ false → Fits setting.cat setting.shapes (with_candidate config a) rules.budget →
    HasTotal setting (with_candidate config a) (λ sum. cost ≤ sum)
one-more setting rules root config cost are top zero some within free off fits = absurd (omega (arith, some))
one-more setting rules root config cost are top (suc i) some within free off fits =
    let place : suc i - 1 ≡ i = omega arith in
    let gains = top (suc i - 1) (omega (arith, within, sizes-shapes setting rules are)) in
    record {
      total = value rules.programme (with_candidate config (suc i));
      total_is = value-total setting rules.programme (with_candidate config (suc i)) are.limits are.stands;
      holds =
          gains.more (ap (state_at root) place ∙ free-is (state_at root i) (free-of root i free)) (ap (flag_at config) place ∙ sym (flag-of config i) ∙ off) (fitting-of setting rules (with_candidate config (suc i)) are fits);
    }

one-less : (setting : TheSetting) (rules : Rules) (root : Fix) (config : Config) (cost : ℕ) → AreRulesFor setting rules → IsSound rules.programme rules.shapes rules.budget root config cost → IsTop rules.programme rules.shapes rules.budget root config cost →
    (a : ℕ) → is_free (node_of root) a ≡ true → has_candidate config a ≡ true → HasTotal setting (without_candidate config a) (λ sum. cost < sum)
one-less setting rules root config cost are sound top zero free on = absurd (false≢true on)
one-less setting rules root config cost are sound top (suc i) free on =
    let place : suc i - 1 ≡ i = omega arith in
    let flag : flag_at config i ≡ true = sym (flag-of config i) ∙ on in
    let within : i < length rules.programme.sizes =
    elim (cases_lt i (length rules.programme.sizes)) [ inl below ↦ below | inr past ↦ absurd (false≢true (sym (sound.past i past) ∙ flag)) ] in
    let gains = top (suc i - 1) (omega (arith, within)) in
    record {
      total = value rules.programme (without_candidate config (suc i));
      total_is = value-total setting rules.programme (without_candidate config (suc i)) are.limits are.stands;
      holds = gains.less (ap (state_at root) place ∙ free-is (state_at root i) (free-of root i free)) (ap (flag_at config) place ∙ flag);
    }

-- ## Where the search gave up

cost-below : (setting : TheSetting) (rules : Rules) (config : Config) (cost : ℕ) → AreRulesFor setting rules → cost ≡ value rules.programme config → cost < MOST_TOTAL
cost-below setting rules config cost are is =
    total-below setting.cat setting.shapes config setting.statements cost are.limits.shapes_most are.limits.statements_most (λ k d within block is'. offers-limits setting.cat block setting.shapes config)
    (subst (λ (n : ℕ). IsTotal setting.cat setting.shapes config setting.statements n) (sym is) (value-total setting rules.programme config are.limits are.stands))

never-start : (bound low : ℤ) (cost : ℕ) → bound ≡ low → low ≡ pos MOST_LOW → cost < MOST_TOTAL → bound <ℤ pos cost → ⊥
never-start bound low cost is at_start few below = omega (arith, ints, is, at_start, few, below)

-- the bound is the cost, or the least value of the leaves where the walk gave up
pub given-up : (setting : TheSetting) (rules : Rules) (root : Fix) (known : Costed) (tree : Tree) (after : Found) (cost : ℕ) → AreRulesFor setting rules → IsConfigOf setting.shapes (inside root) → cost < MOST_TOTAL →
    Runs rules root (started known) tree after → least_bound cost after.low <ℤ pos cost → IsLowest setting rules (subproblems (node_of root) tree) (least_bound cost after.low) after.made
given-up setting rules root known tree after cost are config few run below =
    elim (bound-cases cost after.low) [
      | inl same ↦ absurd (not-below (least_bound cost after.low) cost same below)
      | inr low ↦
          elim (runs-lowest setting rules root (started known) tree after are config run) [
            | inl at_start ↦ absurd (never-start (least_bound cost after.low) after.low cost low at_start few below)
            | inr lowest ↦ subst (λ (v : ℤ). IsLowest setting rules (subproblems (node_of root) tree) v after.made) (sym low) lowest
          ]
    ]
  where
    not-below : (bound : ℤ) (cost : ℕ) → bound ≡ pos cost → bound <ℤ pos cost → ⊥
    not-below bound cost same below = omega (arith, ints, same, below)

-- a walk that stops closed all leaves, or left no node
reached-bound : (cost more : ℕ) (low : ℤ) → reaches low more ≡ true → cost ≤ more → least_bound cost low <ℤ pos cost → ⊥
reached-bound cost more low reached less below =
    let most = reach-is low more reached in
    elim (bound-cases cost low) [
      | inl same ↦ omega (arith, ints, same, below)
      | inr own ↦ omega (arith, ints, own, below, most, less)
    ]

all-spent : (rules : Rules) (after : Found) (cost : ℕ) → (rules.stops ≡ true → (reaches after.low after.cost ≡ true) ⊎ (rules.nodes ≤ after.made + 1)) → cost ≤ after.cost →
    least_bound cost after.low <ℤ pos cost → (rules.stops ≡ true) ⊎ (rules.nodes ≤ after.made + 1) → rules.nodes ≤ after.made + 1
all-spent rules after cost done cheaper below spent =
    elim spent [
      | inr all ↦ all
      | inl stops ↦ elim (done stops) [ inl reached ↦ absurd (reached-bound cost after.cost after.low reached cheaper below) | inr all ↦ all ]
    ]

-- ## Rents

pick-most : (b : Bool) (x y most : ℕ) → x ≤ most → y ≤ most → cond b x y ≤ most
pick-most true x y most first second = first
pick-most false x y most first second = second

rent-most : (list : List Place) (rents : List ℕ) → ((i : ℕ) → get_or rents i 0 ≤ MOST_RENT) → (q s a : ℕ) → rent_at list rents q s a ≤ MOST_RENT
rent-most [] rents most q s a = omega arith
rent-most (place ∷ list) [] most q s a = omega arith
rent-most (place ∷ list) (rent ∷ rents) most q s a =
    pick-most (is_place place q s a) rent (rent_at list rents q s a) MOST_RENT (most 0) (rent-most list rents (λ i. most (suc i)) q s a)

each-most : (rents : List ℕ) → All (λ rent. rent ≤ MOST_RENT) rents → (i : ℕ) → get_or rents i 0 ≤ MOST_RENT
each-most rents all i =
    elim (cases_lt i (length rents)) [
      | inl within ↦ all i 0 within
      | inr past ↦ let none = get_or-eq_default rents 0 {n = i} past in omega (arith, none)
    ]

pub rents-limited : (programme : Programme) (multipliers : Multipliers) → AreMultipliers programme multipliers → (q : ℕ) → IsRent ((multipliers_of programme multipliers).rent q)
rents-limited programme multipliers are q s a = rent-most (places programme) multipliers.lambda (each-most multipliers.lambda are.rents_most) q s a

-- the root's value under the rents is at most the cost, and at most the bound
root-cost : (setting : TheSetting) (rules : Rules) (root : Fix) (config : Config) (cost : ℕ) → AreRulesFor setting rules → IsSound rules.programme rules.shapes rules.budget root config cost → lag rules root 1 ≤ℤ pos cost
root-cost setting rules root config cost are sound =
    at-most (lag rules root 1) cost
    (shown ByFit setting rules.budget (lag rules root 1) (own_sets rules) (node_of root) (Leaf 1) config cost are.limits
    (record { multipliers = multipliers_of rules.programme (first_set rules); found = first-found setting rules are; value = lag rules root 1; value_is = first-value setting rules root are; at_least = omega (arith, ints) })
    (sound-config setting rules root config cost are sound) (fits-in setting rules config are sound.fits) (sound-below rules root config cost sound)
    (subst (λ (n : ℕ). IsTotal setting.cat setting.shapes config setting.statements n) (sym sound.cost_is) (value-total setting rules.programme config are.limits are.stands)))
  where
    at-most : (v : ℤ) (n : ℕ) → IsAtMost v n → v ≤ℤ pos n
    at-most (pos m) n less = omega (arith, ints, less)
    at-most (negsuc m) n less = omega (arith, ints)

root-bound : (setting : TheSetting) (rules : Rules) (root : Fix) (known : Costed) (tree : Tree) (after : Found) (config : Config) (cost : ℕ) → AreRulesFor setting rules → IsConfigOf setting.shapes (inside root) →
    IsSound rules.programme rules.shapes rules.budget root config cost → AreExplored setting rules.budget (subproblems (node_of root) tree) (started known).cost after.cost →
    Runs rules root (started known) tree after → lag rules root 1 ≤ℤ least_bound cost after.low
root-bound setting rules root known tree after config cost are config_is sound explored run =
    let most = root-cost setting rules root config cost are sound in
    elim (bound-cases cost after.low) [
      | inl same ↦ first (lag rules root 1) (least_bound cost after.low) cost same most
      | inr low ↦
          elim (runs-lowest setting rules root (started known) tree after are config_is run) [
            | inl at_start ↦ second (lag rules root 1) (least_bound cost after.low) after.low cost low at_start most (cost-below setting rules config cost are sound.cost_is)
            | inr lowest ↦
                let tight = lowest.tight in
                let own = tight.highest 1 (multipliers_of rules.programme (first_set rules)) (first-found setting rules are) in
                let at' = useful-branches setting rules.budget (node_of root) tree (explored-worthwhile setting rules.budget (subproblems (node_of root) tree) (started known).cost after.cost explored) in
                let rises = value-below setting rules.budget (node_of root) tree (multipliers_of rules.programme (first_set rules)) (lag rules root 1) own.value (rents-limited rules.programme (first_set rules) (first-fits setting rules are)) at'
                tight.number tight.leaf tight.leaf_found (first-value setting rules root are) own.value_is in
                third (lag rules root 1) own.value after.low (least_bound cost after.low) low rises own.holds
          ]
    ]
  where
    first : (v bound : ℤ) (cost : ℕ) → bound ≡ pos cost → v ≤ℤ pos cost → v ≤ℤ bound
    first v bound cost same most = omega (arith, ints, same, most)

    second : (v bound low : ℤ) (cost : ℕ) → bound ≡ low → low ≡ pos MOST_LOW → v ≤ℤ pos cost → cost < MOST_TOTAL → v ≤ℤ bound
    second v bound low cost same at_start most few = omega (arith, ints, same, at_start, most, few)

    third : (v value low bound : ℤ) → bound ≡ low → v ≤ℤ value → value ≤ℤ low → v ≤ℤ bound
    third v value low bound same one two = omega (arith, ints, same, one, two)

-- under the rent multipliers of a price the root's value is at most that under the set of the search
pub AtMostRents : TheSetting → Rules → Fix → ℕ → Type 0
AtMostRents setting rules root page = HasLagrangian setting rules.budget (node_of root) (rent_multipliers setting page) (λ value. value ≤ℤ lag rules root 1)

pub at-most-rents : (setting : TheSetting) (rules : Rules) (root : Fix) (page : ℕ) (multipliers : Multipliers) → AreRulesFor setting rules → AreMultipliers rules.programme multipliers →
    multipliers_of rules.programme multipliers ≡ rent_multipliers setting page → lagrangian rules.programme rules.budget root multipliers ≤ℤ lag rules root 1 → AtMostRents setting rules root page
unfolding AtMostRents
at-most-rents setting rules root page multipliers are fit same less =
    record {
      value = lagrangian rules.programme rules.budget root multipliers;
      value_is =
          subst (λ (m : TheMultipliers). IsLagrangian setting rules.budget (node_of root) m (lagrangian rules.programme rules.budget root multipliers)) same (are.values root multipliers fit);
      holds = less;
    }

-- ## The sets

-- they are multipliers of the setting's uses
sets-used : (setting : TheSetting) (programme : Programme) (sets : List Multipliers) → StandsFor setting programme → map (multipliers_in setting) sets ≡ map (multipliers_of programme) sets
sets-used setting programme [] stands = refl
sets-used setting programme (set ∷ sets) stands =
    ap (λ (m : TheMultipliers). m ∷ map (multipliers_in setting) sets) (sym (multipliers-used setting programme set stands))
    ∙ ap (λ (ms : List TheMultipliers). multipliers_of programme set ∷ ms) (sets-used setting programme sets stands)

sets-kept : (setting : TheSetting) (rules : Rules) → AreRulesFor setting rules → All (AreMultipliersIn setting) rules.sets
sets-kept setting rules are k d within = multipliers-kept setting rules.programme (get_or rules.sets k d) are.stands (are.sets_fit k d within)

rents-step : (n g head rest whole : ℕ) → head ≤ g → rest ≤ n * g → whole ≡ head + rest → whole ≤ suc n * g
rents-step n g head rest whole one two is = omega (arith, one, two, is)

-- all their rents are at most a rent for each grant and set
rents-most : (programme : Programme) (sets : List Multipliers) → All (AreMultipliers programme) sets → entry_count sets ≤ length sets * grant_count programme
rents-most programme [] all = omega arith
rents-most programme (set ∷ sets) all =
    let fits : AreMultipliers programme set = all 0 set (omega arith) in
    let counted = count_by-le-length (λ (rent : ℕ). not (rent == 0)) set.lambda in
    rents-step (length sets) (grant_count programme) (count_by (λ rent. not (rent == 0)) set.lambda) (entry_count sets) (entry_count (set ∷ sets)) (omega (arith, counted, fits.one_each))
    (rents-most programme sets (λ k d within. all (suc k) d (omega (arith, within)))) (sum_by-cons (λ (m : Multipliers). count_by (λ rent. not (rent == 0)) m.lambda) set sets)

one-set : (setting : TheSetting) (sets : List Multipliers) → KeepsLimits setting → All (AreMultipliersIn setting) sets → length sets ≡ 1 → entry_count sets ≤ MOST_ENTRIES
one-set setting [] limits all one = absurd (omega (arith, one))
one-set setting (set ∷ []) limits all one = entries-most setting set limits (all 0 set (omega arith))
one-set setting (set ∷ other ∷ sets) limits all one = absurd (omega (arith, one))

sets-entries : (setting : TheSetting) (programme : Programme) (sets : List Multipliers) → KeepsLimits setting → All (AreMultipliersIn setting) sets → All (AreMultipliers programme) sets →
    (length sets ≡ 1) ⊎ (length sets * grant_count programme ≤ MOST_ENTRIES) → entry_count sets ≤ MOST_ENTRIES
sets-entries setting programme sets limits kept fit few =
    elim few [
      | inl one ↦ one-set setting sets limits kept one
      | inr most ↦ let all = rents-most programme sets fit in omega (arith, all, most)
    ]

-- ## The answer

whole-node : (root : Fix) → length root.state ≡ MOST_CANDIDATES → IsWhole (node_of root)
whole-node root long = record { inside = length-map root.state is_in ∙ long; outside = length-map root.state is_out ∙ long }

smaller : (nodes made list useful : ℕ) → nodes ≤ made + 1 → made ≡ list → list + 3 ≤ 2 ^ (useful + 1) → nodes < 2 ^ (useful + 1) - 1
smaller nodes made list useful one two three = omega (arith, one, two, three)

pub best-answer : (setting : TheSetting) (rules : Rules) (root : Fix) (known : Costed) (tree : Tree) (after : Found) (config : Config) (cost : ℕ) (sets : List Multipliers) (list : List Node) (useful : ℕ) →
    AreRulesFor setting rules → IsRoot rules.programme rules.shapes rules.budget root → length root.state ≡ MOST_CANDIDATES → Runs rules root (started known) tree after → list ≡ preorder tree →
    length list ≡ after.made → after.made ≤ rules.nodes → (rules.stops ≡ true → (reaches after.low after.cost ≡ true) ⊎ (rules.nodes ≤ after.made + 1)) → sets ≡ rules.sets → useful ≡ useful_below rules.programme rules.budget (length rules.programme.sizes) →
    IsSound rules.programme rules.shapes rules.budget root config cost → cost ≤ after.cost → IsTop rules.programme rules.shapes rules.budget root config cost →
    AtMostRents setting rules root 0 → ((j : ℕ) → j < 40 → AtMostRents setting rules root (2 ^ j)) →
    IsBest setting rules.budget rules.nodes (node_of root) (record { config = config; cost = cost; bound = least_bound cost after.low; sets = sets; tree = list; useful = useful })
unfolding AtMostRents
best-answer setting rules root known tree after config cost sets list useful are is_root long run list_is made most done sets_are useful_is sound cheaper top none powers =
    let bound : ℤ = least_bound cost after.low in
    let nodes_of : List Subproblem = subproblems (node_of root) tree in
    let root_config = sound-config setting rules root (inside root) (total rules.programme root) are (sound-inside rules.programme rules.shapes rules.budget root root (under-root rules.programme rules.shapes rules.budget root is_root) is_root.apart) in
    let explored = runs-explored setting rules root (started known) tree after are run in
    let worthwhile = explored-worthwhile setting rules.budget nodes_of (started known).cost after.cost explored in
    let own : map (multipliers_in setting) sets ≡ own_sets rules = ap (map (multipliers_in setting)) sets_are ∙ sets-used setting rules.programme rules.sets are.stands in
    let in_tree = costs-less setting rules.budget nodes_of after.cost cost cheaper explored.costs in
    let up = root-bound setting rules root known tree after config cost are root_config sound explored run in
    let counted = subst (λ (n : ℕ). AreUseful setting rules.budget n) (sym useful_is) (useful-counted setting rules.programme rules.budget are.stands) in
    record {
      proves =
          record {
            members = sound-config setting rules root config cost are sound;
            fits = fits-in setting rules config are sound.fits;
            cost_is = subst (λ (n : ℕ). IsTotal setting.cat setting.shapes config setting.statements n) (sym sound.cost_is) (value-total setting rules.programme config are.limits are.stands);
            rents = uses-all setting sets;
            shown =
                record {
                  tree = tree;
                  list_is = list_is;
                  shows =
                      subst (λ (ms : List TheMultipliers). Shows ByFit setting rules.budget bound ms (node_of root) tree) (sym own)
                      (runs-shows setting rules root (started known) tree after bound are run (below-both bound cost after.cost (bound-cost cost after.low) cheaper) (bound-low cost after.low));
                };
          };
      obeys = sound-below rules root config cost sound;
      bound_most = bound-cost cost after.low;
      worthwhile = worthwhile;
      nodes_most = omega (arith, made, most);
      gave_up = λ below.
          let lowest = given-up setting rules root known tree after cost are root_config (cost-below setting rules config cost are sound.cost_is) run below in
          let spent = all-spent rules after cost done cheaper below lowest.spent in
          let same = subproblems-length (node_of root) tree ∙ ap length (sym list_is) in
          let fit = runs-fit setting rules root (started known) tree after are is_root.fits worthwhile run in
          let small = tight-smaller setting rules.budget useful (node_of root) tree (own_sets rules) bound cost are.limits counted (whole-node root long) root_config fit worthwhile in_tree lowest.tight below in
          record {
            spent = omega (arith, spent, made);
            fewer = smaller rules.nodes after.made (length nodes_of) useful spent (sym made ∙ sym same) small;
            tight = subst (λ (ms : List TheMultipliers). IsTight setting rules.budget bound ms nodes_of) (sym own) lowest.tight;
          };
      locally_best = record { with_one_more = one-more setting rules root config cost are top; with_one_less = one-less setting rules root config cost are sound top };
      in_tree = in_tree;
      rents_none = raised setting rules root bound 0 up none;
      rents = λ j few. raised setting rules root bound (2 ^ j) up (powers j few);
      useful = counted;
      limits =
          record {
            most = omega (arith, ap length sets_are, are.few);
            each = subst (λ (ms : List Multipliers). All (AreMultipliersIn setting) ms) (sym sets_are) (sets-kept setting rules are);
            entries_most = subst (λ (ms : List Multipliers). entry_count ms ≤ MOST_ENTRIES) (sym sets_are) (sets-entries setting rules.programme rules.sets are.limits (sets-kept setting rules are) are.sets_fit are.entries);
          };
    }
  where
    below-both : (bound : ℤ) (cost more : ℕ) → bound ≤ℤ pos cost → cost ≤ more → bound ≤ℤ pos more
    below-both bound cost more one two = omega (arith, ints, one, two)

    costs-less : (setting : TheSetting) (budget : ℕ) (list : List Subproblem) (more cost : ℕ) → cost ≤ more → NoneCostsLess setting budget list more → NoneCostsLess setting budget list cost
    costs-less setting budget list more cost less all i s found fits =
        let has = all i s found fits in
        record { total = has.total; total_is = has.total_is; holds = omega (arith, less, has.holds) }

    raised : (setting : TheSetting) (rules : Rules) (root : Fix) (bound : ℤ) (page : ℕ) → lag rules root 1 ≤ℤ bound → HasLagrangian setting rules.budget (node_of root) (rent_multipliers setting page) (λ value. value ≤ℤ lag rules root 1) →
        HasLagrangian setting rules.budget (node_of root) (rent_multipliers setting page) (λ value. value ≤ℤ bound)
    raised setting rules root bound page up has = record { value = has.value; value_is = has.value_is; holds = through has.value (lag rules root 1) bound has.holds up }
      where
        through : (a b c : ℤ) → a ≤ℤ b → b ≤ℤ c → a ≤ℤ c
        through a b c one two = omega (arith, ints, one, two)

    uses-all : (setting : TheSetting) (sets : List Multipliers) → All (RentsUses setting) (map (multipliers_in setting) sets)
    uses-all setting [] k d within = absurd (omega (arith, within))
    uses-all setting (set ∷ sets) zero d within = rents-use setting set
    uses-all setting (set ∷ sets) (suc k) d within = uses-all setting sets k d (omega (arith, within))
