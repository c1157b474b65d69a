-- Laws of plan costs of which some are priced anew.
use Rattle.std.proofs.Common.{◌≡◌, ◌∙◌, ◌≢◌, inl, inr, ℕ, zero, suc, ◌+◌, ◌-◌, ◌*◌, ◌<◌, ◌≤◌, Bool, false, List, [], ◌∷◌, All, length, get_or, take, drop, refl, sym, ap, subst, arith, get_or-set_other}
use Rattle.std.specs.Prelude.{Option, Some, slice_get, slice_set, sum_by}
use Rattle.std.proofs.Math.Nat.{mul-le-mul}
use Rattle.std.proofs.lemmas.Bool.{cases_eq, cases_Bool}
use Rattle.std.proofs.lemmas.List.{drop-drop, ext_get_or, get_or-set_same, take_all}
use Rattle.std.proofs.lemmas.List.Elements.{All-head, All-tail}
use Rattle.std.proofs.lemmas.List.Sums.{sum_by-cons}
use Rattle.adv_base.specs.declared.limits.TheConstants.{MOST_WEIGHT}
use Rattle.adv_base.specs.declared.setting.Config.{Config}
use Rattle.adv_base.specs.Configs.{has_candidate}
use Rattle.plan_model.proofs.Renting.{flag-of}
use Rattle.bip_model.specs.declared.grant.Grant.{Grant}
use Rattle.bip_model.specs.declared.part.Part.{Part}
use Rattle.bip_model.specs.declared.slot_part.SlotPart.{SlotPart}
use Rattle.bip_model.specs.Candidates.{has_cheaper}
use Rattle.bip_model.specs.Values.{MOST_PLAN, part_grants}
use Rattle.lagrange_bound.specs.Rented.{rented_cost, plan_costs, weighted_costs}
use Rattle.lagrange_bound.specs.inner.Marks.{Keeps, IsNoted, AreNoted, AreMarked}
use Rattle.lagrange_bound.specs.inner.CostsAnew.{IsPriced}
use Rattle.lagrange_bound.proofs.CarriedCosts.{IsSettled, SlotsSettled, length-plan_costs, all-more, rented_cost-settled}

-- ## Flags

pub grant-kept : (old new : List Bool) (i : ℕ) (base : List (Option ℕ)) → Keeps old new → (grant : Grant) → IsNoted old i base grant → IsNoted new i base grant
grant-kept old new i base keeps grant noted = λ cheaper. keeps ((grant.candidate - 1) * 1000 + i) (noted cheaper)

pub slot-kept : (old new : List Bool) (i : ℕ) → Keeps old new → (slot : SlotPart) → AreNoted old i slot → AreNoted new i slot
slot-kept old new i keeps slot noted k d within = grant-kept old new i slot.base keeps (get_or slot.grants k d) (noted k d within)

-- one element more of a list has what those before it keep; the list has a second name
pub noted-more : {X : Type 0} (Old New : X → Type 0) (xs list : List X) (k : ℕ) (x : X) → list ≡ xs → k < length list → x ≡ get_or list k x →
    ((y : X) → Old y → New y) → All Old (take k xs) → New x → All New (take (k + 1) xs)
noted-more {X} Old New xs list k x same within is kept before here =
    all-more New xs k x (subst (λ (ys : List X). k < length ys) same within) (is ∙ ap (λ (ys : List X). get_or ys k x) same)
    (λ j d inside. kept (get_or (take k xs) j d) (before j d inside)) here

-- and so all have it where none is left
pub noted-all : {X : Type 0} (P : X → Type 0) (xs list : List X) (k : ℕ) → list ≡ xs → length list ≤ k → All P (take k xs) → All P xs
noted-all {X} P xs list k same past before = subst (All P) (take_all k xs (subst (λ (ys : List X). length ys ≤ k) same past)) before

-- ## The parts without a mark

has-flag : (config : Config) (a : ℕ) → 1 ≤ a → has_candidate config a ≡ get_or config.on (a - 1) false
has-flag config zero some = absurd (omega (arith, some))
has-flag config (suc a) some = let back : a ≡ suc a - 1 = omega arith in flag-of config a ∙ ap (λ (k : ℕ). get_or config.on k false) back

settled-here : (flags marks : List Bool) (from to : Config) (count i : ℕ) (base : List (Option ℕ)) (grant : Grant) → AreMarked flags from to marks count 256 → i < count → get_or marks i false ≡ false →
    IsNoted flags i base grant → IsSettled from to base grant
settled-here flags marks from to count i base grant marked within unmarked noted =
    elim (cases_Bool (has_cheaper grant.prices base)) [
      | inl cheaper ↦
          let some : 1 ≤ grant.candidate = grant.limits.least in
          let few : grant.candidate ≤ 256 = grant.limits.most in
          let same : get_or from.on (grant.candidate - 1) false ≡ get_or to.on (grant.candidate - 1) false =
          marked (grant.candidate - 1) i (omega (arith, some, few)) within unmarked (noted cheaper) in
          inl (has-flag from grant.candidate some ∙ same ∙ sym (has-flag to grant.candidate some))
      | inr none ↦ inr none
    ]

pub unmarked-settled : (flags marks : List Bool) (from to : Config) (count i : ℕ) (slots : List SlotPart) → AreMarked flags from to marks count 256 → i < count → get_or marks i false ≡ false →
    All (AreNoted flags i) slots → SlotsSettled from to slots
unmarked-settled flags marks from to count i slots marked within unmarked noted s d inside k e there =
    settled-here flags marks from to count i (get_or slots s d).base (get_or (get_or slots s d).grants k e) marked within unmarked (noted s d inside k e there)

-- ## Costs, one by one

pub plan-at : (config : Config) (parts : List Part) (rents : List ℕ) (i : ℕ) → IsPriced config parts rents (plan_costs config parts rents) i
plan-at config [] rents i part found = absurd (cc)
plan-at config (p ∷ parts) rents zero part found = let same : p ≡ part = cc in ap (λ (x : Part). rented_cost config x rents) same
plan-at config (p ∷ parts) rents (suc i) part found =
    plan-at config parts (drop (part_grants p) rents) i part found
    ∙ ap (rented_cost config part) (drop-drop (sum_by part_grants (take i parts)) (part_grants p) rents)
    ∙ ap (λ (n : ℕ). rented_cost config part (drop n rents)) (sym (sum_by-cons part_grants p (take i parts)))

record Found (parts : List Part) (i : ℕ) : Type 0 where
  part : Part
  is : slice_get parts i ≡ Some part

found-at : (parts : List Part) (i : ℕ) → i < length parts → Found parts i
found-at [] i within = absurd (omega (arith, within))
found-at (p ∷ parts) zero within = record { part = p; is = refl }
found-at (p ∷ parts) (suc i) within = let rest = found-at parts i (omega (arith, within)) in record { part = rest.part; is = rest.is }

pub found-within : (parts : List Part) (k : ℕ) (part : Part) → slice_get parts k ≡ Some part → k < length parts
found-within [] k part found = absurd (cc)
found-within (p ∷ parts) zero part found = omega arith
found-within (p ∷ parts) (suc k) part found = let rest = found-within parts k part found in omega (arith, rest)

-- the costs of parts without a mark are those of the new configuration already
pub unmarked-priced : (flags marks : List Bool) (from to : Config) (parts list : List Part) (rents others costs : List ℕ) (count k : ℕ) → list ≡ parts → others ≡ rents → costs ≡ plan_costs from parts rents →
    AreMarked flags from to marks count 256 → length parts ≤ count → ((i : ℕ) (part : Part) → slice_get parts i ≡ Some part → All (AreNoted flags i) part.slots) → get_or marks k false ≡ false →
    IsPriced to list others costs k
unmarked-priced flags marks from to parts list rents others costs count k same alike is marked few noted none part at =
    let found : slice_get parts k ≡ Some part = ap (λ (ps : List Part). slice_get ps k) (sym same) ∙ at in
    let within : k < length parts = found-within parts k part found in
    let settled : SlotsSettled from to part.slots = unmarked-settled flags marks from to count k part.slots marked (omega (arith, within, few)) none (noted k part found) in
    ap (λ (cs : List ℕ). get_or cs k 0) is ∙ plan-at from parts rents k part found ∙ rented_cost-settled from to part (drop (sum_by part_grants (take k parts)) rents) settled
    ∙ ap (λ (ps : List Part). rented_cost to part (drop (sum_by part_grants (take k ps)) rents)) (sym same)
    ∙ ap (λ (rs : List ℕ). rented_cost to part (drop (sum_by part_grants (take k list)) rs)) (sym alike)

pub all-priced : (config : Config) (parts : List Part) (rents costs : List ℕ) → length costs ≡ length parts → ((k : ℕ) → k < length parts → IsPriced config parts rents costs k) → costs ≡ plan_costs config parts rents
all-priced config parts rents costs same each =
    ext_get_or 0 costs (plan_costs config parts rents) (same ∙ sym (length-plan_costs config parts rents))
    (λ k within.
    let inside : k < length parts = omega (arith, within, same) in
    let found = found-at parts k inside in
    each k inside found.part found.is ∙ sym (plan-at config parts rents k found.part found.is))

-- ## Their weighted sum

pub weighted-set : (parts : List Part) (costs : List ℕ) (i v : ℕ) (part : Part) → slice_get parts i ≡ Some part → i < length costs →
    weighted_costs parts (slice_set costs i v) + part.weight * get_or costs i 0 ≡ weighted_costs parts costs + part.weight * v
weighted-set [] costs i v part found within = absurd (cc)
weighted-set (p ∷ parts) [] i v part found within = absurd (omega (arith, within))
weighted-set (p ∷ parts) (c ∷ costs) zero v part found within =
    let same : p ≡ part = cc in
    let new : p.weight * v ≡ part.weight * v = ap (λ (x : Part). x.weight * v) same in
    let old : p.weight * c ≡ part.weight * c = ap (λ (x : Part). x.weight * c) same in
    omega (arith, new, old)
weighted-set (p ∷ parts) (c ∷ costs) (suc i) v part found within =
    let rest = weighted-set parts costs i v part found (omega (arith, within)) in
    omega (arith, rest)

-- the part of a place costs no more than all
pub weighted-one : (parts : List Part) (costs : List ℕ) (i : ℕ) (part : Part) → slice_get parts i ≡ Some part → i < length costs → part.weight * get_or costs i 0 ≤ weighted_costs parts costs
weighted-one [] costs i part found within = absurd (cc)
weighted-one (p ∷ parts) [] i part found within = absurd (omega (arith, within))
weighted-one (p ∷ parts) (c ∷ costs) zero part found within =
    let same : p ≡ part = cc in
    let own : p.weight * c ≡ part.weight * c = ap (λ (x : Part). x.weight * c) same in
    omega (arith, own)
weighted-one (p ∷ parts) (c ∷ costs) (suc i) part found within =
    let rest = weighted-one parts costs i part found (omega (arith, within)) in
    omega (arith, rest)

pub weighted-most : (parts : List Part) (costs : List ℕ) → All (λ cost. cost ≤ MOST_PLAN) costs → weighted_costs parts costs ≤ length parts * (MOST_WEIGHT * MOST_PLAN)
weighted-most [] costs most = omega arith
weighted-most (p ∷ parts) [] most = omega arith
weighted-most (p ∷ parts) (c ∷ costs) most =
    let light : p.weight ≤ MOST_WEIGHT = p.limits.weight_most in
    let own : p.weight * c ≤ MOST_WEIGHT * MOST_PLAN = mul-le-mul light (All-head (λ (n : ℕ). n ≤ MOST_PLAN) c costs most) in
    let rest = weighted-most parts costs (All-tail (λ (n : ℕ). n ≤ MOST_PLAN) c costs most) in
    omega (arith, own, rest)

-- ## One more is priced

pub priced-set : (config : Config) (parts : List Part) (rents costs : List ℕ) (place v : ℕ) (own : Part) → place < length costs → slice_get parts place ≡ Some own →
    v ≡ rented_cost config own (drop (sum_by part_grants (take place parts)) rents) → (k : ℕ) → (k ≢ place → IsPriced config parts rents costs k) → IsPriced config parts rents (slice_set costs place v) k
priced-set config parts rents costs place v own within there made k others part found =
    elim (cases_eq k place) [
      | inl same ↦
          let here : Some own ≡ Some part = sym there ∙ ap (slice_get parts) (sym same) ∙ found in
          let equal : own ≡ part = cc in
          ap (λ (j : ℕ). get_or (slice_set costs place v) j 0) same ∙ get_or-set_same costs place v 0 within ∙ made
          ∙ ap (λ (x : Part). rented_cost config x (drop (sum_by part_grants (take place parts)) rents)) equal
          ∙ ap (λ (j : ℕ). rented_cost config part (drop (sum_by part_grants (take j parts)) rents)) (sym same)
      | inr other ↦ get_or-set_other costs place k v 0 other ∙ others other part found
    ]
