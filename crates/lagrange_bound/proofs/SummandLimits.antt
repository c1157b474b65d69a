-- The summands of a Lagrangian value, before the division, are below 10 ^ 37: a rent counts for one candidate alone.
use Rattle.std.proofs.Common.{◌≡◌, ◌∙◌, inl, inr, ℕ, zero, suc, ◌+◌, ◌*◌, ◌<◌, ◌≤◌, ◌==◌, Bool, true, false, List, [], ◌∷◌, All, length, drop, refl, ap, arith}
use Rattle.std.specs.Prelude.{if◌then◌else◌, slice_index_or}
use Rattle.std.proofs.Math.Nat.{mul-add, mul-le-mul}
use Rattle.std.proofs.lemmas.Bool.{cases_eq, eq-eqb, ne_eqb}
use Rattle.std.proofs.lemmas.List.Elements.{All-head, All-tail, All-get_or}
use Rattle.adv_base.specs.declared.limits.TheConstants.{MOST_CANDIDATES, MOST_INDEX_PAGES, MOST_PAGES, MOST_PAGE_PRICE, MOST_RENT, MOST_SLOTS, MOST_STATEMENTS, MOST_UPKEEP, MOST_WEIGHT}
use Rattle.adv_base.specs.Nodes.{available_in}
use Rattle.plan_model.specs.Exchange.{sum_below}
use Rattle.plan_model.proofs.SetLaws.{sum_below-le, sum_below-add}
use Rattle.plan_model.proofs.Decomposing.{sum_below-none}
use Rattle.bip_model.specs.declared.fix.Fix.{Fix}
use Rattle.bip_model.specs.declared.fix.State.{State}
use Rattle.bip_model.specs.declared.fix.State.TheVariants.{Free, In, Out}
use Rattle.bip_model.specs.declared.grant.Grant.{Grant}
use Rattle.bip_model.specs.declared.part.Part.{Part}
use Rattle.bip_model.specs.declared.slot_part.SlotPart.{SlotPart}
use Rattle.bip_model.specs.declared.programme.Programme.{Programme}
use Rattle.bip_model.specs.declared.multipliers.Multipliers.{Multipliers}
use Rattle.bip_model.specs.Values.{MOST_PLAN, part_grants}
use Rattle.bip_model.specs.Views.{AreMultipliers, space_in, node_of, state_at}
use Rattle.lagrange_bound.specs.Bounds.{grant_rents, slot_rents, part_rents, candidate_cost, candidate_rents, paid, earned, paid_in_all, earned_in_all, fits_at, costs_at, AreSummandsBelow}
use Rattle.lagrange_bound.specs.Rented.{weighted_costs}
use Rattle.lagrange_bound.specs.inner.Limits.{MOST_CANDIDATE_COST, MOST_RENTS}
use Rattle.lagrange_bound.proofs.RentedPrices.{AreRents, drop-rents}
use Rattle.lagrange_bound.proofs.CarriedCosts.{plan_costs-most}
use Rattle.lagrange_bound.proofs.MarkedCosts.{weighted-most}

-- ## The rents of all candidates together

-- what a rent is for a candidate, of which it is or not
abbrev rent_for : ℕ → ℕ → ℕ → ℕ
rent_for candidate rent i = if candidate == suc i then rent else 0

rent-before : (candidate rent n : ℕ) → n < candidate → sum_below (rent_for candidate rent) n ≡ 0
rent-before candidate rent n before =
    sum_below-none (rent_for candidate rent) n
    (λ i below. ap (λ (b : Bool). if b then rent else 0) (ne_eqb candidate (suc i) (λ same. omega (arith, same, below, before))))

rent-once : (candidate rent n : ℕ) → sum_below (rent_for candidate rent) n ≤ rent
rent-once candidate rent zero = omega arith
rent-once candidate rent (suc n) =
    elim (cases_eq candidate (suc n)) [
      | inl same ↦
          let earlier = rent-before candidate rent n (omega (arith, same)) in
          let here : rent_for candidate rent n ≡ rent = ap (λ (b : Bool). if b then rent else 0) (eq-eqb candidate (suc n) same) in
          omega (arith, earlier, here)
      | inr other ↦
          let earlier = rent-once candidate rent n in
          let here : rent_for candidate rent n ≡ 0 = ap (λ (b : Bool). if b then rent else 0) (ne_eqb candidate (suc n) other) in
          omega (arith, earlier, here)
    ]

all-grants : (n : ℕ) (grants : List Grant) (rents : List ℕ) → AreRents rents → sum_below (λ i. grant_rents (suc i) grants rents) n ≤ length grants * MOST_RENT
all-grants n [] rents are =
    let none : sum_below (λ i. grant_rents (suc i) [] rents) n ≡ 0 = sum_below-none (λ i. grant_rents (suc i) [] rents) n (λ i below. refl) in
    omega (arith, none)
all-grants n (grant ∷ grants) [] are =
    let none : sum_below (λ i. grant_rents (suc i) (grant ∷ grants) []) n ≡ 0 = sum_below-none (λ i. grant_rents (suc i) (grant ∷ grants) []) n (λ i below. refl) in
    omega (arith, none)
all-grants n (grant ∷ grants) (rent ∷ rents) are =
    let split : sum_below (λ i. grant_rents (suc i) (grant ∷ grants) (rent ∷ rents)) n ≡ sum_below (rent_for grant.candidate rent) n + sum_below (λ i. grant_rents (suc i) grants rents) n =
    sum_below-add (rent_for grant.candidate rent) (λ i. grant_rents (suc i) grants rents) n in
    let first : rent ≤ MOST_RENT = All-head (λ (r : ℕ). r ≤ MOST_RENT) rent rents are in
    let once = rent-once grant.candidate rent n in
    let rest = all-grants n grants rents (All-tail (λ (r : ℕ). r ≤ MOST_RENT) rent rents are) in
    omega (arith, split, first, once, rest)

all-slots : (n : ℕ) (slots : List SlotPart) (rents : List ℕ) → AreRents rents → sum_below (λ i. slot_rents (suc i) slots rents) n ≤ length slots * (MOST_CANDIDATES * MOST_RENT)
all-slots n [] rents are =
    let none : sum_below (λ i. slot_rents (suc i) [] rents) n ≡ 0 = sum_below-none (λ i. slot_rents (suc i) [] rents) n (λ i below. refl) in
    omega (arith, none)
all-slots n (slot ∷ slots) rents are =
    let few : length slot.grants ≤ MOST_CANDIDATES = slot.limits.grants_most in
    let later : List ℕ = drop (length slot.grants) rents in
    let split : sum_below (λ i. slot_rents (suc i) (slot ∷ slots) rents) n ≡ sum_below (λ i. grant_rents (suc i) slot.grants rents) n + sum_below (λ i. slot_rents (suc i) slots later) n =
    sum_below-add (λ i. grant_rents (suc i) slot.grants rents) (λ i. slot_rents (suc i) slots later) n in
    let first = all-grants n slot.grants rents are in
    let rest = all-slots n slots later (drop-rents (length slot.grants) rents are) in
    omega (arith, split, first, rest, few)

sum-times : (k : ℕ) (f : ℕ → ℕ) (n : ℕ) → sum_below (λ i. k * f i) n ≡ k * sum_below f n
sum-times k f zero = omega arith
sum-times k f (suc n) =
    let before : sum_below (λ i. k * f i) n ≡ k * sum_below f n = sum-times k f n in
    let split : k * (sum_below f n + f n) ≡ k * sum_below f n + k * f n = mul-add k (sum_below f n) (f n) in
    omega (arith, before, split)

all-parts : (n : ℕ) (parts : List Part) (rents : List ℕ) → AreRents rents →
    sum_below (λ i. part_rents (suc i) parts rents) n ≤ length parts * (MOST_WEIGHT * (MOST_SLOTS * (MOST_CANDIDATES * MOST_RENT)))
all-parts n [] rents are =
    let none : sum_below (λ i. part_rents (suc i) [] rents) n ≡ 0 = sum_below-none (λ i. part_rents (suc i) [] rents) n (λ i below. refl) in
    omega (arith, none)
all-parts n (part ∷ parts) rents are =
    let few : length part.slots ≤ MOST_SLOTS = part.limits.slots_most in
    let light : part.weight ≤ MOST_WEIGHT = part.limits.weight_most in
    let later : List ℕ = drop (part_grants part) rents in
    let own : ℕ → ℕ = λ i. slot_rents (suc i) part.slots rents in
    let split : sum_below (λ i. part_rents (suc i) (part ∷ parts) rents) n ≡ sum_below (λ i. part.weight * own i) n + sum_below (λ i. part_rents (suc i) parts later) n =
    sum_below-add (λ i. part.weight * own i) (λ i. part_rents (suc i) parts later) n in
    let times : sum_below (λ i. part.weight * own i) n ≡ part.weight * sum_below own n = sum-times part.weight own n in
    let slots : sum_below own n ≤ length part.slots * (MOST_CANDIDATES * MOST_RENT) = all-slots n part.slots rents are in
    let most : sum_below own n ≤ MOST_SLOTS * (MOST_CANDIDATES * MOST_RENT) = omega (arith, slots, few) in
    let weighted : part.weight * sum_below own n ≤ MOST_WEIGHT * (MOST_SLOTS * (MOST_CANDIDATES * MOST_RENT)) = mul-le-mul light most in
    let rest = all-parts n parts later (drop-rents (part_grants part) rents are) in
    omega (arith, split, times, weighted, rest)

earned-le : (state : State) (fits : Bool) (cost rents : ℕ) → earned state fits cost rents ≤ rents
earned-le In fits cost rents = omega arith
earned-le Out fits cost rents = omega arith
earned-le Free true cost rents = omega arith
earned-le Free false cost rents = omega arith

earned-most : (programme : Programme) (budget : ℕ) (fix : Fix) (multipliers : Multipliers) → AreMultipliers programme multipliers → earned_in_all programme budget fix multipliers ≤ 65536 * MOST_RENTS
unfolding earned_in_all candidate_rents
earned-most programme budget fix multipliers are =
    let n : ℕ = length programme.sizes in
    let few : length programme.parts ≤ MOST_STATEMENTS = programme.limits.parts_most in
    let rents : ℕ → ℕ = λ i. part_rents (suc i) programme.parts multipliers.lambda in
    let each : earned_in_all programme budget fix multipliers ≤ sum_below (λ i. 65536 * rents i) n =
    sum_below-le
    (λ i. earned (state_at fix i) (fits_at programme budget fix i) (candidate_cost programme multipliers.mu i) (65536 * rents i))
    (λ i. 65536 * rents i)
    n
    (λ i below. earned-le (state_at fix i) (fits_at programme budget fix i) (candidate_cost programme multipliers.mu i) (65536 * rents i)) in
    let times : sum_below (λ i. 65536 * rents i) n ≡ 65536 * sum_below rents n = sum-times 65536 rents n in
    let all : sum_below rents n ≤ length programme.parts * (MOST_WEIGHT * (MOST_SLOTS * (MOST_CANDIDATES * MOST_RENT))) = all-parts n programme.parts multipliers.lambda are.rents_most in
    omega (arith, each, times, all, few)

-- ## What is paid

paid-le : (state : State) (cost : ℕ) → paid state cost ≤ cost
paid-le In cost = omega arith
paid-le Out cost = omega arith
paid-le Free cost = omega arith

cost-most : (programme : Programme) (mu i : ℕ) → mu ≤ MOST_PAGE_PRICE → i < length programme.sizes → candidate_cost programme mu i ≤ MOST_CANDIDATE_COST
unfolding candidate_cost
cost-most programme mu i page within =
    let each : length programme.upkeep ≡ length programme.sizes = programme.limits.upkeep_each in
    let size : slice_index_or programme.sizes i 0 ≤ MOST_INDEX_PAGES = All-get_or (λ (pages : ℕ). pages ≤ MOST_INDEX_PAGES) programme.sizes i 0 within programme.limits.pages_most in
    let upkeep : slice_index_or programme.upkeep i 0 ≤ MOST_STATEMENTS * (MOST_WEIGHT * MOST_UPKEEP) =
    All-get_or (λ (cost : ℕ). cost ≤ MOST_STATEMENTS * (MOST_WEIGHT * MOST_UPKEEP)) programme.upkeep i 0 (omega (arith, within, each)) programme.limits.upkeep_most in
    let space : mu * slice_index_or programme.sizes i 0 ≤ MOST_PAGE_PRICE * MOST_INDEX_PAGES = mul-le-mul page size in
    omega (arith, space, upkeep)

all-most : (f : ℕ → ℕ) (most n : ℕ) → ((i : ℕ) → i < n → f i ≤ most) → sum_below f n ≤ n * most
all-most f most zero each = omega arith
all-most f most (suc n) each =
    let before : sum_below f n ≤ n * most = all-most f most n (λ i below. each i (omega (arith, below))) in
    let here : f n ≤ most = each n (omega arith) in
    omega (arith, before, here)

paid-most : (programme : Programme) (fix : Fix) (multipliers : Multipliers) → multipliers.mu ≤ MOST_PAGE_PRICE → paid_in_all programme fix multipliers ≤ MOST_CANDIDATES * MOST_CANDIDATE_COST
unfolding paid_in_all
paid-most programme fix multipliers page =
    let few : length programme.sizes ≤ MOST_CANDIDATES = programme.limits.sizes_most in
    let all = all-most (λ i. paid (state_at fix i) (candidate_cost programme multipliers.mu i)) MOST_CANDIDATE_COST (length programme.sizes)
    (λ i below.
    let own = paid-le (state_at fix i) (candidate_cost programme multipliers.mu i) in
    let most = cost-most programme multipliers.mu i page below in
    omega (arith, own, most)) in
    omega (arith, all, few)

-- ## The summands

pub summands-below : (programme : Programme) (budget : ℕ) (fix : Fix) (multipliers : Multipliers) → budget ≤ MOST_PAGES → AreMultipliers programme multipliers → AreSummandsBelow programme budget fix multipliers
summands-below programme budget fix multipliers within are =
    let few : length programme.parts ≤ MOST_STATEMENTS = programme.limits.parts_most in
    let costs : List ℕ = costs_at programme budget fix multipliers in
    let each = plan_costs-most (available_in (space_in programme budget) (node_of fix)) programme.parts multipliers.lambda are.rents_most in
    let plans : weighted_costs programme.parts costs ≤ length programme.parts * (MOST_WEIGHT * MOST_PLAN) = weighted-most programme.parts costs each in
    let kept = programme.limits.kept_most in
    let paid = paid-most programme fix multipliers are.page_most in
    let earned = earned-most programme budget fix multipliers are in
    let page : multipliers.mu * budget ≤ MOST_PAGE_PRICE * MOST_PAGES = mul-le-mul are.page_most within in
    (omega (arith, plans, kept, paid, few), omega (arith, earned, page))
