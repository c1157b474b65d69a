-- The Lagrangian value of a node, as a programme tells it: what the plans of its parts cost where the candidates that may
-- be used pay rent, what exists and what is in costs, less what the rents bring in and the price of the budget. Candidates
-- are numbered from 1; their places among sizes, upkeep and states are counted from 0.
use Rattle.std.specs.Prelude.{ℕ, suc, ◌+◌, ◌-◌, ◌*◌, ◌^◌, ◌<◌, ◌==◌, Bool, true, false, if◌then◌else◌, List, [], ◌∷◌, length, drop, slice_index_or, ℤ, pos, ◌+ℤ◌, ◌-ℤ◌}
use Rattle.std.specs.Int.{int_div_euclid}
use Rattle.adv_base.specs.Configs.{fits_beside}
use Rattle.adv_base.specs.Nodes.{available_in}
use Rattle.plan_model.specs.Exchange.{sum_below}
use Rattle.bip_model.specs.declared.fix.Fix.{Fix}
use Rattle.bip_model.specs.declared.fix.State.{State}
use Rattle.bip_model.specs.declared.fix.State.TheVariants.{Free, In, Out}
use Rattle.bip_model.specs.declared.grant.Grant.{Grant}
use Rattle.bip_model.specs.declared.slot_part.SlotPart.{SlotPart}
use Rattle.bip_model.specs.declared.part.Part.{Part}
use Rattle.bip_model.specs.declared.programme.Programme.{Programme}
use Rattle.bip_model.specs.declared.multipliers.Multipliers.{Multipliers}
use Rattle.bip_model.specs.Values.{part_grants}
use Rattle.bip_model.specs.Views.{space_in, node_of, state_at}
use Rattle.lagrange_bound.specs.Rented.{plan_costs, weighted_costs}

-- ## What a candidate costs and earns, in parts of 65536

-- the rents of a candidate's grants
abbrev pub grant_rents : ℕ → List Grant → List ℕ → ℕ
grant_rents a [] rents = 0
grant_rents a (grant ∷ grants) [] = 0
grant_rents a (grant ∷ grants) (rent ∷ rents) = (if grant.candidate == a then rent else 0) + grant_rents a grants rents

-- those at slots
abbrev pub slot_rents : ℕ → List SlotPart → List ℕ → ℕ
slot_rents a [] rents = 0
slot_rents a (slot ∷ slots) rents = grant_rents a slot.grants rents + slot_rents a slots (drop (length slot.grants) rents)

-- and those of parts, by weight
abbrev pub part_rents : ℕ → List Part → List ℕ → ℕ
part_rents a [] rents = 0
part_rents a (part ∷ parts) rents = part.weight * slot_rents a part.slots rents + part_rents a parts (drop (part_grants part) rents)

-- the candidate at a place costs its upkeep and its pages where it is chosen
unfoldable pub candidate_cost : Programme → ℕ → ℕ → ℕ
candidate_cost programme mu i = 65536 * slice_index_or programme.upkeep i 0 + mu * slice_index_or programme.sizes i 0

-- it earns the rents of its uses
unfoldable pub candidate_rents : Programme → List ℕ → ℕ → ℕ
candidate_rents programme rents i = 65536 * part_rents (suc i) programme.parts rents

-- what a node pays for a candidate: its cost where it is in
abbrev pub paid : State → ℕ → ℕ
paid In cost = cost
paid state cost = 0

-- what a node earns by it: its rents where it is in, and where it is open what they are beyond its cost
abbrev pub earned : State → Bool → ℕ → ℕ → ℕ
earned In fits cost rents = rents
earned Out fits cost rents = 0
earned Free true cost rents = rents - cost
earned Free false cost rents = 0

unfoldable pub paid_in_all : Programme → Fix → Multipliers → ℕ
paid_in_all programme fix multipliers =
    sum_below (λ i. paid (state_at fix i) (candidate_cost programme multipliers.mu i)) (length programme.sizes)

-- the candidate at a place fits beside those that are in
abbrev pub fits_at : Programme → ℕ → Fix → ℕ → Bool
fits_at programme budget fix i = fits_beside (space_in programme budget) (node_of fix).inside (suc i)

unfoldable pub earned_in_all : Programme → ℕ → Fix → Multipliers → ℕ
earned_in_all programme budget fix multipliers =
    sum_below
    (λ i. earned (state_at fix i) (fits_at programme budget fix i) (candidate_cost programme multipliers.mu i) (candidate_rents programme multipliers.lambda i))
    (length programme.sizes)

-- ## The value

-- (more - less) / 65536, rounded up
abbrev pub rounded_up : ℕ → ℕ → ℤ
rounded_up more less = int_div_euclid ((pos more -ℤ pos less) +ℤ pos 65535) (pos 65536)

-- the value, where the weighted plan costs are so much in all
unfoldable pub value_of_plans : Programme → ℕ → Fix → Multipliers → ℕ → ℤ
value_of_plans programme budget fix multipliers plans =
    rounded_up
    (65536 * (plans + programme.kept) + paid_in_all programme fix multipliers)
    (earned_in_all programme budget fix multipliers + multipliers.mu * budget)

-- the value, where the plans of the parts have these costs
abbrev pub value_of_costs : Programme → ℕ → Fix → Multipliers → List ℕ → ℤ
value_of_costs programme budget fix multipliers costs = value_of_plans programme budget fix multipliers (weighted_costs programme.parts costs)

-- the costs that they have at a node
abbrev pub costs_at : Programme → ℕ → Fix → Multipliers → List ℕ
costs_at programme budget fix multipliers = plan_costs (available_in (space_in programme budget) (node_of fix)) programme.parts multipliers.lambda

-- before the division, the two summands of the value are below 10 ^ 37: what plans, what exists and what is in cost,
-- and what the node earns with the price of the budget
abbrev pub AreSummandsBelow : Programme → ℕ → Fix → Multipliers → Type 0
AreSummandsBelow programme budget fix multipliers =
    (65536 * (weighted_costs programme.parts (costs_at programme budget fix multipliers) + programme.kept) + paid_in_all programme fix multipliers < 10 ^ 37)
    × (earned_in_all programme budget fix multipliers + multipliers.mu * budget < 10 ^ 37)

-- the Lagrangian value of a node
unfoldable pub lagrangian : Programme → ℕ → Fix → Multipliers → ℤ
lagrangian programme budget fix multipliers = value_of_costs programme budget fix multipliers (costs_at programme budget fix multipliers)
