-- The rent multipliers of a page price: what each candidate costs at that price is shared by its uses, so that none costs
-- less than its rents bring in.
use Rattle.std.specs.Prelude.{ℕ, zero, suc, ◌-◌, ◌*◌, ◌/◌, ◌^◌, ◌==◌, min, List, map, sum_by, count_by}
use Rattle.std.specs.List.{flat_map}
use Rattle.adv_base.specs.declared.limits.TheConstants.{MOST_RENT}
use Rattle.bip_model.specs.declared.grant.Grant.{Grant}
use Rattle.bip_model.specs.declared.slot_part.SlotPart.{SlotPart}
use Rattle.bip_model.specs.declared.part.Part.{Part}
use Rattle.bip_model.specs.declared.programme.Programme.{Programme}
use Rattle.bip_model.specs.declared.multipliers.Multipliers.{Multipliers}
use Rattle.lagrange_bound.specs.Bounds.{candidate_cost}

-- how many grants a candidate has, at a slot, in a part and in a programme
abbrev pub slot_uses : ℕ → SlotPart → ℕ
slot_uses a slot = count_by (λ grant. grant.candidate == a) slot.grants

abbrev pub part_uses : ℕ → Part → ℕ
part_uses a part = sum_by (slot_uses a) part.slots

unfoldable pub uses : List Part → ℕ → ℕ
uses parts a = sum_by (part_uses a) parts

-- the rent of one use in a statement of some weight: a share of what the candidate costs, at most 10^18
abbrev pub share : ℕ → ℕ → ℕ → ℕ
share cost weight count = min MOST_RENT (cost / (65536 * (weight * count)))

abbrev pub grant_rent : Programme → ℕ → ℕ → Grant → ℕ
grant_rent programme mu weight grant =
    share (candidate_cost programme mu (grant.candidate - 1)) weight (uses programme.parts grant.candidate)

-- one for each grant of a slot, and of a part
abbrev pub slot_list : Programme → ℕ → ℕ → SlotPart → List ℕ
slot_list programme mu weight slot = map (grant_rent programme mu weight) slot.grants

abbrev pub part_list : Programme → ℕ → Part → List ℕ
part_list programme mu part = flat_map (slot_list programme mu part.weight) part.slots

abbrev pub rents_of : Programme → ℕ → List ℕ
rents_of programme mu = flat_map (part_list programme mu) programme.parts

abbrev pub rent_multipliers : Programme → ℕ → Multipliers
rent_multipliers programme mu = record { mu = mu; lambda = rents_of programme mu }

-- the page prices that are tried: 0, and then the powers of two
abbrev pub tried_price : ℕ → ℕ
tried_price zero = 0
tried_price (suc j) = 2 ^ j
