-- Flags and marks of parts.
use Rattle.std.specs.Prelude.{◌≡◌, ℕ, ◌+◌, ◌-◌, ◌*◌, ◌<◌, Bool, true, false, List, All, Option, slice_index_or}
use Rattle.adv_base.specs.declared.limits.TheConstants.{MOST_STATEMENTS}
use Rattle.adv_base.specs.declared.setting.Config.{Config}
use Rattle.bip_model.specs.declared.grant.Grant.{Grant}
use Rattle.bip_model.specs.declared.slot_part.SlotPart.{SlotPart}
use Rattle.bip_model.specs.Candidates.{has_cheaper}

-- what is on stays on
abbrev pub Keeps : List Bool → List Bool → Type 0
Keeps old new = (k : ℕ) → slice_index_or old k false ≡ true → slice_index_or new k false ≡ true

-- the flag of the candidate of a grant for the part of a place is on where the grant gives an order for less than what exists
abbrev pub IsNoted : List Bool → ℕ → List (Option ℕ) → Grant → Type 0
IsNoted flags i base grant = has_cheaper grant.prices base ≡ true → slice_index_or flags ((grant.candidate - 1) * MOST_STATEMENTS + i) false ≡ true

-- the same of all grants of a slot
abbrev pub AreNoted : List Bool → ℕ → SlotPart → Type 0
AreNoted flags i slot = All (IsNoted flags i slot.base) slot.grants

-- of the candidates below a number each that has a part without a mark is in both configurations or in none
abbrev pub AreMarked : List Bool → Config → Config → List Bool → ℕ → ℕ → Type 0
AreMarked flags from to marks count n =
    (a i : ℕ) → a < n → i < count → slice_index_or marks i false ≡ false → slice_index_or flags (a * MOST_STATEMENTS + i) false ≡ true →
    slice_index_or from.on a false ≡ slice_index_or to.on a false
