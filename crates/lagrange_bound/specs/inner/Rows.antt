-- Rows of least prices where candidates pay rents, as words.
use Rattle.std.specs.Prelude.{◌≡◌, ℕ, ◌<◌, List, [], length, drop, Some, slice_get, slice_index_or}
use Rattle.adv_base.specs.declared.setting.Config.{Config}
use Rattle.bip_model.specs.declared.slot_part.SlotPart.{SlotPart}
use Rattle.bip_model.specs.Words.{word}
use Rattle.lagrange_bound.specs.Rented.{rented_price, grants_before}

-- a row has the least price of each order of a slot
abbrev pub IsRow : Config → SlotPart → List ℕ → List ℕ → Type 0
IsRow config slot rents row = (o : ℕ) → o < length slot.base → slice_index_or row o 0 ≡ word (rented_price config slot rents o)

-- it has those of the orders below a number
abbrev pub IsRowBelow : Config → SlotPart → List ℕ → ℕ → List ℕ → Type 0
IsRowBelow config slot rents n row = (o : ℕ) → o < n → o < length slot.base → slice_index_or row o 0 ≡ word (rented_price config slot rents o)

-- the first n rows are those of the first n slots
abbrev pub AreRows : Config → List SlotPart → List ℕ → ℕ → List (List ℕ) → Type 0
AreRows config slots rents n rows =
    (s : ℕ) (slot : SlotPart) → s < n → slice_get slots s ≡ Some slot → IsRow config slot (drop (grants_before slots s) rents) (slice_index_or rows s [])
