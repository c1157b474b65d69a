-- Prices as words of 64 bits, the greatest of which is no price.
use Rattle.std.specs.Prelude.{◌≡◌, ℕ, zero, suc, ◌<◌, ◌==◌, if◌then◌else◌, List, [], length, fold, Option, Some, None, slice_get, slice_index_or}
use Rattle.adv_base.specs.declared.setting.Config.{Config}
use Rattle.plan_model.specs.declared.template.Template.{Template}
use Rattle.bip_model.specs.declared.part.Part.{Part}
use Rattle.bip_model.specs.declared.slot_part.SlotPart.{SlotPart}
use Rattle.bip_model.specs.declared.rows.TheConstants.{NO_PRICE}
use Rattle.bip_model.specs.Values.{lesser, plus, need, slot_price}

abbrev pub word : Option ℕ → ℕ
word None = NO_PRICE
word (Some price) = price

-- the price that a word tells
abbrev pub told : ℕ → Option ℕ
told w = if w == NO_PRICE then None else Some w

-- a row has the least price of each order of a slot
abbrev pub IsRow : Config → SlotPart → List ℕ → Type 0
IsRow config slot row = (o : ℕ) → o < length slot.base → slice_index_or row o 0 ≡ word (slot_price config slot o)

-- the first n rows are those of the first n slots
abbrev pub AreRows : Config → List SlotPart → ℕ → List (List ℕ) → Type 0
AreRows config slots n rows = (s : ℕ) (slot : SlotPart) → s < n → slice_get slots s ≡ Some slot → IsRow config slot (slice_index_or rows s [])

-- what a template and the slots below n cost, by the rows
unfoldable pub row_cost : List (List ℕ) → Template → ℕ → Option ℕ
row_cost rows template zero = Some template.internal
row_cost rows template (suc n) = plus (row_cost rows template n) (told (slice_index_or (slice_index_or rows n []) (need template n) 0))

-- the least of these costs over a part's templates
abbrev pub row_least : List (List ℕ) → Part → Option ℕ
row_least rows part = fold (λ best template. lesser best (row_cost rows template (length part.slots))) None part.templates
