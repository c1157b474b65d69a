-- The columns that a statement mentions, slot by slot.
use Rattle.std.specs.Prelude.{ℕ, ◌+◌, ◌==◌, Bool, ◌&&◌, ◌||◌, List, [], ◌∷◌, filter}
use Rattle.std.specs.List.{list_any, range_with_len}
use Rattle.adv_base.specs.declared.catalogue.Catalogue.{Catalogue}
use Rattle.adv_base.specs.declared.workload.parts.Slot.{Slot}
use Rattle.adv_base.specs.Lookups.{column_count}
use Rattle.binder.specs.declared.gathered.SlotColumn.{SlotColumn}
use Rattle.binder.specs.declared.gathered.BoundItem.{BoundItem}
use Rattle.binder.specs.declared.scope.Visible.{Visible}
use Rattle.binder.specs.Items.{takes_whole}

-- a mention of this column of this slot
abbrev pub is_at : ℕ → ℕ → SlotColumn → Bool
is_at s c mention = (mention.slot == s) && (mention.column == c)

-- the columns of a slot that are mentioned, or all of them, in the order of the catalogue
abbrev pub needed_columns : ℕ → ℕ → Bool → List SlotColumn → List ℕ
needed_columns count s whole mentions = filter (λ c. whole || list_any (is_at s c) mentions) (range_with_len 0 count)

-- a source as a slot
abbrev pub slot_of : Catalogue → List BoundItem → List SlotColumn → ℕ → Visible → Slot
slot_of cat items mentions s v =
    record { table = v.table; name = v.name; needed = needed_columns (column_count cat v.table) s (list_any (takes_whole s) items) mentions }

-- the sources from slot s on as slots
abbrev pub slots_from : Catalogue → List BoundItem → List SlotColumn → ℕ → List Visible → List Slot
slots_from cat items mentions s [] = []
slots_from cat items mentions s (v ∷ vs) = slot_of cat items mentions s v ∷ slots_from cat items mentions (s + 1) vs
