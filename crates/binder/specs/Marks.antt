-- Columns that are marked, since they are bound or stand among kept items.
use Rattle.std.specs.Prelude.{◌≡◌, Bool, false, ◌||◌, if◌then◌else◌, List, [], ◌∷◌, ◌++◌}
use Rattle.std.specs.List.{list_any}
use Rattle.std.specs.Option.{option_map_or}
use Rattle.adv_base.specs.declared.workload.parts.Item.{Item}
use Rattle.adv_base.specs.Items.{is_same_column}
use Rattle.binder.specs.declared.gathered.SlotColumn.{SlotColumn}
use Rattle.binder.specs.Lists.{binds, upward}
use Rattle.binder.specs.Orders.{column_of_item}
use Rattle.binder.specs.Plain.{PlainPred}
use Rattle.binder.specs.Scopes.{is_same}

abbrev pub is_marked : List SlotColumn → SlotColumn → Bool
is_marked marked c = list_any (is_same c) marked

-- exactly the bound columns and those of kept items are marked
abbrev pub Marks : List PlainPred → List Item → List SlotColumn → Type 0
Marks preds kept marked = (c : SlotColumn) → is_marked marked c ≡ (list_any (binds c.slot c.column) preds || list_any (λ item. is_same_column item (upward c)) kept)

-- what a predicate binds is marked too
abbrev pub BoundMarks : PlainPred → List SlotColumn → List SlotColumn → Type 0
BoundMarks pred old new = (c : SlotColumn) → is_marked new c ≡ (is_marked old c || binds c.slot c.column pred)

abbrev pub is_marked_item : List SlotColumn → Item → Bool
is_marked_item marked item = option_map_or (is_marked marked) (column_of_item item) false

-- an item is kept unless its column is marked, and its column is marked then
pub record KeepsMarks (item : Item) (marked : List SlotColumn) (kept : List Item) (marked_after : List SlotColumn) (kept_after : List Item) : Type 0 where
  pub items : kept_after ≡ (if is_marked_item marked item then kept else kept ++ item ∷ [])
  pub marks : (c : SlotColumn) → is_marked marked_after c ≡ (is_marked marked c || is_same_column item (upward c))
