-- The columns of a slot that a statement tests, joins, groups or orders by, or needs.
use Rattle.std.specs.Prelude.{ℕ, ◌==◌, Bool, ◌&&◌, if◌then◌else◌, List, [], ◌∷◌, ◌++◌, map, filter, fold, Option, Some, None}
use Rattle.std.specs.List.{list_any, filter_map, range_with_len}
use Rattle.std.specs.Option.{option_map_or}
use Rattle.adv_base.specs.declared.catalogue.Catalogue.{Catalogue}
use Rattle.adv_base.specs.declared.workload.block.Block.{Block}
use Rattle.adv_base.specs.declared.workload.parts.Edge.{Edge}
use Rattle.adv_base.specs.declared.workload.parts.Item.{Item}
use Rattle.adv_base.specs.declared.workload.parts.Item.TheVariants.{Up}
use Rattle.adv_base.specs.declared.workload.parts.Slot.{Slot}
use Rattle.adv_base.specs.declared.workload.predicate.Pred.{Pred}
use Rattle.adv_base.specs.declared.workload.predicate.Test.{Test}
use Rattle.adv_base.specs.Items.{is_own_list}
use Rattle.adv_base.specs.Lookups.{column_count}
use Rattle.adv_base.specs.Predicates.{is_point, is_range}

-- a column stands in a list
abbrev pub has_column : List ℕ → ℕ → Bool
has_column keys c = list_any (λ key. c == key) keys

-- a list with a column behind it, unless it stands there already
abbrev pub with_column : List ℕ → ℕ → List ℕ
with_column keys c = if has_column keys c then keys else keys ++ c ∷ []

-- a list followed by another, whose columns are skipped where they stand there already
abbrev pub joined : List ℕ → List ℕ → List ℕ
joined keys more = fold with_column keys more

abbrev pub without_repeats : List ℕ → List ℕ
without_repeats columns = joined [] columns

-- a predicate on a slot, with a test of the kind
abbrev pub is_slot_pred : (Test → Bool) → ℕ → Pred → Bool
is_slot_pred kind s pred = pred.slot == s && kind pred.test

-- the columns of such predicates, as they are written
abbrev pub tested_columns : (Test → Bool) → Block → ℕ → List ℕ
tested_columns kind block s = map (λ pred. pred.column) (filter (is_slot_pred kind s) block.preds)

-- the columns with `= literal` or IN
unfoldable pub point_columns : Block → ℕ → List ℕ
point_columns block s = without_repeats (tested_columns is_point block s)

-- the columns with a range test
unfoldable pub range_columns : Block → ℕ → List ℕ
range_columns block s = without_repeats (tested_columns is_range block s)

-- the column of an edge at a slot
abbrev pub edge_column : ℕ → Edge → Option ℕ
edge_column s edge = if edge.left == s then Some edge.left_column else (if edge.right == s then Some edge.right_column else None)

-- the columns of edges
unfoldable pub join_columns : Block → ℕ → List ℕ
join_columns block s = without_repeats (filter_map (edge_column s) block.edges)

-- the column of an upward item
abbrev pub up_column : Item → Option ℕ
up_column (Up s c) = Some c
up_column other = None

-- the columns of a list that is upwards throughout and lies wholly in the slot
abbrev pub own_columns : ℕ → List Item → List ℕ
own_columns s items = if is_own_list s items then without_repeats (filter_map up_column items) else []

-- the list to group by, where it is the slot's own
unfoldable pub group_columns : Block → ℕ → List ℕ
group_columns block s = option_map_or (own_columns s) block.group []

-- the list to order by, where it is the slot's own
unfoldable pub order_columns : Block → ℕ → List ℕ
order_columns block s = own_columns s block.order

-- the needed columns in catalogue order
unfoldable pub needed_columns : Catalogue → Slot → List ℕ
needed_columns cat slot = filter (has_column slot.needed) (range_with_len 0 (column_count cat slot.table))
