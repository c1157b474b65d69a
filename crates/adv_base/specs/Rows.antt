-- Numbers of rows, each from 1 to 10^12.
use Rattle.std.specs.Prelude.{ℕ, zero, suc, ◌*◌, ◌≤◌, ◌==◌, min, max, nat_lt, Bool, ◌&&◌, ◌||◌, if◌then◌else◌, List, length, filter, map, fold, Option, None, unwrap_or}
use Rattle.std.specs.Option.{option_map_or}
use Rattle.adv_base.specs.declared.catalogue.Catalogue.{Catalogue}
use Rattle.adv_base.specs.declared.catalogue.table.Table.{Table}
use Rattle.adv_base.specs.declared.workload.block.Block.{Block}
use Rattle.adv_base.specs.declared.workload.parts.Edge.{Edge}
use Rattle.adv_base.specs.declared.workload.parts.Item.{Item}
use Rattle.adv_base.specs.declared.workload.parts.Item.TheVariants.{Up, Down, Made}
use Rattle.adv_base.specs.declared.workload.predicate.Pred.{Pred}
use Rattle.adv_base.specs.declared.limits.TheConstants.{MOST_ROWS}
use Rattle.adv_base.specs.Sums.{times_part, capped}
use Rattle.adv_base.specs.Sets.{all_slots, has_slot}
use Rattle.adv_base.specs.Lookups.{slot_table, slot_distinct}
use Rattle.adv_base.specs.Parts.{pred_part, edge_part}

-- a number of rows
pub record AreRows (rows : ℕ) : Type 0 where
  pub least : 1 ≤ rows
  pub most : rows ≤ MOST_ROWS

-- an empty table is priced like one of a single row and page
abbrev pub table_rows : Table → ℕ
table_rows table = max 1 table.rows

abbrev pub table_pages : Table → ℕ
table_pages table = max 1 table.pages

-- the predicates of a slot, in written order
abbrev pub slot_preds : Block → ℕ → List Pred
slot_preds block s = filter (λ pred. pred.slot == s) block.preds

-- what is left of a slot's rows behind its predicates, one after the other
unfoldable pub filtered_rows : Catalogue → Block → ℕ → ℕ
filtered_rows cat block s =
    fold times_part (option_map_or table_rows (slot_table cat block s) 1) (map (pred_part cat block) (slot_preds block s))

-- an edge between a slot and an earlier one of the set
abbrev pub ties_back : ℕ → ℕ → Edge → Bool
ties_back set s edge =
    (edge.left == s && (nat_lt edge.right s && has_slot set edge.right))
    || (edge.right == s && (nat_lt edge.left s && has_slot set edge.left))

abbrev pub edges_back : Block → ℕ → ℕ → List Edge
edges_back block set s = filter (ties_back set s) block.edges

-- The walk over the slots of a set below s, upwards: at each slot the rows so far times the slot's own, at most 10^12,
-- and then taken through each edge to an earlier slot of the set, in written order.
unfoldable pub rows_below : Catalogue → Block → ℕ → ℕ → ℕ
rows_below cat block set zero = 1
rows_below cat block set (suc s) =
    if has_slot set s
    then fold times_part (capped (rows_below cat block set s * filtered_rows cat block s)) (map (edge_part cat block) (edges_back block set s))
    else rows_below cat block set s

-- the rows of a join of a set of slots
unfoldable pub set_rows : Catalogue → Block → ℕ → ℕ
set_rows cat block set = rows_below cat block set (length block.slots)

-- the distinct values of an item's column, where their number is known
abbrev pub item_distinct : Catalogue → Block → Item → Option ℕ
item_distinct cat block (Up slot column) = slot_distinct cat block slot column
item_distinct cat block (Down slot column) = slot_distinct cat block slot column
item_distinct cat block (Made number) = None

-- how many groups the list could make, where an unknown number of distinct values counts as ten
abbrev pub group_product : Catalogue → Block → List Item → ℕ
group_product cat block items = fold ◌*◌ 1 (map (λ item. unwrap_or (item_distinct cat block item) 10) items)

-- the rows that grouping gives: no more than the list could make, nor than there are
unfoldable pub group_rows : Catalogue → Block → List Item → ℕ
group_rows cat block items = min (capped (group_product cat block items)) (set_rows cat block (all_slots (length block.slots)))
