-- What makes the costs of cells.
use Rattle.std.specs.Prelude.{◌≡◌, ℕ, ◌+◌, ◌^◌, ◌<◌, ◌≤◌, true, List, [], length, All, Option, Some, None}
use Rattle.std.specs.List.{list_any}
use Rattle.adv_base.specs.Items.{Order, BeginsWith}
use Rattle.adv_base.specs.Offers.{OfferTable}
use Rattle.adv_base.specs.declared.workload.parts.Item.{Item}
use Rattle.plan_model.specs.declared.task.Task.{Task}
use Rattle.adv_base.specs.OfferTables.{price_at, order_at}
use Rattle.plan_model.specs.Plans.{Merges, crosses, is_column_of}
use Rattle.plan_model.specs.Costs.{rows_in, sort_cost, merge_of, hash_of}
use Rattle.planner.specs.declared.front.Front.{Front}
use Rattle.planner.specs.declared.cell.Cell.{Cell}
use Rattle.planner.specs.declared.cuts.Merge.{Merge}
use Rattle.planner.specs.Fronts.{asked, head_at, longer_front}
use Rattle.planner.specs.Cuts.{merge_at}
use Rattle.planner.specs.Cells.{cost_at, any_at}

-- the offer is of the set's one slot, delivers what the front asks, and has that price
pub record IsRead (task : Task) (table : OfferTable) (order : Order) (set cost slot offer : ℕ) : Type 0 where
  pub slot_in : slot < task.slots
  pub offer_in : offer < length (table slot)
  pub set_is : 2 ^ slot ≡ set
  pub begins : BeginsWith (order_at table slot offer) order
  pub costs : cost ≡ price_at table slot offer

-- a merge of a and b on the edge of that number, whose sides serve the fronts g and h
pub record IsMerge (task : Task) (list : Order) (fronts : List Front) (left right : List Cell) (a b f cost number g h : ℕ) : Type 0 where
  pub left_in : g < length fronts
  pub right_in : h < length fronts
  pub merges : Merges task number a b (asked list fronts g) (asked list fronts h)
  pub keeps : BeginsWith (asked list fronts g) (asked list fronts f)
  pub costs : cost ≡ any_at left g + any_at right h + merge_of task a b

-- a hash join of a and b, for a front that asks nothing
pub record IsHash (task : Task) (list : Order) (fronts : List Front) (left right : List Cell) (a b f cost : ℕ) : Type 0 where
  pub crossed : list_any (crosses a b) task.edges ≡ true
  pub asks_nothing : asked list fronts f ≡ []
  pub costs : cost ≡ cost_at left 0 + cost_at right 0 + hash_of task a b

-- some offer gives the cost
pub record IsOffered (task : Task) (table : OfferTable) (order : Order) (set cost : ℕ) : Type 0 where
  pub slot : ℕ
  pub offer : ℕ
  pub read : IsRead task table order set cost slot offer

-- a merge of the list gives the cost, from a left side that serves the front g
pub record IsMergedBy (heads : List (Option Item)) (left right : List Cell) (price : ℕ) (merges : List Merge) (f cost j g : ℕ) : Type 0 where
  pub within : j < length merges
  pub serves : longer_front (head_at heads (merge_at merges j).left_need) (head_at heads f) (merge_at merges j).left_need f ≡ Some g
  pub costs : cost ≡ any_at left g + (any_at right (merge_at merges j).right_front + price)

-- some merge does
pub record IsMerged (heads : List (Option Item)) (left right : List Cell) (price : ℕ) (merges : List Merge) (f cost : ℕ) : Type 0 where
  pub number : ℕ
  pub front : ℕ
  pub by_merge : IsMergedBy heads left right price merges f cost number front

-- a hash join gives the cost, of a front that asks nothing
pub record IsHashed (heads : List (Option Item)) (left right : List Cell) (price f cost : ℕ) : Type 0 where
  pub asks_nothing : head_at heads f ≡ None
  pub costs : cost ≡ cost_at left 0 + cost_at right 0 + price

-- the merge of the list of that number bounds the cost
pub record MergeBound (heads : List (Option Item)) (left right : List Cell) (price : ℕ) (merge : Merge) (f cost : ℕ) : Type 0 where
  pub each : (g : ℕ) → longer_front (head_at heads merge.left_need) (head_at heads f) merge.left_need f ≡ Some g → cost ≤ any_at left g + (any_at right merge.right_front + price)

-- all of them do
pub record MergesBound (heads : List (Option Item)) (left right : List Cell) (price : ℕ) (merges : List Merge) (f cost : ℕ) : Type 0 where
  pub each : (j : ℕ) → j < length merges → MergeBound heads left right price (merge_at merges j) f cost

-- the hash join bounds the cost
pub record HashBound (heads : List (Option Item)) (left right : List Cell) (price f cost : ℕ) : Type 0 where
  pub bound : head_at heads f ≡ None → cost ≤ cost_at left 0 + cost_at right 0 + price

-- the sort of the set by what the front asks made the cost
pub record IsSorting (task : Task) (list : Order) (fronts : List Front) (row : List Cell) (set f any : ℕ) : Type 0 where
  pub columns : All (λ item. is_column_of set item ≡ true) (asked list fronts f)
  pub costs : any ≡ cost_at row 0 + sort_cost task.rates (rows_in task set)
