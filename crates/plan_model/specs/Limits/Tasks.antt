-- Limits of tasks.
use Rattle.std.specs.Prelude.{◌≡◌, ◌≢◌, ℕ, ◌<◌, ◌≤◌, ◌^◌, nat_lt, Bool, true, List, length, All, map, Option}
use Rattle.std.specs.Option.{ForSome}
use Rattle.adv_base.specs.declared.limits.TheConstants.{MOST_COLUMNS, MOST_ROWS, MOST_SLOTS}
use Rattle.adv_base.specs.declared.workload.parts.Item.{Item}
use Rattle.adv_base.specs.declared.workload.parts.Item.TheVariants.{Up, Down, Made}
use Rattle.adv_base.specs.Sets.{IsConnected}
use Rattle.adv_base.specs.Limits.Blocks.{ListLimits, GroupLimits}
use Rattle.plan_model.specs.declared.edge.TaskEdge.{TaskEdge}

-- the two slots of an edge
abbrev pub ends : TaskEdge → ℕ × ℕ
ends edge = (edge.left, edge.right)

-- an edge ties two different slots; a need is its column, upwards
pub record EdgeLimits (slots : ℕ) (edge : TaskEdge) : Type 0 where
  pub left_slot : edge.left < slots
  pub right_slot : edge.right < slots
  pub apart : edge.left ≢ edge.right
  pub left_number : edge.left_column < MOST_COLUMNS
  pub right_number : edge.right_column < MOST_COLUMNS
  pub left_item : ForSome edge.left_need (λ item. item ≡ Up edge.left edge.left_column)
  pub right_item : ForSome edge.right_need (λ item. item ≡ Up edge.right edge.right_column)

-- from 1 on
pub record RowLimits (rows : ℕ) : Type 0 where
  pub some : 1 ≤ rows
  pub most : rows ≤ MOST_ROWS

-- the number of an item's column is that of a table's column
abbrev pub is_numbered : Item → Bool
is_numbered (Up slot column) = nat_lt column MOST_COLUMNS
is_numbered (Down slot column) = nat_lt column MOST_COLUMNS
is_numbered (Made number) = true

abbrev pub AreNumbered : List Item → Type 0
AreNumbered items = All (λ item. is_numbered item ≡ true) items

pub record TaskLimits (slots : ℕ) (edges : List TaskEdge) (rows : List ℕ) (group : Option (List Item)) (group_rows : ℕ) (order : List Item) : Type 0 where
  pub slots_some : 1 ≤ slots
  pub slots_most : slots ≤ MOST_SLOTS
  pub each_edge : All (EdgeLimits slots) edges
  pub edges_most : length edges < 2 ^ 32
  pub connected : IsConnected slots (map ends edges)
  -- a number of rows for each set of slots
  pub rows_each : length rows ≡ 2 ^ slots
  pub rows_limits : All RowLimits rows
  pub group_rows_limits : RowLimits group_rows
  pub group_list : ForSome group (GroupLimits slots)
  pub group_numbers : ForSome group AreNumbered
  pub order_list : ListLimits slots order
  pub order_numbers : AreNumbered order
