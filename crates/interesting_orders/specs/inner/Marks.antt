-- Orders of a slot that are gathered one by one, and marks on the columns that have one.
use Rattle.std.specs.Prelude.{◌≡◌, ℕ, ◌+◌, ◌<◌, ◌≤◌, Bool, false, if◌then◌else◌, List, [], ◌∷◌, ◌++◌, length, All, Option, Some, None, count_by, slice_index_or}
use Rattle.std.specs.List.{list_any}
use Rattle.adv_base.specs.declared.workload.parts.Item.TheVariants.{Up, Down, Made}
use Rattle.adv_base.specs.declared.limits.TheConstants.{MOST_COLUMNS}
use Rattle.adv_base.specs.Items.{Order, is_same_order}
use Rattle.plan_model.specs.declared.edge.TaskEdge.{TaskEdge}
use Rattle.plan_model.specs.Limits.Tasks.{EdgeLimits}

-- an edge of some task
abbrev pub IsEdge : TaskEdge → Type 0
IsEdge edge = (slots : ℕ) × EdgeLimits slots edge

-- the orders with one more at their end, unless it stands among them
abbrev pub add_order : List Order → Order → List Order
add_order orders order = if list_any (is_same_order order) orders then orders else orders ++ order ∷ []

-- the order of a column of a slot, if there is one
abbrev pub column_orders : ℕ → Option ℕ → List Order
column_orders slot None = []
column_orders slot (Some column) = (Up slot column ∷ []) ∷ []

-- a single column that is marked
abbrev pub is_marked : List Bool → Order → Bool
is_marked seen [] = false
is_marked seen (Up slot column ∷ []) = slice_index_or seen column false
is_marked seen (Up slot column ∷ (y ∷ ys)) = false
is_marked seen (Down slot column ∷ ys) = false
is_marked seen (Made number ∷ ys) = false

-- The orders are the empty one and those of the slot's columns that are marked.
pub record AreMarks (slot : ℕ) (seen : List Bool) (orders : List Order) : Type 0 where
  pub size : length seen ≡ MOST_COLUMNS
  pub short : All (λ order. length order ≤ 1) orders
  pub marks : (column : ℕ) → column < MOST_COLUMNS → slice_index_or seen column false ≡ list_any (is_same_order (Up slot column ∷ [])) orders
  pub counted : length orders ≡ 1 + count_by (λ mark. mark) seen
