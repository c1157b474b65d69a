-- The orders of slots by their places.
use Rattle.std.specs.Prelude.{◌≡◌, ℕ, ◌<◌, List, [], length, slice_index_or}
use Rattle.adv_base.specs.Items.{Order}
use Rattle.plan_model.specs.declared.task.Task.{Task}
use Rattle.plan_model.specs.Orders.{interesting_orders}

-- how many orders a slot has
abbrev pub size_in : List (List Order) → ℕ → ℕ
size_in orders slot = length (slice_index_or orders slot [])

-- a slot's order at a place; the empty one past their end
abbrev pub order_in : List (List Order) → ℕ → ℕ → Order
order_in orders slot place = slice_index_or (slice_index_or orders slot []) place []

-- these are the interesting orders of each slot of the task
pub record AreOrders (task : Task) (orders : List (List Order)) : Type 0 where
  pub count : length orders ≡ task.slots
  pub each : (slot : ℕ) → slot < task.slots → slice_index_or orders slot [] ≡ interesting_orders task slot
