-- The orders of a slot that some operator above may want, after System R's interesting orders.
use Rattle.std.specs.Prelude.{ℕ, ◌*◌, ◌==◌, Bool, true, if◌then◌else◌, List, [], ◌∷◌, ◌++◌, length, Option, Some, None, zero, suc}
use Rattle.std.specs.List.{list_any, flat_map}
use Rattle.adv_base.specs.declared.workload.parts.Item.{Item}
use Rattle.adv_base.specs.Items.{Order, is_same_order, is_own_list}
use Rattle.plan_model.specs.declared.edge.TaskEdge.{TaskEdge}
use Rattle.plan_model.specs.declared.task.Task.{Task}

-- a need as an order
abbrev pub need_order : Option Item → Order
need_order None = []
need_order (Some item) = item ∷ []

-- the needs of an edge at a slot, where its column there isn't bound
abbrev pub needs_at : ℕ → Bool → Option Item → List Order
needs_at slot true (Some item) = (item ∷ []) ∷ []
needs_at slot here need = []

abbrev pub edge_orders : ℕ → TaskEdge → List Order
edge_orders slot edge = needs_at slot (edge.left == slot) edge.left_need ++ needs_at slot (edge.right == slot) edge.right_need

abbrev pub own_list : ℕ → Order → List Order
own_list slot order = if is_own_list slot order then order ∷ [] else []

-- the list to group by, or where the block doesn't group, the list to order by
abbrev pub wanted_list : Option Order → Order → Order
wanted_list (Some group) order = group
wanted_list None order = order

-- the orders without those that stand in the list before
abbrev pub without_repeats : List Order → List Order → List Order
without_repeats before [] = []
without_repeats before (x ∷ xs) =
    if list_any (is_same_order x) before then without_repeats before xs else x ∷ without_repeats (before ++ x ∷ []) xs

-- First none at all; then the columns by which merges may want the slot; then the list to group or order by, if its
-- columns are all the slot's.
unfoldable pub interesting_orders : Task → ℕ → List Order
interesting_orders task slot =
    without_repeats [] ([] ∷ (flat_map (edge_orders slot) task.edges ++ own_list slot (wanted_list task.group task.order)))

-- the product of the numbers of orders of the slots below n
unfoldable pub combinations_below : Task → ℕ → ℕ
combinations_below task zero = 1
combinations_below task (suc n) = combinations_below task n * length (interesting_orders task n)

-- the ways to choose an order for each slot
unfoldable pub combinations : Task → ℕ
combinations task = combinations_below task task.slots
