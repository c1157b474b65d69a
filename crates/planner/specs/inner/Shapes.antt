-- What stands above the joins of a whole plan.
use Rattle.std.specs.Prelude.{ℕ, ◌+◌, ◌*◌, nat_lt, Bool, true, false, not, if◌then◌else◌, List, [], ◌∷◌, Option, Some, None}
use Rattle.adv_base.specs.Items.{Order}
use Rattle.plan_model.specs.declared.plan.GroupStep.TheVariants.{Nothing, Sorted, Hashed}
use Rattle.plan_model.specs.declared.task.Task.{Task}
use Rattle.plan_model.specs.Costs.{sort_cost}
use Rattle.planner.specs.declared.cell.Cell.{Cell}
use Rattle.planner.specs.declared.whole.Shape.{Shape}
use Rattle.planner.specs.Fronts.{begins_test}
use Rattle.planner.specs.Cells.{cost_at, any_at}

abbrev pub is_nil : Order → Bool
is_nil [] = true
is_nil (x ∷ xs) = false

abbrev pub cheaper : Shape → Shape → Shape
cheaper a b = if nat_lt b.cost a.cost then b else a

-- what a final sort of rows costs, where there is one
abbrev pub final_cost : Task → ℕ → Bool → ℕ
final_cost task rows sorts = if sorts then sort_cost task.rates rows else 0

-- no group step: the body in order, or sorted at the end
abbrev pub ungrouped_shape : Task → List Cell → ℕ → Shape
ungrouped_shape task row rows =
    if is_nil task.order then
    (record { cost = cost_at row 0; front = 0; group = Nothing; final_sort = false })
    else
    cheaper (record { cost = cost_at row 1; front = 1; group = Nothing; final_sort = false }) (record { cost = cost_at row 0 + sort_cost task.rates rows; front = 0; group = Nothing; final_sort = true })

abbrev pub sorted_shape : Task → Order → List Cell → ℕ → Shape
sorted_shape task group row rows =
    record {
      cost = any_at row 1 + task.rates.group_cpu * rows + final_cost task task.group_rows (not (begins_test group task.order));
      front = 1;
      group = Sorted;
      final_sort = not (begins_test group task.order);
    }

abbrev pub hashed_shape : Task → List Cell → ℕ → Shape
hashed_shape task row rows =
    record {
      cost = cost_at row 0 + 2 * (task.rates.hash_cpu * rows) + final_cost task task.group_rows (not (is_nil task.order));
      front = 0;
      group = Hashed;
      final_sort = not (is_nil task.order);
    }

-- the cheapest of them over the row of all slots
abbrev pub least_shape : Option Order → Task → List Cell → ℕ → Shape
least_shape None task row rows = ungrouped_shape task row rows
least_shape (Some group) task row rows = cheaper (sorted_shape task group row rows) (hashed_shape task row rows)
