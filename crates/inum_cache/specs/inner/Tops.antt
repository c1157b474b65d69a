-- What stands above the joins of whole plans, and the templates that come of it.
use Rattle.std.specs.Prelude.{◌≡◌, ℕ, ◌+◌, Bool, true, not, ◌⊎◌, List, Option, Some, None}
use Rattle.adv_base.specs.Items.{Order}
use Rattle.plan_model.specs.declared.plan.GroupStep.{GroupStep}
use Rattle.plan_model.specs.declared.plan.GroupStep.TheVariants.{Nothing, Sorted, Hashed}
use Rattle.plan_model.specs.declared.task.Task.{Task}
use Rattle.plan_model.specs.declared.template.Template.{Template}
use Rattle.plan_model.specs.Costs.{final_rows, group_cost}
use Rattle.planner.specs.Fronts.{begins_test}
use Rattle.planner.specs.inner.Shapes.{final_cost, is_nil}
use Rattle.inum_cache.specs.inner.Cells.{RaiseGives}
use Rattle.inum_cache.specs.inner.Passes.{cell_in}

-- whether there is a list to group by, or some item to order by
abbrev pub has_list : Option Order → Order → Bool
has_list None order = not (is_nil order)
has_list (Some group) order = true

-- the steps above a body in the order of that list: a sorted group and, where it isn't in order, a final sort
abbrev pub ordered_cost : Option Order → Task → ℕ → ℕ
ordered_cost None task rows = 0
ordered_cost (Some group) task rows =
    group_cost task.rates Sorted rows + final_cost task task.group_rows (not (begins_test group task.order))

-- the group step above a body in no order: by hashing, where the task groups
abbrev pub plain_step : Option Order → GroupStep
plain_step None = Nothing
plain_step (Some group) = Hashed

-- that step and, where the task orders, a final sort
abbrev pub unordered_cost : Option Order → Task → ℕ → ℕ
unordered_cost group task rows =
    group_cost task.rates (plain_step group) rows + final_cost task (final_rows task group rows) (not (is_nil task.order))

abbrev pub OrderedGives : Task → List (List Template) → ℕ → Template → Type 0
OrderedGives task row rows template =
    (has_list task.group task.order ≡ true) × RaiseGives (cell_in row 1) (ordered_cost task.group task rows) template

abbrev pub UnorderedGives : Task → List (List Template) → ℕ → Template → Type 0
UnorderedGives task row rows = RaiseGives (cell_in row 0) (unordered_cost task.group task rows)

-- the templates of whole plans, from the row of all slots
abbrev pub TopGives : Task → List (List Template) → ℕ → Template → Type 0
TopGives task row rows template = UnorderedGives task row rows template ⊎ OrderedGives task row rows template
