-- What plans cost, in thousandths of a page read: the sum over their operators.
use Rattle.std.specs.Prelude.{ℕ, ◌+◌, ◌*◌, if◌then◌else◌, Option, Some, None, slice_index}
use Rattle.adv_base.specs.declared.catalogue.rates.Rates.{Rates}
use Rattle.adv_base.specs.Items.{Order}
use Rattle.adv_base.specs.Offers.{OfferTable}
use Rattle.adv_base.specs.Sums.{binary_digits}
use Rattle.plan_model.specs.declared.plan.GroupStep.{GroupStep}
use Rattle.plan_model.specs.declared.plan.GroupStep.TheVariants.{Nothing, Sorted, Hashed}
use Rattle.plan_model.specs.declared.plan.Plan.{Plan}
use Rattle.plan_model.specs.declared.plan.Plan.TheVariants.{Leaf, Sort', Merge', Hash'}
use Rattle.plan_model.specs.declared.plan.Whole.{Whole}
use Rattle.plan_model.specs.declared.task.Task.{Task}
use Rattle.adv_base.specs.OfferTables.{price_at}
use Rattle.plan_model.specs.Plans.{covers}

-- the rows of a set of slots
abbrev pub rows_in : Task → ℕ → ℕ
rows_in task set = slice_index task.rows set

-- sorting rows: each row once for each binary digit of their number
unfoldable pub sort_cost : Rates → ℕ → ℕ
sort_cost rates rows = rates.sort_cpu * (rows * binary_digits rows)

-- merging sides of these rows into joined ones
unfoldable pub merge_cost : Rates → ℕ → ℕ → ℕ → ℕ
merge_cost rates left right joined = rates.merge_cpu * (left + right) + rates.row_cpu * joined

-- hashing the right side and looking up the left: a row of the right counts twice
unfoldable pub hash_cost : Rates → ℕ → ℕ → ℕ → ℕ
hash_cost rates left right joined = rates.hash_cpu * (left + 2 * right) + rates.row_cpu * joined

-- merging two sets of slots
abbrev pub merge_of : Task → ℕ → ℕ → ℕ
merge_of task left right = merge_cost task.rates (rows_in task left) (rows_in task right) (rows_in task (left + right))

-- hashing the right set of slots and looking up the left one
abbrev pub hash_of : Task → ℕ → ℕ → ℕ
hash_of task left right = hash_cost task.rates (rows_in task left) (rows_in task right) (rows_in task (left + right))

-- the cost of a plan and all below it
abbrev pub plan_cost : Task → OfferTable → Plan → ℕ
plan_cost task table (Leaf slot offer) = price_at table slot offer
plan_cost task table (Sort' order p input) = plan_cost task table input + sort_cost task.rates (rows_in task (covers input))
plan_cost task table (Merge' edge p left q right) =
    plan_cost task table left + plan_cost task table right + merge_of task (covers left) (covers right)
plan_cost task table (Hash' p left q right) =
    plan_cost task table left + plan_cost task table right + hash_of task (covers left) (covers right)

-- grouping rows
abbrev pub group_cost : Rates → GroupStep → ℕ → ℕ
group_cost rates Nothing rows = 0
group_cost rates Sorted rows = rates.group_cpu * rows
group_cost rates Hashed rows = 2 * (rates.hash_cpu * rows)

-- the rows that a final sort gets: those of the groups, where the task groups
abbrev pub final_rows : Task → Option Order → ℕ → ℕ
final_rows task None rows = rows
final_rows task (Some group) rows = task.group_rows

-- the cost of a whole plan
abbrev pub whole_cost : Task → OfferTable → Whole → ℕ
whole_cost task table whole =
    plan_cost task table whole.body + group_cost task.rates whole.group (rows_in task (covers whole.body))
    + (if whole.final_sort then sort_cost task.rates (final_rows task task.group (rows_in task (covers whole.body))) else 0)
