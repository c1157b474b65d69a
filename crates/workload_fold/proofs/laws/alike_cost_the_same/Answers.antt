use Rattle.workload_fold.proofs.Costing.{same_work_proposals, same_upkeep, same_cost, one_task, one_table}
use Rattle.workload_fold.proofs.laws.alike_cost_the_same.Goals as goal

pub returns-clause-proposals : goal.returns-clause-proposals
returns-clause-proposals c = same_work_proposals

pub returns-clause-task : goal.returns-clause-task
returns-clause-task c = one_task

pub returns-clause-table : goal.returns-clause-table
returns-clause-table c = one_table

pub returns-clause-upkeep : goal.returns-clause-upkeep
returns-clause-upkeep c = same_upkeep

pub returns-clause-cost : goal.returns-clause-cost
returns-clause-cost c = same_cost
