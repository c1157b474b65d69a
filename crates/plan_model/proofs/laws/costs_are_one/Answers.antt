use Rattle.plan_model.proofs.Unique.{one-task, one-block_cost, one-cost, one-total, one-lagrangian}
use Rattle.plan_model.proofs.laws.costs_are_one.Goals as goal

pub returns-clause-task : goal.returns-clause-task
returns-clause-task c = one-task

pub returns-clause-block : goal.returns-clause-block
returns-clause-block c = one-block_cost

pub returns-clause-statement : goal.returns-clause-statement
returns-clause-statement c = one-cost

pub returns-clause-total : goal.returns-clause-total
returns-clause-total c = one-total

pub returns-clause-lagrangian : goal.returns-clause-lagrangian
returns-clause-lagrangian c = one-lagrangian
