use Rattle.budget_sweep.proofs.CurveLaws.{points-bound, gaps-own}
use Rattle.budget_sweep.proofs.laws.curves_bound.Goals as goal

pub returns-clause-bound : goal.returns-clause-bound
returns-clause-bound c = points-bound

pub returns-clause-gap : goal.returns-clause-gap
returns-clause-gap c = gaps-own
