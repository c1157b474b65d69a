use Rattle.lagrange_bound.proofs.StandingValue.{plans-least}
use Rattle.lagrange_bound.proofs.laws.plan_costs_are_least.Goals as goal

pub returns : goal.returns
returns c = plans-least
