use Rattle.lagrange_bound.proofs.StandingValue.{lagrangian-is}
use Rattle.lagrange_bound.proofs.laws.lagrangian_is_it.Goals as goal

pub returns : goal.returns
returns c = lagrangian-is
