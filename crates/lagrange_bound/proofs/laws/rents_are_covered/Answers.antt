use Rattle.lagrange_bound.proofs.CoveredRents.{rents-covered}
use Rattle.lagrange_bound.proofs.laws.rents_are_covered.Goals as goal

pub returns : goal.returns
returns c = rents-covered
