use Rattle.lagrange_bound.proofs.WrittenRents.{rents-agree}
use Rattle.lagrange_bound.proofs.laws.rent_multipliers_agree.Goals as goal

pub returns : goal.returns
returns c = rents-agree
