use Rattle.plan_model.proofs.Renting.{rents-bound}
use Rattle.plan_model.proofs.Unique.{unrented-plain}
use Rattle.plan_model.proofs.laws.rents_bound.Goals as goal

pub returns-clause-none : goal.returns-clause-none
returns-clause-none c = unrented-plain

pub returns-clause-more : goal.returns-clause-more
returns-clause-more c = rents-bound
