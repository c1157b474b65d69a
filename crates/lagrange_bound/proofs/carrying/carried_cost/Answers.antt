use Rattle.std.proofs.Common.{◌∙◌, drop}
use Rattle.lagrange_bound.proofs.CarriedCosts.{rented_cost-same}
use Rattle.lagrange_bound.proofs.carrying.carried_cost.Goals as goal

pub returns : goal.returns
returns c = c.requires.old ∙ rented_cost-same c.args.from.now c.args.to.now c.args.part.now (drop c.args.at c.args.rents.now) (c.differs.ensures c.if-differs.false)
