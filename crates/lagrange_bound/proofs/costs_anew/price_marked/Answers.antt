use Rattle.std.proofs.Common.{arith}
use Rattle.lagrange_bound.proofs.MarkedCosts.{all-priced}
use Rattle.lagrange_bound.proofs.costs_anew.price_marked.Goals as goal

pub returns-clause-costs : goal.returns-clause-costs
returns-clause-costs c =
    all-priced c.args.task.now.config.now c.args.task.now.parts.now c.args.task.now.rents.now c.loop-place.costs c.loop-place.invariant.one_each
    (λ k within. c.loop-place.invariant.before k (omega (arith, within, c.loop-place-test.false)))
