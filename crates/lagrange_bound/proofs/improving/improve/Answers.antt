use Rattle.std.proofs.Common.{arith, rules}
use Rattle.std.specs.Prelude.{◌≤ℤ◌}
use Rattle.lagrange_bound.specs.Bounds.{lagrangian}
use Rattle.lagrange_bound.specs.Rents.{rent_multipliers, tried_price}
use Rattle.lagrange_bound.proofs.ReachedRents.{reaches-rents}
use Rattle.lagrange_bound.proofs.improving.improve.Goals as goal

pub returns-clause-reached : goal.returns-clause-reached
returns-clause-reached c = λ i few.
    let tried : lagrangian c.args.programme.now c.args.budget c.args.fix.now (rent_multipliers c.args.programme.now (tried_price i)) ≤ℤ lagrangian c.args.programme.now c.args.budget c.args.fix.now c.loop-round.mult =
    search (c.loop-round.invariant, c.loop-round-test, c.min-round-end.ensures, few, rules) in
    reaches-rents c.args.programme.now c.args.budget c.args.fix.now c.loop-round.mult i (omega (arith, few)) c.loop-round.invariant.within tried
