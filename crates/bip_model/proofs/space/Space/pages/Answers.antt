use Rattle.std.proofs.Common.{◌<◌, length, arith, rules}
use Rattle.bip_model.proofs.Pricing.{chosen-drop, chosen-past}
use Rattle.bip_model.proofs.space.Space.pages.Goals as goal

pub returns-clause-exact : goal.returns-clause-exact
returns-clause-exact c =
    omega (arith, chosen-past c.args.config.now.on c.args.self.now.sizes.now c.loop-a.a c.loop-a-test.false, c.loop-a.invariant.rest)

pub loop-a-preserved : goal.loop-a-preserved
loop-a-preserved c =
    let within : c.loop-a.a < length c.args.config.now.on = search rules in
    let one = chosen-drop c.args.config.now.on c.args.self.now.sizes.now c.loop-a.a within c.loop-a-test.true in
    record { rest = omega (arith, one, c.pages_if-sum.ensures.exact, c.loop-a.invariant.rest); most = omega arith }
