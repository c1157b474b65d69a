use Rattle.std.proofs.Common.{◌<◌, ◌≤◌, ◌*◌, length, get_or, arith, rules}
use Rattle.adv_base.specs.declared.limits.TheConstants.{MOST_STATEMENTS, MOST_UPKEEP, MOST_WEIGHT}
use Rattle.bip_model.proofs.Pricing.{chosen-drop, chosen-past}
use Rattle.bip_model.proofs.costs.chosen_upkeep.Goals as goal

pub returns-clause-exact : goal.returns-clause-exact
returns-clause-exact c =
    omega (arith, chosen-past c.args.config.now.on c.args.upkeep.now c.loop-a.a c.loop-a-test.false, c.loop-a.invariant.rest)

pub loop-a-preserved : goal.loop-a-preserved
loop-a-preserved c =
    let within : c.loop-a.a < length c.args.config.now.on = search rules in
    let one = chosen-drop c.args.config.now.on c.args.upkeep.now c.loop-a.a within c.loop-a-test.true in
    let most : get_or c.args.upkeep.now c.loop-a.a 0 ≤ MOST_STATEMENTS * (MOST_WEIGHT * MOST_UPKEEP) = c.requires.limits c.loop-a.a 0 c.loop-a-test.true in
    let less : c.if_chosen-sum.result ≤ MOST_STATEMENTS * (MOST_WEIGHT * MOST_UPKEEP) = grind (arith, most) in
    record { rest = omega (arith, one, c.if_chosen-sum.ensures, c.loop-a.invariant.rest); most = omega (arith, less) }
