use Rattle.std.proofs.Common.{◌<◌, ◌≤◌, length, arith, rules}
use Rattle.std.specs.Prelude.{false}
use Rattle.adv_base.specs.declared.catalogue.index.IndexShape.{IndexShape}
use Rattle.adv_base.specs.Upkeep.{upkeep}
use Rattle.hypo_indexes.proofs.ChosenLemmas.{chosen-drop, chosen-past}
use Rattle.hypo_indexes.proofs.writes.config_upkeep.Goals as goal

pub returns-clause-exact : goal.returns-clause-exact
returns-clause-exact c =
    let past : length c.args.shapes.now ≤ c.loop-i.i = c.loop-i-test.false in
    omega (arith, chosen-past (upkeep c.args.cat.now c.args.statement.now.work) c.args.config.now.on c.args.shapes.now c.loop-i.i past, c.loop-i.invariant.rest)

pub loop-i-preserved : goal.loop-i-preserved
loop-i-preserved c =
    let shape : IndexShape = c.index-shapes-i.result in
    let within : c.loop-i.i < length c.args.config.now.on = search rules in
    let one = chosen-drop (upkeep c.args.cat.now c.args.statement.now.work) c.args.config.now.on c.args.shapes.now c.loop-i.i false shape within c.loop-i-test.true in
    let two = rw (← c.index-shapes-i.is, ← c.upkeep_if-sum.ensures.exact) at one in
    record { rest = omega (arith, two, c.loop-i.invariant.rest); most = omega arith; places = omega arith }
