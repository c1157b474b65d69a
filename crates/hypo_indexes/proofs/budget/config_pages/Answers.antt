use Rattle.std.proofs.Common.{◌<◌, ◌≤◌, length, arith, rules}
use Rattle.std.specs.Prelude.{false}
use Rattle.adv_base.specs.declared.catalogue.index.IndexShape.{IndexShape}
use Rattle.adv_base.specs.Sizes.{shape_pages}
use Rattle.adv_base.proofs.ConfigLaws.{pages-by-shape}
use Rattle.hypo_indexes.proofs.ChosenLemmas.{chosen-drop, chosen-past, chosen-flagless}
use Rattle.hypo_indexes.proofs.budget.config_pages.Goals as goal

pub returns-then-i-ge-MOST_CANDIDATES-clause-exact : goal.returns-then-i-ge-MOST_CANDIDATES-clause-exact
returns-then-i-ge-MOST_CANDIDATES-clause-exact c =
    let flagless : length c.args.config.now.on ≤ c.loop-i.i = search rules in
    omega (arith, pages-by-shape c.args.cat.now c.args.shapes.now c.args.config.now, chosen-flagless (shape_pages c.args.cat.now) c.args.config.now.on c.args.shapes.now c.loop-i.i flagless, c.loop-i.invariant.rest)

pub returns-clause-exact : goal.returns-clause-exact
returns-clause-exact c =
    let past : length c.args.shapes.now ≤ c.loop-i.i = c.loop-i-test.false in
    omega (arith, pages-by-shape c.args.cat.now c.args.shapes.now c.args.config.now, chosen-past (shape_pages c.args.cat.now) c.args.config.now.on c.args.shapes.now c.loop-i.i past, c.loop-i.invariant.rest)

pub loop-i-preserved : goal.loop-i-preserved
loop-i-preserved c =
    let shape : IndexShape = c.index-shapes-i.result in
    let within : c.loop-i.i < length c.args.config.now.on = search rules in
    let one = chosen-drop (shape_pages c.args.cat.now) c.args.config.now.on c.args.shapes.now c.loop-i.i false shape within c.loop-i-test.true in
    let two = rw (← c.index-shapes-i.is, ← c.pages_if-sum.ensures.exact) at one in
    record { rest = omega (arith, two, c.loop-i.invariant.rest); most = omega arith; places = omega arith }
