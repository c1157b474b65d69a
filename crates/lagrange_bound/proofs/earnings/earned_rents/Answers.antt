use Rattle.std.proofs.Common.{suc, get_or, refl}
use Rattle.lagrange_bound.specs.Bounds.{part_rents}
use Rattle.lagrange_bound.proofs.EarnedRents.{part-fits, earned-fit, nothing-yet}
use Rattle.lagrange_bound.proofs.earnings.earned_rents.Goals as goal

pub loop-part-init : goal.loop-part-init
loop-part-init c = record { count = refl; place = refl; rest = λ a below. nothing-yet 256 a (part_rents (suc a) c.args.parts.now c.args.rents.now) }

pub earn_slots-at-requires-clause-fits : goal.earn_slots-at-requires-clause-fits
earn_slots-at-requires-clause-fits c = λ a below.
    part-fits c.args.parts.now c.args.rents.now c.loop-part.at c.loop-part.part-index c.part-item.result c.as_slice.result.now a (get_or c.loop-part.earned a 0) c.requires.few c.requires.limit c.loop-part-test.true c.part-item.is c.as_slice.ensures
    (c.loop-part.invariant.rest a below)

pub returns-clause-most : goal.returns-clause-most
returns-clause-most c = earned-fit c.args.parts.now c.args.rents.now c.loop-part.earned _ c.requires.few c.requires.limit c.loop-part.invariant.count c.loop-part.invariant.rest
