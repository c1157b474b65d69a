use Rattle.std.proofs.Common.{suc, get_or, refl, arith}
use Rattle.lagrange_bound.specs.Bounds.{part_rents}
use Rattle.lagrange_bound.proofs.CarriedCosts.{next-room}
use Rattle.lagrange_bound.proofs.EarnedRents.{part-fits, earned-fit, nothing-yet}
use Rattle.lagrange_bound.proofs.bounds.both_sums.Goals as goal

pub loop-part-init : goal.loop-part-init
loop-part-init c = record { place = refl; plans = omega arith; most = omega arith; count = refl; earned = λ a below. nothing-yet 256 a (part_rents (suc a) c.args.parts.now c.args.rents.now) }

pub earned_cost-priced-requires-clause-room : goal.earned_cost-priced-requires-clause-room
earned_cost-priced-requires-clause-room c =
    next-room c.args.parts.now c.args.rents.now c.loop-part.part-index c.loop-part.at c.part-item.result c.requires.one_each c.loop-part-test.true c.part-item.is c.loop-part.invariant.place

pub earned_cost-priced-requires-clause-fits : goal.earned_cost-priced-requires-clause-fits
earned_cost-priced-requires-clause-fits c = λ a below.
    part-fits c.args.parts.now c.args.rents.now c.loop-part.at c.loop-part.part-index c.part-item.result _ a (get_or c.loop-part.earned a 0) c.requires.few c.requires.limit c.loop-part-test.true c.part-item.is refl
    (c.loop-part.invariant.earned a below)

pub returns-clause-earned_most : goal.returns-clause-earned_most
returns-clause-earned_most c = earned-fit c.args.parts.now c.args.rents.now c.loop-part.earned _ c.requires.few c.requires.limit c.loop-part.invariant.count c.loop-part.invariant.earned
