use Rattle.std.proofs.Common.{◌≡◌, ◌<◌, length, refl, ap, arith}
use Rattle.lagrange_bound.proofs.RentedPrices.{asked-step}
use Rattle.lagrange_bound.proofs.plan_costs.least_of_one.Goals as goal

pub loop-i-preserved : goal.loop-i-preserved
loop-i-preserved c =
    let same : length c.as_slice-grants.result.now ≡ length c.args.slot.now.grants = ap length c.as_slice-grants.ensures in
    let inside : c.loop-i.i < length c.args.rents.now = omega (arith, same, c.loop-i-test.true, c.requires.room) in
    asked-step c.args.config.now c.args.slot.now c.as_slice-grants.result.now c.args.rents.now c.loop-i.i c.args.o c.index-grants-i.result _ _ _ c.requires.most c.loop-i-test.true inside c.index-grants-i.is refl c.loop-i.invariant c.lower_one-least.ensures
