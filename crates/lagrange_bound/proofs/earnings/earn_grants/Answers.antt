use Rattle.std.proofs.Common.{◌<◌, length, refl, arith, rules}
use Rattle.lagrange_bound.proofs.EarnedRents.{earn-step, earn-fits}
use Rattle.lagrange_bound.proofs.earnings.earn_grants.Goals as goal

pub earn-requires : goal.earn-requires
earn-requires c = earn-fits c.loop-i.earned _ _ c.index-grants-i.result c.requires.fits c.loop-i.invariant.rest

pub loop-i-preserved : goal.loop-i-preserved
loop-i-preserved c =
    let inside : c.loop-i.i < length c.args.rents.now = omega (arith, c.loop-i-test.true, c.requires.room) in
    record {
      count = search (rules, c.loop-i.invariant.count);
      rest = λ a below.
          earn-step c.args.grants.now c.args.rents.now c.loop-i.earned c.earn.new.earned c.loop-i.i c.index-grants-i.result c.args.weight _ a _ c.loop-i-test.true inside c.loop-i.invariant.count
          c.index-grants-i.is refl c.earn.ensures (c.loop-i.invariant.rest a below);
    }
