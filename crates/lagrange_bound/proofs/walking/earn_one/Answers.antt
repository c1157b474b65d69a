use Rattle.std.proofs.Common.{◌≡◌, suc, ◌*◌, ◌<◌, List, length, refl, ap, arith, rules}
use Rattle.bip_model.specs.declared.grant.Grant.{Grant}
use Rattle.lagrange_bound.specs.Bounds.{grant_rents}
use Rattle.lagrange_bound.proofs.EarnedRents.{earn-step, earn-fits}
use Rattle.lagrange_bound.proofs.RentedPrices.{asked-step}
use Rattle.lagrange_bound.proofs.walking.earn_one.Goals as goal

pub earn-requires : goal.earn-requires
earn-requires c =
    earn-fits c.loop-i.earned _ _ c.index-grants-i.result
    (λ a below. let same : c.args.weight * grant_rents (suc a) c.as_slice-grants.result.now c.args.rents.now ≡ c.args.weight * grant_rents (suc a) c.args.slot.now.grants c.args.rents.now = ap (λ (gs : List Grant). c.args.weight * grant_rents (suc a) gs c.args.rents.now) c.as_slice-grants.ensures in
    omega (arith, same, c.requires.fits a below))
    c.loop-i.invariant.rest

pub loop-i-preserved : goal.loop-i-preserved
loop-i-preserved c =
    let grant : Grant = c.index-grants-i.result in
    let same : length c.as_slice-grants.result.now ≡ length c.args.slot.now.grants = ap length c.as_slice-grants.ensures in
    let inside : c.loop-i.i < length c.args.rents.now = omega (arith, same, c.loop-i-test.true, c.requires.room) in
    record {
      count = search (rules, c.loop-i.invariant.count);
      rest = λ a below.
          earn-step c.as_slice-grants.result.now c.args.rents.now c.loop-i.earned c.earn.new.earned c.loop-i.i grant c.args.weight _ a _ c.loop-i-test.true inside c.loop-i.invariant.count c.index-grants-i.is refl c.earn.ensures
          (c.loop-i.invariant.rest a below);
      least =
          asked-step c.args.config.now c.args.slot.now c.as_slice-grants.result.now c.args.rents.now c.loop-i.i 0 grant _ _ _ c.requires.most c.loop-i-test.true inside c.index-grants-i.is refl c.loop-i.invariant.least
          c.lower_one-least.ensures;
    }
