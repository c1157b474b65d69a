use Rattle.std.proofs.Common.{arith}
use Rattle.access_paths.specs.ConfigOffers as paths
use Rattle.gap_checker.specs.inner.Charges.{charge_of}
use Rattle.gap_checker.specs.inner.Rows as rows
use Rattle.gap_checker.proofs.Shows.{show-step}
use Rattle.gap_checker.proofs.planning.row_of.Goals as goal

pub loop-offer-preserved : goal.loop-offer-preserved
loop-offer-preserved c =
    record {
      rest =
          show-step c.args.terms.now.config.now (charge_of c.args.terms.now c.args.statement c.args.slot) (paths.candidate_at c.args.part.now.offers.slots.items c.args.slot) (paths.table_of c.args.part.now.offers.slots.items c.args.slot) c.loop-offer.offer
          (rows.offers_of c.loop-offer.shown.items) _ _ (omega (arith, c.loop-offer-test.true, c.count-offer-end.ensures)) c.in_ok-show.ensures.shown c.loop-offer.invariant.rest;
      few = omega (arith, c.in_ok-show.ensures.few, c.loop-offer.invariant.few);
    }
