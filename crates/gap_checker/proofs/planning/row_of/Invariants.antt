use Rattle.std.proofs.Common.{◌≡◌, ◌≤◌, ◌++◌, drop, length}
use Rattle.access_paths.specs.ConfigOffers as paths
use Rattle.gap_checker.specs.inner.Charges.{charge_of}
use Rattle.gap_checker.specs.inner.Rows as rows
use Rattle.gap_checker.proofs.planning.row_of.Given as goal

abbrev pub invariant-loop-offer : goal.invariant-loop-offer
invariant-loop-offer l =
    record {
      rest :
          rows.offers_of l.shown.items
          ++ rows.shown_from l.terms.config.now (charge_of l.terms l.statement l.slot) (paths.candidate_at l.part.offers.slots.items l.slot) l.offer (drop l.offer (paths.table_of l.part.offers.slots.items l.slot))
          ≡ rows.shown_from l.terms.config.now (charge_of l.terms l.statement l.slot) (paths.candidate_at l.part.offers.slots.items l.slot) 0 (paths.table_of l.part.offers.slots.items l.slot);
      few : length l.shown.items ≤ l.offer;
    }
