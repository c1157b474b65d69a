use Rattle.std.proofs.Common.{◌≡◌, ℕ, ◌<◌, ◌≤◌}
use Rattle.adv_base.specs.OfferTables.{price_at, order_at}
use Rattle.planner.specs.Fronts.{asked, begins_test}
use Rattle.planner.specs.Cells.{cell_at}
use Rattle.planner.specs.inner.Steps.{offered}
use Rattle.planner.proofs.read.read_offer.Given as goal

abbrev pub invariant-loop-f : goal.invariant-loop-f
invariant-loop-f g l =
    record {
      done : (k : ℕ) → k < l.f → cell_at l.row k ≡ offered (cell_at l.initial.row k) (begins_test (order_at (g.O.Offers.table l.offers) l.slot l.offer) (asked l.list l.fronts k)) (price_at (g.O.Offers.table l.offers) l.slot l.offer);
      left : (k : ℕ) → l.f ≤ k → cell_at l.row k ≡ cell_at l.initial.row k;
    }
