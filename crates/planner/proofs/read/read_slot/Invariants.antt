use Rattle.std.proofs.Common.{ℕ, ◌<◌, ◌≤◌, length}
use Rattle.adv_base.specs.Items.{BeginsWith}
use Rattle.adv_base.specs.OfferTables.{price_at, order_at}
use Rattle.planner.specs.Fronts.{asked, listed}
use Rattle.planner.specs.Cells.{cost_at}
use Rattle.planner.specs.inner.Steps.{AreOffers}
use Rattle.planner.proofs.read.read_slot.Given as goal

abbrev pub invariant-loop-offer : goal.invariant-loop-offer
invariant-loop-offer g l =
    record {
      offers : AreOffers l.task (g.O.Offers.table l.offers) (listed l.task) l.fronts l.set l.row;
      lower : (f : ℕ) → f < length l.fronts → cost_at l.row f ≤ cost_at l.initial.row f;
      bounds : (k : ℕ) → k < l.offer → (f : ℕ) → f < length l.fronts → BeginsWith (order_at (g.O.Offers.table l.offers) l.slot k) (asked (listed l.task) l.fronts f) → cost_at l.row f ≤ price_at (g.O.Offers.table l.offers) l.slot k;
    }
