use Rattle.std.proofs.Common.{◌≡◌, ℕ, ◌^◌, ◌<◌, ◌≤◌, length}
use Rattle.planner.specs.Fronts.{asked, listed}
use Rattle.planner.specs.Cells.{cost_at}
use Rattle.planner.specs.inner.Steps.{AreOffers, SlotBound}
use Rattle.planner.proofs.read.read_row.Given as goal

abbrev pub invariant-loop-slot : goal.invariant-loop-slot
invariant-loop-slot g l =
    record {
      offers : AreOffers l.task (g.O.Offers.table l.offers) (listed l.task) l.fronts l.set l.row;
      lower : (f : ℕ) → f < length l.fronts → cost_at l.row f ≤ cost_at l.initial.row f;
      bounds : (s : ℕ) → s < l.slot → 2 ^ s ≡ l.set → (f : ℕ) → f < length l.fronts → SlotBound (g.O.Offers.table l.offers) (asked (listed l.task) l.fronts f) s (cost_at l.row f);
    }
