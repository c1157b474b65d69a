use Rattle.std.proofs.Common.{ℕ, ◌<◌}
use Rattle.planner.specs.Cells.{cost_at, row_of}
use Rattle.planner.specs.Cuts.{cut_at}
use Rattle.planner.specs.inner.Steps.{IsStep}
use Rattle.planner.specs.Rows.{width, cuts_of, CutBound, IsJoined}
use Rattle.planner.proofs.row.join_row.Given as goal

abbrev pub invariant-loop-k : goal.invariant-loop-k
invariant-loop-k l =
    record {
      step : IsStep (width l.ways) (IsJoined l.ways (row_of (width l.ways) l.cells) (cuts_of l.ways l.set)) l.initial.row l.row;
      bounds : (k : ℕ) → k < l.k → (f : ℕ) → f < width l.ways → CutBound l.ways (row_of (width l.ways) l.cells) (cut_at (cuts_of l.ways l.set) k) f (cost_at l.row f);
    }
