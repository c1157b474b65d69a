use Rattle.std.proofs.Common.{ℕ, ◌<◌, length}
use Rattle.planner.specs.Cells.{cost_at}
use Rattle.planner.specs.Cuts.{merge_at}
use Rattle.planner.specs.Choices.{IsMerged, MergeBound}
use Rattle.planner.specs.inner.Steps.{IsStep}
use Rattle.planner.proofs.join.merge_rows.Given as goal

abbrev pub invariant-loop-merge : goal.invariant-loop-merge
invariant-loop-merge l =
    record {
      step : IsStep (length l.initial.row) (IsMerged l.heads l.left l.right l.price l.merges) l.initial.row l.row;
      bounds : (j : ℕ) → j < l.merge-index → (f : ℕ) → f < length l.initial.row → MergeBound l.heads l.left l.right l.price (merge_at l.merges j) f (cost_at l.row f);
    }
