use Rattle.std.proofs.Common.{◌≡◌, ℕ, ◌<◌, ◌≤◌, None, slice_index_or}
use Rattle.planner.specs.Fronts.{longer_front}
use Rattle.planner.specs.Cells.{cell_at}
use Rattle.planner.specs.inner.Steps.{merged}
use Rattle.planner.proofs.join.merge_each.Given as goal

abbrev pub invariant-loop-f : goal.invariant-loop-f
invariant-loop-f l =
    record {
      done : (k : ℕ) → k < l.f → cell_at l.row k ≡ merged (cell_at l.initial.row k) (longer_front (slice_index_or l.heads l.need None) (slice_index_or l.heads k None) l.need k) l.left l.base;
      left : (k : ℕ) → l.f ≤ k → cell_at l.row k ≡ cell_at l.initial.row k;
    }
