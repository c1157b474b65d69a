use Rattle.std.proofs.Common.{◌≡◌, ℕ, ◌<◌, true, false, length, slice_index_or}
use Rattle.lagrange_bound.specs.inner.Marks.{Keeps}
use Rattle.lagrange_bound.proofs.changed_parts.mark_flagged.Given as goal

abbrev pub invariant-loop-i : goal.invariant-loop-i
invariant-loop-i l =
    record {
      mark_each : length l.marks ≡ length l.initial.marks;
      keeps : Keeps l.initial.marks l.marks;
      marked : (k : ℕ) → k < l.i → slice_index_or l.flags k false ≡ true → slice_index_or l.marks k false ≡ true;
    }
