use Rattle.std.proofs.Common.{◌≡◌, length}
use Rattle.lagrange_bound.specs.inner.Marks.{AreMarked}
use Rattle.lagrange_bound.proofs.changed_parts.mark_changed.Given as goal

abbrev pub invariant-loop-a : goal.invariant-loop-a
invariant-loop-a l =
    record {
      mark_each : length l.marks ≡ length l.initial.marks;
      marked : AreMarked l.flags l.from l.to l.marks (length l.initial.marks) l.a;
    }
