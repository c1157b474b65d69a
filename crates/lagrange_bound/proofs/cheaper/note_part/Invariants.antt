use Rattle.std.proofs.Common.{◌≡◌, All, length, take}
use Rattle.lagrange_bound.specs.inner.Marks.{Keeps, AreNoted}
use Rattle.lagrange_bound.proofs.cheaper.note_part.Given as goal

abbrev pub invariant-loop-s : goal.invariant-loop-s
invariant-loop-s l =
    record {
      long : length l.flags ≡ length l.initial.flags;
      keeps : Keeps l.initial.flags l.flags;
      noted : All (AreNoted l.flags l.place) (take l.s l.part.slots);
    }
