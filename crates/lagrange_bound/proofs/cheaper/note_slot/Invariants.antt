use Rattle.std.proofs.Common.{◌≡◌, All, length, take}
use Rattle.lagrange_bound.specs.inner.Marks.{Keeps, IsNoted}
use Rattle.lagrange_bound.proofs.cheaper.note_slot.Given as goal

abbrev pub invariant-loop-k : goal.invariant-loop-k
invariant-loop-k l =
    record {
      long : length l.flags ≡ length l.initial.flags;
      keeps : Keeps l.initial.flags l.flags;
      noted : All (IsNoted l.flags l.place l.slot.base) (take l.k l.slot.grants);
    }
