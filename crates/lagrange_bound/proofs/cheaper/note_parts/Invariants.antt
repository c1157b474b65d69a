use Rattle.std.proofs.Common.{◌≡◌, ℕ, ◌<◌, All, length}
use Rattle.std.specs.Prelude.{Some, slice_get}
use Rattle.bip_model.specs.declared.part.Part.{Part}
use Rattle.lagrange_bound.specs.inner.Marks.{AreNoted}
use Rattle.lagrange_bound.proofs.cheaper.note_parts.Given as goal

abbrev pub invariant-loop-i : goal.invariant-loop-i
invariant-loop-i l =
    record {
      long : length l.flags ≡ length l.initial.flags;
      noted : (k : ℕ) (part : Part) → k < l.i → slice_get l.parts k ≡ Some part → All (AreNoted l.flags k) part.slots;
    }
