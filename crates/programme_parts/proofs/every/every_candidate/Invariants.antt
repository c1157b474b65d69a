use Rattle.std.proofs.Common.{◌≡◌, ℕ, ◌<◌, true, length, slice_index_or}
use Rattle.std.specs.Prelude.{false}
use Rattle.programme_parts.proofs.every.every_candidate.Given as goal

abbrev pub invariant-loop-a : goal.invariant-loop-a
invariant-loop-a l =
    record {
      sized : length l.on ≡ 256;
      on : (k : ℕ) → k < l.a → slice_index_or l.on k false ≡ true;
    }
