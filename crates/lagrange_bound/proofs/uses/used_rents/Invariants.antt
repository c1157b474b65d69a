use Rattle.std.proofs.Common.{◌≡◌, ℕ, ◌<◌, [], length}
use Rattle.std.specs.Prelude.{slice_index_or}
use Rattle.lagrange_bound.specs.CandidateUses.{weighted_rents}
use Rattle.lagrange_bound.proofs.uses.used_rents.Given as goal

abbrev pub invariant-loop-a : goal.invariant-loop-a
invariant-loop-a l =
    record {
      count : length l.earned ≡ 256;
      done : (b : ℕ) → b < l.a → slice_index_or l.earned b 0 ≡ weighted_rents (slice_index_or l.all b []) l.rents;
    }
