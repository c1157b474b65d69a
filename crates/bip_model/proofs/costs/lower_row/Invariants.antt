use Rattle.std.proofs.Common.{◌≡◌, ℕ, ◌<◌, ◌≤◌, min, slice_index_or}
use Rattle.bip_model.specs.Values as values
use Rattle.bip_model.specs.Words as words
use Rattle.bip_model.proofs.costs.lower_row.Given as goal

abbrev pub invariant-loop-o : goal.invariant-loop-o
invariant-loop-o l =
    record {
      done : (k : ℕ) → k < l.o → slice_index_or l.row k 0 ≡ min (slice_index_or l.initial.row k 0) (words.word (values.price_of l.prices k));
      left : (k : ℕ) → l.o ≤ k → slice_index_or l.row k 0 ≡ slice_index_or l.initial.row k 0;
    }
