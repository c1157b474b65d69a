use Rattle.std.proofs.Common.{◌≢◌, ℕ, ◌<◌, ◌≤◌, List, length}
use Rattle.std.specs.Prelude.{slice_index_or}
use Rattle.bip_model.specs.declared.part.Part.{Part}
use Rattle.retune.specs.inner.Renewing.{ArePutBehind}
use Rattle.retune.proofs.narrowing.put_or_renumber.Given as goal

-- what puts those that are left puts all
abbrev pub invariant-loop-own : goal.invariant-loop-own
invariant-loop-own l =
    record {
      few : length l.left.items ≤ length l.parts;
      stays : (k : ℕ) (d : Part) → k < length l.left.items → (slice_index_or l.parts k d).statement ≢ l.gone;
      put : (news : List Part) → ArePutBehind l.gone (λ n. slice_index_or l.numbers.of n 0) l.left.items l.parts news →
          ArePutBehind l.gone (λ n. slice_index_or l.numbers.of n 0) l.initial.left.items l.initial.parts news;
    }

abbrev pub decreases-loop-own : goal.decreases-loop-own
decreases-loop-own l = length l.left.items
