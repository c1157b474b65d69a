use Rattle.std.proofs.Common.{◌≡◌, ℕ, ◌<◌, ◌≤◌, length, slice_index_or}
use Rattle.inum_cache.specs.inner.Cells.{joined_place}
use Rattle.inum_cache.proofs.cell.joined_needs.Given as goal

abbrev pub invariant-loop-slot : goal.invariant-loop-slot
invariant-loop-slot l =
    record {
      count : length l.needs ≡ 8;
      done : (s : ℕ) → s < l.slot → slice_index_or l.needs s 0 ≡ joined_place l.left l.right s;
      left : (s : ℕ) → l.slot ≤ s → slice_index_or l.needs s 0 ≡ slice_index_or l.right s 0;
    }
