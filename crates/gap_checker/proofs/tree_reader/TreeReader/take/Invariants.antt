use Rattle.std.proofs.Common.{◌≡◌, List, ℕ, ◌++◌, length}
use Rattle.gap_checker.specs.inner.Judges as judges
use Rattle.gap_checker.specs.inner.Memos.{IsMemo}
use Rattle.gap_checker.specs.inner.Readings as readings
use Rattle.gap_checker.proofs.tree_reader.TreeReader.take.Given as goal

-- the bytes before the rest were taken
abbrev pub invariant-lines : goal.invariant-lines
invariant-lines l = record {
  taken : (done : List ℕ) × (l.piece ≡ done ++ l.rest) × readings.TakesOn l.judge l.head l.fn.self done l.self;
  memo_is : IsMemo (judges.setting_of l.judge) l.judge.claims.sets.now l.memo;
}

abbrev pub decreases-lines : goal.decreases-lines
decreases-lines l = length l.rest
