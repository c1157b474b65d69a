use Rattle.std.proofs.Common.{◌≡◌, ◌≤◌, ◌+◌, ℕ, List, length}
use Rattle.gap_checker.specs.inner.Judges as judges
use Rattle.gap_checker.specs.inner.Memos.{IsMemo}
use Rattle.gap_checker.specs.inner.Readings as readings
use Rattle.gap_checker.proofs.Behind.{IsFrontBehind}
use Rattle.gap_checker.proofs.checking.read_tree.Given as goal

abbrev pub invariant-reading : goal.invariant-reading
invariant-reading g l = record {
  read : (text : List ℕ) × IsFrontBehind (g.S.Shelf.files l.fn.shelf) l.name l.head.tree_at text × readings.HasTaken l.judge l.head l.reader text × (l.place ≡ l.head.tree_at + length text);
  fits : readings.ReaderFits l.head l.reader;
  memo_is : IsMemo (judges.setting_of l.judge) l.judge.claims.sets.now l.memo;
  most : l.place + readings.bytes_left l.head l.reader ≤ l.head.tree_at + 7000000;
  files : g.S.Shelf.files l.shelf ≡ g.S.Shelf.files l.fn.shelf;
  counts : g.S.Shelf.read_faults l.fn.shelf ≤ g.S.Shelf.read_faults l.shelf;
  counts_at : (n : List ℕ) → g.S.Shelf.read_faults_at l.fn.shelf n ≤ g.S.Shelf.read_faults_at l.shelf n;
  puts : g.S.Shelf.put_faults l.shelf ≡ g.S.Shelf.put_faults l.fn.shelf;
}

abbrev pub decreases-reading : goal.decreases-reading
decreases-reading g l = readings.bytes_left l.head l.reader
