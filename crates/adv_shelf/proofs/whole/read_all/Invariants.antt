use Rattle.std.proofs.Common.{◌≡◌, ◌≤◌, ℕ, List, length, ◌+◌, ◌-◌}
use Rattle.adv_shelf.specs.Taker.{IsFront}
use Rattle.adv_shelf.proofs.whole.read_all.Given as goal

abbrev pub invariant-reading : goal.invariant-reading
invariant-reading g l = record {
  front : IsFront (g.S.Shelf.files l.fn.shelf) l.name l.bytes.items;
  files : g.S.Shelf.files l.shelf ≡ g.S.Shelf.files l.fn.shelf;
  counts : g.S.Shelf.read_faults l.fn.shelf ≤ g.S.Shelf.read_faults l.shelf;
  counts_at : (n : List ℕ) → g.S.Shelf.read_faults_at l.fn.shelf n ≤ g.S.Shelf.read_faults_at l.shelf n;
  puts : g.S.Shelf.put_faults l.shelf ≡ g.S.Shelf.put_faults l.fn.shelf;
}

abbrev pub decreases-reading : goal.decreases-reading
decreases-reading g l = l.most + 1 - length l.bytes.items
