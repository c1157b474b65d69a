use Rattle.std.proofs.Common.{◌≡◌, ◌≤◌, ◌-◌, ℕ, List}
use Rattle.adv_shelf.proofs.Feeding.{HasFed}
use Rattle.adv_shelf.proofs.feed.feed_all.Given as goal

abbrev pub invariant-feeding : goal.invariant-feeding
invariant-feeding g l = record {
  fed : (bytes : List ℕ) × HasFed (g.S.Shelf.files l.fn.shelf) l.name l.done g.T.Taker.stands_for l.fn.taker l.taker bytes;
  most : l.done ≤ l.most;
  kept : g.T.Taker.has_given_up l.taker → g.T.Taker.has_given_up l.fn.taker;
  files : g.S.Shelf.files l.shelf ≡ g.S.Shelf.files l.fn.shelf;
  counts : g.S.Shelf.read_faults l.fn.shelf ≤ g.S.Shelf.read_faults l.shelf;
  counts_at : (n : List ℕ) → g.S.Shelf.read_faults_at l.fn.shelf n ≤ g.S.Shelf.read_faults_at l.shelf n;
  puts : g.S.Shelf.put_faults l.shelf ≡ g.S.Shelf.put_faults l.fn.shelf;
}

abbrev pub decreases-feeding : goal.decreases-feeding
decreases-feeding g l = l.most - l.done
