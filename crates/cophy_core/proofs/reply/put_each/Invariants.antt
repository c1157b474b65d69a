use Rattle.std.proofs.Common.{◌≡◌, ◌≤◌, ℕ, List, take}
use Rattle.cophy_core.specs.Endings.{plain_puts, put_all}
use Rattle.cophy_core.proofs.reply.put_each.Given as goal

-- the files so far were put whole; no count fell, and that of reads stayed
abbrev pub invariant-puts : goal.invariant-puts
invariant-puts g l = record {
  files_are : g.S.Shelf.files l.shelf ≡ put_all (g.S.Shelf.files l.fn.shelf) (plain_puts (take l.at l.puts));
  counts : g.S.Shelf.put_faults l.fn.shelf ≤ g.S.Shelf.put_faults l.shelf;
  reads : g.S.Shelf.read_faults l.shelf ≡ g.S.Shelf.read_faults l.fn.shelf;
  reads_at : (n : List ℕ) → g.S.Shelf.read_faults_at l.shelf n ≡ g.S.Shelf.read_faults_at l.fn.shelf n;
}
