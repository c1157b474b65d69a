use Rattle.std.proofs.Common.{◌≡◌, ◌≤◌, ℕ, List, take}
use Rattle.cophy_core.specs.Files.{AreInputs, plain_uses}
use Rattle.cophy_core.proofs.files.read_each.Given as goal

-- the files so far were read whole; none was put, and no count fell
abbrev pub invariant-files : goal.invariant-files
invariant-files g l = record {
  inputs_are : AreInputs (g.S.Shelf.files l.fn.shelf) (plain_uses (take l.at l.files)) l.inputs.items;
  stay : g.S.Shelf.files l.shelf ≡ g.S.Shelf.files l.fn.shelf;
  counts : g.S.Shelf.read_faults l.fn.shelf ≤ g.S.Shelf.read_faults l.shelf;
  counts_at : (n : List ℕ) → g.S.Shelf.read_faults_at l.fn.shelf n ≤ g.S.Shelf.read_faults_at l.shelf n;
  puts : g.S.Shelf.put_faults l.shelf ≡ g.S.Shelf.put_faults l.fn.shelf;
}
