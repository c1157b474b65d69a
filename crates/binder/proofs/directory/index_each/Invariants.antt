use Rattle.std.proofs.Common.{◌≡◌, length, take}
use Rattle.binder.specs.Lookups.{IndexesEach}
use Rattle.binder.proofs.directory.index_each.Given as goal

-- there is an index for each table so far
abbrev pub invariant-loop-table : goal.invariant-loop-table
invariant-loop-table l = (length l.indexes.items ≡ l.table-index) × IndexesEach (take l.table-index l.tables) l.indexes.items
