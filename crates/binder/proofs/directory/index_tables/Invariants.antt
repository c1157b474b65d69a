use Rattle.std.proofs.Common.{◌≡◌, ℕ, List, drop}
use Rattle.std.specs.List.{position_from}
use Rattle.binder.specs.Lookups.{find_in, goes_by}
use Rattle.binder.proofs.directory.index_tables.Given as goal

-- the index tells the numbers of those from this one on
abbrev pub invariant-loop-number : goal.invariant-loop-number
invariant-loop-number l = (word : List ℕ) → find_in l.index word ≡ position_from (λ x. goes_by word x.name) l.number (drop l.number l.tables)
