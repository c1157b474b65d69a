use Rattle.std.proofs.Common.{◌≡◌, take}
use Rattle.candidates.specs.Columns.{joined}
use Rattle.candidates.proofs.columns.joined.Given as goal

abbrev pub invariant-loop-column : goal.invariant-loop-column
invariant-loop-column l = l.list.items ≡ joined l.keys (take l.column-index l.more)
