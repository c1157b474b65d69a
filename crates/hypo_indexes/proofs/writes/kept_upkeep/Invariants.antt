use Rattle.std.proofs.Common.{◌≡◌, take}
use Rattle.std.specs.Prelude.{sum_by}
use Rattle.hypo_indexes.specs.inner.Writes.{table_upkeep}
use Rattle.hypo_indexes.proofs.writes.kept_upkeep.Given as goal

abbrev pub invariant-loop-table : goal.invariant-loop-table
invariant-loop-table l = l.sum ≡ sum_by (table_upkeep l.cat l.statement.work) (take l.table-index l.cat.tables)
