use Rattle.std.proofs.Common.{◌^◌}
use Rattle.cardinality.specs.Tables.{HoldsRows}
use Rattle.cardinality.proofs.table.rows_table.Given as goal

abbrev pub invariant-loop-slot : goal.invariant-loop-slot
invariant-loop-slot l = HoldsRows l.cat l.block (2 ^ l.slot) l.of.items
