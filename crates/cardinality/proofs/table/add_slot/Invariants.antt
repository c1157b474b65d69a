use Rattle.std.proofs.Common.{◌+◌, ◌^◌}
use Rattle.cardinality.specs.Tables.{HoldsRows}
use Rattle.cardinality.proofs.table.add_slot.Given as goal

abbrev pub invariant-loop-rest : goal.invariant-loop-rest
invariant-loop-rest l = HoldsRows l.ties.cat.now l.ties.block.now (2 ^ l.slot + l.rest) l.of.items
