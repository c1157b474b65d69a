use Rattle.gap_checker.proofs.Changing.{AgreeBelow}
use Rattle.gap_checker.proofs.changes.changed_tables.Given as goal

abbrev pub invariant-loop-a : goal.invariant-loop-a
invariant-loop-a l = AgreeBelow l.tables l.from l.to l.shapes l.a
