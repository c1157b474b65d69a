use Rattle.gap_checker.proofs.Changing.{NoneBelow}
use Rattle.gap_checker.proofs.changes.any_marked.Given as goal

abbrev pub invariant-loop-i : goal.invariant-loop-i
invariant-loop-i l = NoneBelow l.tables l.slots l.i
