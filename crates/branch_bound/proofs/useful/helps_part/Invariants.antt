use Rattle.bip_model.specs.Candidates.{helps_slot}
use Rattle.branch_bound.proofs.Finding.{NoneBelow}
use Rattle.branch_bound.proofs.useful.helps_part.Given as goal

abbrev pub invariant-loop-s : goal.invariant-loop-s
invariant-loop-s l = NoneBelow (helps_slot l.number) l.slots l.s
