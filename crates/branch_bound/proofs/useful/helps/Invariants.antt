use Rattle.bip_model.specs.Candidates.{helps_part}
use Rattle.branch_bound.proofs.Finding.{NoneBelow}
use Rattle.branch_bound.proofs.useful.helps.Given as goal

abbrev pub invariant-loop-q : goal.invariant-loop-q
invariant-loop-q l = NoneBelow (helps_part l.number) l.parts l.q
