use Rattle.std.proofs.Common.{◌&&◌, ◌==◌}
use Rattle.bip_model.specs.Candidates.{has_cheaper}
use Rattle.branch_bound.proofs.Finding.{NoneBelow}
use Rattle.branch_bound.proofs.useful.helps_slot.Given as goal

abbrev pub invariant-loop-k : goal.invariant-loop-k
invariant-loop-k l = NoneBelow (λ grant. (grant.candidate == l.number) && has_cheaper grant.prices l.base) l.grants l.k
