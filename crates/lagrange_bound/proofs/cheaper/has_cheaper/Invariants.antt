use Rattle.std.proofs.Common.{◌≡◌, drop}
use Rattle.bip_model.specs.Candidates.{has_cheaper}
use Rattle.lagrange_bound.proofs.cheaper.has_cheaper.Given as goal

abbrev pub invariant-loop-o : goal.invariant-loop-o
invariant-loop-o l = has_cheaper (drop l.o l.prices) (drop l.o l.base) ≡ has_cheaper l.prices l.base
