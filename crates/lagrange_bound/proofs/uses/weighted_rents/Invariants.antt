use Rattle.std.proofs.Common.{◌≡◌, ◌+◌, drop}
use Rattle.lagrange_bound.specs.CandidateUses.{weighted_rents}
use Rattle.lagrange_bound.proofs.uses.weighted_rents.Given as goal

abbrev pub invariant-loop-i : goal.invariant-loop-i
invariant-loop-i l = l.sum + weighted_rents (drop l.i l.grants) l.rents ≡ weighted_rents l.grants l.rents
