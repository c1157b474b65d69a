use Rattle.branch_bound.specs.inner.Climbs as climbs
use Rattle.branch_bound.proofs.taken.obeys.Given as goal

abbrev pub invariant-loop-index : goal.invariant-loop-index
invariant-loop-index l = climbs.ObeysBelow l.states l.flags l.count l.index
