use Rattle.branch_bound.specs.inner.Climbs as climbs
use Rattle.branch_bound.proofs.climb.lower.Given as goal

abbrev pub invariant-loop-index : goal.invariant-loop-index
invariant-loop-index l = climbs.IsTopBelow l.task.programme.now l.task.shapes.now l.task.budget l.task.root.now l.from l.index
