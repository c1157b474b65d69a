use Rattle.std.proofs.Common.{◌≤◌}
use Rattle.branch_bound.specs.inner.Climbs as climbs
use Rattle.branch_bound.proofs.climb.climb.Given as goal

abbrev pub invariant-loop-to : goal.invariant-loop-to
invariant-loop-to l = record { sound : climbs.IsSoundHere l.task.programme.now l.task.shapes.now l.task.budget l.task.root.now l.best; cheaper : l.best.cost ≤ l.fn.from.cost }

abbrev pub decreases-loop-to : goal.decreases-loop-to
decreases-loop-to l = climbs.height l.task.programme.now l.best
