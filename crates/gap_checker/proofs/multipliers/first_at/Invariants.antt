use Rattle.std.proofs.Common.{◌-◌}
use Rattle.gap_checker.specs.inner.Searches.{IsCut}
use Rattle.gap_checker.proofs.multipliers.first_at.Given as goal

abbrev pub invariant-halve : goal.invariant-halve
invariant-halve l = IsCut l.entries l.place l.from l.to

abbrev pub decreases-halve : goal.decreases-halve
decreases-halve l = l.to - l.from
