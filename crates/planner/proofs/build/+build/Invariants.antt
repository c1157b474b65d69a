use Rattle.std.proofs.Common.{◌+◌, ◌*◌, cond}
use Rattle.planner.proofs.build.+build.Given as goal

abbrev pub decreases-build : goal.decreases-build
decreases-build g l = 2 * l.set + cond l.sorts 1 0
