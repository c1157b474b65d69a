use Rattle.std.proofs.Common.{◌+◌, ◌*◌}
use Rattle.relaxations.proofs.planner.Planner.+trying.Given as goal

abbrev pub decreases-try_both : goal.decreases-try_both
decreases-try_both l = 2 * l.levels + 1

abbrev pub decreases-try_node : goal.decreases-try_node
decreases-try_node l = 2 * l.levels
