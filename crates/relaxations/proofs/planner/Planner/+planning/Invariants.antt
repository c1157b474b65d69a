use Rattle.std.proofs.Common.{◌+◌, ◌*◌}
use Rattle.relaxations.proofs.planner.Planner.+planning.Given as goal

abbrev pub decreases-plan_node : goal.decreases-plan_node
decreases-plan_node l = 2 * l.levels + 1

abbrev pub decreases-plan_sides : goal.decreases-plan_sides
decreases-plan_sides l = 2 * l.levels
