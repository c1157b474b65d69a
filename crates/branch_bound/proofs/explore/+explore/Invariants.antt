use Rattle.std.proofs.Common.{◌+◌, ◌-◌, ◌*◌}
use Rattle.branch_bound.proofs.explore.+explore.Given as goal

abbrev pub decreases-explore_inside : goal.decreases-explore_inside
decreases-explore_inside l = 2 * (l.frame.now.nodes - l.before.made) + 1

abbrev pub decreases-explore : goal.decreases-explore
decreases-explore l = 2 * (l.frame.now.nodes - l.before.made)
