use Rattle.std.proofs.Common.{◌+◌, ◌*◌, if◌then◌else◌}
use Rattle.plan_model.specs.Plans.{covers}
use Rattle.plan_model.proofs.lines.+push_plan.Given as goal

abbrev pub decreases-push_plan : goal.decreases-push_plan
decreases-push_plan g l = 2 * covers l.plan.now + (if l.sorts then 1 else 0)
