use Rattle.std.proofs.Common.{sym}
use Rattle.budget_sweep.proofs.Passing.{least-more}
use Rattle.budget_sweep.proofs.passes.least_cost.Goals as goal

pub returns-in-Some : goal.returns-in-Some
returns-in-Some c = least-more c.args.points.now c.in-Some.point.now c.args.answer.now c.min.result c.requires (sym c.in-Some.ensures.value) c.min.ensures
