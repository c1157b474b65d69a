use Rattle.plan_model.proofs.CostBound.{judged-limits}
use Rattle.plan_model.proofs.lines.judged.Goals as goal

pub returns-clause-limits : goal.returns-clause-limits
returns-clause-limits g c =
    let exact = c.in-Some.ensures.exact in
    rw exact.1 (judged-limits c.args.sorts c.args.task.now _ c.args.plan.now c.requires.limits exact.0)
