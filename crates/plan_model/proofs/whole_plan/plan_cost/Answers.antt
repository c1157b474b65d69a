use Rattle.std.proofs.Common.{◌≤◌, arith}
use Rattle.plan_model.proofs.CostBound.{valid-most}
use Rattle.plan_model.proofs.whole_plan.plan_cost.Goals as goal

pub overflow_add-result : goal.overflow_add-result
overflow_add-result g c =
    let exact = c.in_ok-body.ensures.exact in
    let most : c.in_ok-body.body.cost ≤ 800000000000000000000 =
    rw exact.1 (valid-most _ c.args.task.now _ c.args.whole.now.body c.limits.ensures exact.0) in
    omega (arith, most, c.steps_price.ensures.most)

pub returns-clause-most : goal.returns-clause-most
returns-clause-most g c =
    let exact = c.in_ok-body.ensures.exact in
    let most : c.in_ok-body.body.cost ≤ 800000000000000000000 =
    rw exact.1 (valid-most _ c.args.task.now _ c.args.whole.now.body c.limits.ensures exact.0) in
    omega (arith, most, c.steps_price.ensures.most)
