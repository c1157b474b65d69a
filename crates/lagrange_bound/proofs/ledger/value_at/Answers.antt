use Rattle.std.proofs.Common.{◌≤◌, ℕ, List, All, length, sym, subst, arith}
use Rattle.bip_model.specs.declared.part.Part.{Part}
use Rattle.bip_model.specs.Values.{MOST_PLAN}
use Rattle.lagrange_bound.proofs.CarriedCosts.{plan_costs-most}
use Rattle.lagrange_bound.proofs.MarkedCosts.{weighted-most}
use Rattle.lagrange_bound.proofs.ledger.value_at.Goals as goal

pub value_of_plans-requires-clause-plans : goal.value_of_plans-requires-clause-plans
value_of_plans-requires-clause-plans c =
    let parts : List Part = c.args.programme.now.parts in
    let most : All (λ cost. cost ≤ MOST_PLAN) c.args.ledger.now.least.items =
    subst (λ (costs : List ℕ). All (λ cost. cost ≤ MOST_PLAN) costs) (sym c.requires.ledger.costs)
    (plan_costs-most c.args.ledger.now.config parts c.args.multipliers.now.lambda c.requires.multipliers.rents_most) in
    let all = weighted-most parts c.args.ledger.now.least.items most in
    let few : length parts ≤ 1000 = c.args.programme.now.limits.parts_most in
    omega (arith, all, few, c.requires.ledger.plans)
