use Rattle.std.proofs.Common.{◌∙◌, ◌≤◌, ℕ, List, length, All, sym, ap, subst}
use Rattle.bip_model.specs.Values.{MOST_PLAN}
use Rattle.adv_base.specs.Nodes.{available_in}
use Rattle.bip_model.specs.Views.{space_in, node_of}
use Rattle.lagrange_bound.proofs.CarriedCosts.{length-plan_costs, plan_costs-most}
use Rattle.lagrange_bound.proofs.SummandLimits.{summands-below}
use Rattle.lagrange_bound.proofs.carrying.total.Goals as goal

pub weighted_costs-plans-requires-clause-one_each : goal.weighted_costs-plans-requires-clause-one_each
weighted_costs-plans-requires-clause-one_each c =
    ap length (c.as_slice-costs.ensures ∙ c.requires.terms)
    ∙ length-plan_costs (available_in (space_in c.args.programme.now c.args.budget) (node_of c.args.fix.now)) c.args.programme.now.parts c.args.multipliers.now.lambda
    ∙ ap length (sym c.as_slice-parts.ensures)

pub weighted_costs-plans-requires-clause-limit : goal.weighted_costs-plans-requires-clause-limit
weighted_costs-plans-requires-clause-limit c =
    subst (λ (costs : List ℕ). All (λ cost. cost ≤ MOST_PLAN) costs) (sym (c.as_slice-costs.ensures ∙ c.requires.terms))
    (plan_costs-most (available_in (space_in c.args.programme.now c.args.budget) (node_of c.args.fix.now)) c.args.programme.now.parts c.args.multipliers.now.lambda c.requires.multipliers.rents_most)

pub returns-clause-summands : goal.returns-clause-summands
returns-clause-summands c = summands-below c.args.programme.now c.args.budget c.args.fix.now c.args.multipliers.now c.requires.budget c.requires.multipliers
