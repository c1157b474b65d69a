use Rattle.std.proofs.Common.{◌≡◌, ◌∙◌, ◌*◌, ◌<◌, ◌≤◌, ℕ, List, length, get_or, drop, take, ap, arith, rules}
use Rattle.std.specs.Prelude.{Some, slice_get, sum_by}
use Rattle.std.proofs.Math.Nat.{mul-le-mul}
use Rattle.std.proofs.lemmas.List.Elements.{All-set}
use Rattle.adv_base.specs.declared.limits.TheConstants.{MOST_WEIGHT}
use Rattle.bip_model.specs.declared.part.Part.{Part}
use Rattle.bip_model.specs.Values.{MOST_PLAN, part_grants}
use Rattle.bip_model.proofs.Pricing.{get-some}
use Rattle.lagrange_bound.specs.Rented.{rented_cost}
use Rattle.lagrange_bound.proofs.MarkedCosts.{weighted-one, weighted-most, weighted-set, priced-set}
use Rattle.lagrange_bound.proofs.costs_anew.price_place.Goals as goal

pub changed_sum-sum-requires-clause-there : goal.changed_sum-sum-requires-clause-there
changed_sum-sum-requires-clause-there c =
    let parts : List Part = c.args.task.now.parts.now in
    let part : Part = get_or parts c.args.place c.index-task-place.result in
    let found : slice_get parts c.args.place ≡ Some part = get-some parts c.args.place c.index-task-place.result c.requires.within c.index-task-place.is ∙ ap Some c.index-task-place.is in
    let inside : c.args.place < length c.args.costs.now = omega (arith, c.requires.within, c.requires.before.one_each) in
    let one : part.weight * get_or c.args.costs.now c.args.place 0 ≤ _ = weighted-one parts c.args.costs.now c.args.place part found inside in
    omega (arith, one, c.requires.before.plans_are)

pub changed_sum-sum-requires-clause-fits : goal.changed_sum-sum-requires-clause-fits
changed_sum-sum-requires-clause-fits c =
    let parts : List Part = c.args.task.now.parts.now in
    let part : Part = get_or parts c.args.place c.index-task-place.result in
    let all = weighted-most parts c.args.costs.now c.requires.before.most in
    let few : length parts ≤ 1000 = c.args.task.now.few in
    let light : part.weight ≤ MOST_WEIGHT = part.limits.weight_most in
    let own : part.weight * c.rented_cost-cost.result.cost ≤ MOST_WEIGHT * MOST_PLAN = mul-le-mul light c.rented_cost-cost.ensures.most in
    omega (arith, all, few, own, c.requires.before.plans_are)

pub returns : goal.returns
returns c =
    let parts : List Part = c.args.task.now.parts.now in
    let part : Part = get_or parts c.args.place c.index-task-place.result in
    let found : slice_get parts c.args.place ≡ Some part = get-some parts c.args.place c.index-task-place.result c.requires.within c.index-task-place.is ∙ ap Some c.index-task-place.is in
    let inside : c.args.place < length c.args.costs.now = omega (arith, c.requires.within, c.requires.before.one_each) in
    let sum = weighted-set parts c.args.costs.now c.args.place c.rented_cost-cost.result.cost part found inside in
    let made : c.rented_cost-cost.result.cost ≡ rented_cost c.args.task.now.config.now part (drop (sum_by part_grants (take c.args.place parts)) c.args.task.now.rents.now) =
    c.rented_cost-cost.ensures.exact
    ∙ ap (λ (n : ℕ). rented_cost c.args.task.now.config.now part (drop n c.args.task.now.rents.now)) (c.args.task.now.starts_are c.args.place c.requires.within) in
    let step = priced-set c.args.task.now.config.now parts c.args.task.now.rents.now c.args.costs.now c.args.place c.rented_cost-cost.result.cost part inside found made in
    record {
      one_each = search (rules, c.requires.before.one_each);
      most = All-set (λ (n : ℕ). n ≤ MOST_PLAN) c.args.costs.now c.args.place c.rented_cost-cost.result.cost c.rented_cost-cost.ensures.most c.requires.before.most;
      plans_are = omega (arith, sum, c.changed_sum-sum.ensures, c.requires.before.plans_are);
      before = λ k below. step k (λ other. c.requires.before.before k (omega (arith, below, other)));
      unmarked = λ k none. step k (λ other. c.requires.before.unmarked k none);
    }
