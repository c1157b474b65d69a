use Rattle.std.proofs.Common.{◌≡◌, ◌∙◌, ◌<◌, ◌≤◌, ℕ, suc, List, [], All, length, sym, ap, subst, arith, rules}
use Rattle.std.specs.Prelude.{slice_index_or, sum_by}
use Rattle.adv_base.specs.declared.limits.TheConstants.{MOST_RENT}
use Rattle.bip_model.specs.declared.part.Part.{Part}
use Rattle.bip_model.specs.Values.{MOST_PLAN, grant_count, part_grants}
use Rattle.lagrange_bound.proofs.CarriedCosts.{length-plan_costs, plan_costs-most}
use Rattle.std.specs.Vec.{with_items}
use Rattle.std.proofs.lemmas.List.{with_items_is}
use Rattle.lagrange_bound.specs.Rented.{plan_costs, weighted_costs}
use Rattle.lagrange_bound.specs.CandidateUses.{weighted_rents}
use Rattle.lagrange_bound.specs.declared.uses.WeightedGrant.{WeightedGrant}
use Rattle.lagrange_bound.proofs.EarnedRents.{part_rents-most}
use Rattle.lagrange_bound.proofs.ledger.priced.Goals as goal

pub weighted_costs-ledger-requires-clause-limit : goal.weighted_costs-ledger-requires-clause-limit
weighted_costs-ledger-requires-clause-limit c =
    subst (λ (costs : List ℕ). All (λ cost. cost ≤ MOST_PLAN) costs) (sym c.price_all.ensures.costs)
    (plan_costs-most c.args.config.now c.as_slice-parts.result.now c.as_slice-rents.result.now
    (subst (λ (rents : List ℕ). All (λ rent. rent ≤ MOST_RENT) rents) (sym c.as_slice-rents.ensures) c.requires.multipliers.rents_most))

pub used_rents-ledger-requires-clause-within : goal.used_rents-ledger-requires-clause-within
unfolding grant_count
used_rents-ledger-requires-clause-within c = λ a below.
    let count : length c.as_slice-rents.result.now ≡ sum_by part_grants c.args.programme.now.parts = ap length c.as_slice-rents.ensures ∙ c.requires.multipliers.one_each in
    subst (λ (all : List (List WeightedGrant)). All (λ grant. grant.number < length c.as_slice-rents.result.now) (slice_index_or all a [])) (sym c.as_slice.ensures.value)
    (subst (λ (n : ℕ). All (λ grant. grant.number < n) (slice_index_or c.args.cheaper.now.uses.items a [])) (sym count) (c.requires.cheaper.uses.each a below).within)

pub used_rents-ledger-requires-clause-fits : goal.used_rents-ledger-requires-clause-fits
unfolding grant_count
used_rents-ledger-requires-clause-fits c = λ a below.
    let parts : List Part = c.args.programme.now.parts in
    let rents : List ℕ = c.args.multipliers.now.lambda in
    let bring = (c.requires.cheaper.uses.each a below).bring rents c.requires.multipliers.one_each in
    let same = ap (λ (all : List (List WeightedGrant)). weighted_rents (slice_index_or all a []) c.as_slice-rents.result.now) c.as_slice.ensures.value ∙ ap (weighted_rents (slice_index_or c.args.cheaper.now.uses.items a [])) c.as_slice-rents.ensures in
    let most = part_rents-most (suc a) parts rents c.requires.multipliers.rents_most in
    let few : length parts ≤ 1000 = c.args.programme.now.limits.parts_most in
    omega (arith, same, bring, most, few)

pub returns-clause-ledger : goal.returns-clause-ledger
unfolding grant_count
returns-clause-ledger c =
    let parts : List Part = c.args.programme.now.parts in
    let rents : List ℕ = c.args.multipliers.now.lambda in
    let costs : List ℕ = c.price_all.new.costs in
    let long =
    ap length c.price_all.ensures.costs ∙ length-plan_costs c.args.config.now c.as_slice-parts.result.now c.as_slice-rents.result.now ∙ ap length c.as_slice-parts.ensures ∙ sym c.requires.room.places
    ∙ ap length (sym c.as_mut_slice-costs.ensures.value) ∙ c.as_mut_slice-costs.ensures.len in
    let items : (with_items c.args.ledger.now.least costs).items ≡ costs = with_items_is c.args.ledger.now.least costs long in
    record {
      costs =
          items ∙ c.price_all.ensures.costs ∙ ap (λ (ps : List Part). plan_costs c.args.config.now ps c.as_slice-rents.result.now) c.as_slice-parts.ensures
          ∙ ap (plan_costs c.args.config.now parts) c.as_slice-rents.ensures;
      plans = c.weighted_costs-ledger.ensures.exact ∙ ap (λ (ps : List Part). weighted_costs ps costs) c.as_slice-parts.ensures ∙ ap (weighted_costs parts) (sym items);
      marks = search rules;
      rents = λ a below.
          let same = ap (λ (all : List (List WeightedGrant)). weighted_rents (slice_index_or all a []) c.as_slice-rents.result.now) c.as_slice.ensures.value ∙ ap (weighted_rents (slice_index_or c.args.cheaper.now.uses.items a [])) c.as_slice-rents.ensures in
          c.used_rents-ledger.ensures.exact a below ∙ same ∙ (c.requires.cheaper.uses.each a below).bring rents c.requires.multipliers.one_each;
      most = c.used_rents-ledger.ensures.most;
    }
