use Rattle.std.proofs.Common.{◌≡◌, ◌∙◌, ◌<◌, length, refl, ap, arith, rules}
use Rattle.bip_model.specs.declared.part.Part.{Part}
use Rattle.bip_model.specs.Values.{part_grants}
use Rattle.lagrange_bound.proofs.CarriedCosts.{costs-more, costs-done, length-plan_costs, next-old, next-place, next-room}
use Rattle.lagrange_bound.proofs.carrying.carry_costs.Goals as goal

pub bounds-old-i : goal.bounds-old-i
bounds-old-i c =
    let count : length c.args.old.now ≡ length c.args.parts.now = ap length c.requires.old ∙ length-plan_costs c.args.from.now c.args.parts.now c.args.rents.now in
    omega (arith, count, c.loop-i-test.true)

pub carried_cost-cost-requires-clause-room : goal.carried_cost-cost-requires-clause-room
carried_cost-cost-requires-clause-room c =
    next-room c.args.parts.now c.args.rents.now c.loop-i.i c.loop-i.at c.index-parts-i.result c.requires.rent_each c.loop-i-test.true c.index-parts-i.is c.loop-i.invariant.place

pub carried_cost-cost-requires-clause-old : goal.carried_cost-cost-requires-clause-old
carried_cost-cost-requires-clause-old c =
    let part : Part = c.index-parts-i.result in
    let count : length c.args.old.now ≡ length c.args.parts.now = ap length c.requires.old ∙ length-plan_costs c.args.from.now c.args.parts.now c.args.rents.now in
    let inside : c.loop-i.i < length c.args.old.now = omega (arith, count, c.loop-i-test.true) in
    (next-old c.args.from.now c.args.parts.now c.args.rents.now c.args.old.now c.loop-i.at c.loop-i.i (part_grants part) part c.loop-i-test.true inside c.index-parts-i.is refl c.loop-i.invariant.old).cost

pub loop-i-preserved : goal.loop-i-preserved
loop-i-preserved c =
    let part : Part = c.index-parts-i.result in
    let count : length c.args.old.now ≡ length c.args.parts.now = ap length c.requires.old ∙ length-plan_costs c.args.from.now c.args.parts.now c.args.rents.now in
    let there : c.loop-i.i < length c.args.old.now = omega (arith, count, c.loop-i-test.true) in
    let next = next-place c.args.parts.now c.loop-i.i c.loop-i.at part c.loop-i-test.true c.index-parts-i.is c.loop-i.invariant.place in
    let long : length c.loop-i.costs ≡ length c.args.costs.now = search rules in
    let inside : c.loop-i.i < length c.loop-i.costs = omega (arith, long, c.requires.place_each, c.loop-i-test.true) in
    record {
      whole =
          costs-more c.args.to.now c.args.parts.now c.args.rents.now c.loop-i.costs _ c.loop-i.at c.loop-i.i c.carried_cost-cost.result c.part_grants-at.result part c.loop-i-test.true inside c.index-parts-i.is
          c.part_grants-at.ensures.exact c.carried_cost-cost.ensures c.loop-i.invariant.whole;
      old =
          (next-old c.args.from.now c.args.parts.now c.args.rents.now c.args.old.now c.loop-i.at c.loop-i.i c.part_grants-at.result part c.loop-i-test.true there c.index-parts-i.is c.part_grants-at.ensures.exact c.loop-i.invariant.old).rest;
      place = omega (arith, next, c.part_grants-at.ensures.exact);
    }

pub returns : goal.returns
returns c =
    let long : length c.loop-i.costs ≡ length c.args.costs.now = search rules in
    costs-done c.args.to.now c.args.parts.now c.args.rents.now c.loop-i.costs _ c.loop-i.at c.loop-i.i c.loop-i-test.false (omega (arith, long, c.requires.place_each)) c.loop-i.invariant.whole
