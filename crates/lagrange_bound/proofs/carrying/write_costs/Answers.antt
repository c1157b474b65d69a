use Rattle.std.proofs.Common.{◌≡◌, ◌∙◌, ◌<◌, length, arith, rules}
use Rattle.bip_model.specs.declared.part.Part.{Part}
use Rattle.lagrange_bound.proofs.CarriedCosts.{costs-after, costs-done, next-place, next-room}
use Rattle.lagrange_bound.proofs.carrying.write_costs.Goals as goal

pub rented_cost-priced-requires-clause-room : goal.rented_cost-priced-requires-clause-room
rented_cost-priced-requires-clause-room c =
    next-room c.args.parts.now c.args.rents.now c.loop-i.i c.loop-i.at c.index-parts-i.result c.requires.rent_each c.loop-i-test.true c.index-parts-i.is c.loop-i.invariant.place

pub loop-i-preserved : goal.loop-i-preserved
loop-i-preserved c =
    let part : Part = c.index-parts-i.result in
    let long : length c.loop-i.costs ≡ length c.args.costs.now = search rules in
    let inside : c.loop-i.i < length c.loop-i.costs = omega (arith, long, c.requires.place_each, c.loop-i-test.true) in
    let next = next-place c.args.parts.now c.loop-i.i c.loop-i.at part c.loop-i-test.true c.index-parts-i.is c.loop-i.invariant.place in
    record {
      whole =
          costs-after c.args.config.now c.args.parts.now c.args.rents.now c.loop-i.costs _ c.loop-i.at c.loop-i.i c.rented_cost-priced.result.cost c.rented_cost-priced.result.next part c.loop-i-test.true inside c.index-parts-i.is
          c.rented_cost-priced.ensures.next c.rented_cost-priced.ensures.exact c.loop-i.invariant.whole;
      place = c.rented_cost-priced.ensures.next ∙ next;
    }

pub returns : goal.returns
returns c =
    let long : length c.loop-i.costs ≡ length c.args.costs.now = search rules in
    costs-done c.args.config.now c.args.parts.now c.args.rents.now c.loop-i.costs _ c.loop-i.at c.loop-i.i c.loop-i-test.false (omega (arith, long, c.requires.place_each)) c.loop-i.invariant.whole
