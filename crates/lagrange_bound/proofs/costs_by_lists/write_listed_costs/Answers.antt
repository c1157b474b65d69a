use Rattle.std.proofs.Common.{◌≡◌, ◌+◌, ◌-◌, length, arith}
use Rattle.lagrange_bound.proofs.ListedCosts.{slots-next, part-places}
use Rattle.lagrange_bound.proofs.costs_by_lists.write_listed_costs.Goals as goal

pub slice_bounds-listed_cost-end : goal.slice_bounds-listed_cost-end
slice_bounds-listed_cost-end c =
    let room = slots-next c.args.parts.now c.loop-i.i c.loop-i.first c.index-parts-i.result c.loop-i-test.true c.index-parts-i.is c.loop-i.invariant.first in
    omega (arith, room, c.len.ensures, c.requires.start_each)

pub listed_cost-requires-clause-places : goal.listed_cost-requires-clause-places
listed_cost-requires-clause-places c =
    let count : c.loop-i.first + c.len.result - c.loop-i.first ≡ length c.index-parts-i.result.slots = omega (arith, c.len.ensures) in
    part-places c.args.parts.now c.args.starts.now c.args.least.now c.loop-i.i c.loop-i.first (c.loop-i.first + c.len.result - c.loop-i.first) c.index-parts-i.result c.loop-i-test.true c.index-parts-i.is
    c.loop-i.invariant.first count c.requires.places
