use Rattle.std.proofs.Common.{length, arith}
use Rattle.inum_cache.specs.inner.Pricing.{own_price, template_cost}
use Rattle.inum_cache.proofs.Pricing.{lower-high, sum_below-more}
use Rattle.inum_cache.proofs.cache.Cache.lowered_by.Goals as goal

pub returns-then-sum-least-clause-exact : goal.returns-then-sum-least-clause-exact
returns-then-sum-least-clause-exact g c =
    let table = g.O.Offers.table c.args.offers.now in
    let orders = c.args.self.now.choices.orders in
    let t = c.args.template.now in
    let more = sum_below-more (own_price table orders t) (length orders) c.loop-slot.slot (omega (arith, c.loop-slot-test.true, c.slots-slot-end.ensures)) in
    lower-high c.args.least (template_cost table orders t) (omega (arith, more, c.loop-slot.invariant.sum, c.if-sum-least.true))
