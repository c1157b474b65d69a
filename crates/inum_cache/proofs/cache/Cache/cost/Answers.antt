use Rattle.std.proofs.Common.{◌≡◌, length, ap, ◌∙◌, arith}
use Rattle.plan_model.proofs.Listing.{kept-list-decompose}
use Rattle.inum_cache.specs.inner.Pricing.{least_cost}
use Rattle.inum_cache.proofs.Cached.{cached-by}
use Rattle.inum_cache.proofs.cache.Cache.cost.Goals as goal

pub returns-clause-cached : goal.returns-clause-cached
returns-clause-cached g c = λ task is.
    let cache = c.args.self.now in
    let table = g.O.Offers.table c.args.offers.now in
    let all : c.loop-k.k ≡ length cache.templates = omega (arith, c.loop-k-test.false, c.loop-k.auto, ap length c.as_slice-templates.ensures) in
    cached-by task table cache.choices.orders cache.templates c.limits.ensures (record { count = is.slots; each = is.orders }) is.internal c.requires cache.fit is.plain c.loop-k.least
    (c.loop-k.invariant.least ∙ ap (least_cost table cache.choices.orders cache.templates) all)

pub returns-clause-least : goal.returns-clause-least
returns-clause-least g c = λ task is.
    (kept-list-decompose task c.args.self.now.templates is.kept (g.O.Offers.table c.args.offers.now) _ c.limits.ensures).0 (returns-clause-cached g c task is)
