use Rattle.std.proofs.Common.{◌≡◌, ◌+◌}
use Rattle.plan_model.specs.Exchange.{sum_below}
use Rattle.inum_cache.specs.inner.Pricing.{AreKnown, own_price}
use Rattle.inum_cache.proofs.cache.Cache.lowered_by.Given as goal

abbrev pub invariant-loop-slot : goal.invariant-loop-slot
invariant-loop-slot g l =
    record {
      sum : l.sum ≡ l.template.internal + sum_below (own_price (g.O.Offers.table l.offers) l.self.choices.orders l.template) l.slot;
      known : AreKnown (g.O.Offers.table l.offers) l.self.choices.orders l.known;
    }
