use Rattle.std.proofs.Common.{◌≡◌, ◌≤◌}
use Rattle.inum_cache.specs.inner.Pricing.{least_below, offer_price}
use Rattle.inum_cache.proofs.lookup.best_price.Given as goal

abbrev pub invariant-loop-offer : goal.invariant-loop-offer
invariant-loop-offer g l =
    record {
      least : l.best ≡ least_below 1000000000000000000000000000000 (offer_price (g.O.Offers.table l.offers) l.slot l.order) l.offer;
      most : l.best ≤ 1000000000000000000000000000000;
    }
