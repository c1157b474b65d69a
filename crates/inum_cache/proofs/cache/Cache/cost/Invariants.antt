use Rattle.std.proofs.Common.{◌≡◌, ◌≤◌}
use Rattle.inum_cache.specs.inner.Pricing.{AreKnown, least_cost}
use Rattle.inum_cache.proofs.cache.Cache.cost.Given as goal

abbrev pub invariant-loop-k : goal.invariant-loop-k
invariant-loop-k g l =
    record {
      least : l.least ≡ least_cost (g.O.Offers.table l.offers) l.self.choices.orders l.self.templates l.k;
      most : l.least ≤ 1000000000000000000000000000000;
      known : AreKnown (g.O.Offers.table l.offers) l.self.choices.orders l.known;
    }
