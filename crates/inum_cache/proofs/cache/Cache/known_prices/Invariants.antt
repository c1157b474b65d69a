use Rattle.std.proofs.Common.{◌≡◌, [], length}
use Rattle.inum_cache.specs.inner.Pricing.{AreLeast}
use Rattle.inum_cache.proofs.cache.Cache.known_prices.Given as goal

abbrev pub invariant-loop-slot : goal.invariant-loop-slot
invariant-loop-slot g l =
    record {
      sized : length l.least ≡ 8;
      least : AreLeast (g.O.Offers.table l.offers) l.slot (λ slot. []) l.least;
    }
