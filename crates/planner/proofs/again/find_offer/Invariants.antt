use Rattle.std.proofs.Common.{ℕ, ◌<◌}
use Rattle.planner.specs.Fronts.{front_order}
use Rattle.planner.specs.inner.Built.{GivesOffer}
use Rattle.planner.proofs.again.find_offer.Given as goal

abbrev pub invariant-loop-offer : goal.invariant-loop-offer
invariant-loop-offer g l =
    (k : ℕ) → k < l.offer → ¬ (GivesOffer (g.O.Offers.table l.offers) l.slot (front_order l.list l.front) l.cost k)
