-- What the offers that are kept for a slot stand for.
use Rattle.std.specs.Prelude.{ℕ, List, map, Option}
use Rattle.adv_base.specs.Offers.{Offer}
use Rattle.access_paths.specs.declared.slot_offers.SlotOffer.{SlotOffer}

-- the order and the price of an offer
abbrev pub offer_of : SlotOffer → Offer
offer_of o = (o.order, o.price)

abbrev pub pairs_of : List SlotOffer → List Offer
pairs_of os = map offer_of os

-- the candidate that each offer is
abbrev pub numbers_of : List SlotOffer → List (Option ℕ)
numbers_of os = map (λ o. o.candidate) os
