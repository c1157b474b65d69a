-- Offers at which each use of a candidate pays a rent.
use Rattle.std.specs.Prelude.{ℕ, suc, ◌+◌, ◌*◌, min, List, [], ◌∷◌, Option, Some, None, slice_index_or}
use Rattle.access_paths.specs.declared.slot_offers.SlotOffers.{SlotOffers}
use Rattle.access_paths.specs.ConfigOffers.{candidate_at, table_of}
use Rattle.adv_base.specs.declared.limits.TheConstants.{MOST_PRICE}
use Rattle.adv_base.specs.Offers.{Offer, OfferTable}

-- the rent that candidate a pays at slot s stands at place 8 * a + s
abbrev pub rent_at : List ℕ → Option ℕ → ℕ → ℕ
rent_at rents None s = 0
rent_at rents (Some a) s = slice_index_or rents (8 * a + s) 0

-- the offers from number i on, each with its rent
abbrev pub rented_from : (ℕ → ℕ) → ℕ → List Offer → List Offer
rented_from rent i [] = []
rented_from rent i (offer ∷ offers) = (offer.0, min MOST_PRICE (offer.1 + rent i)) ∷ rented_from rent (suc i) offers

-- the offers of each slot
unfoldable pub rented_table : List ℕ → List SlotOffers → OfferTable
rented_table rents slots s = rented_from (λ offer. rent_at rents (candidate_at slots s offer) s) 0 (table_of slots s)
