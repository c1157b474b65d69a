-- Offers with rents: as many, in the same orders, within their limits.
use Rattle.std.proofs.Common.{◌≡◌, ◌∙◌, ℕ, zero, suc, ◌+◌, ◌<◌, List, [], ◌∷◌, All, length, refl, sym, ap, subst, arith}
use Rattle.std.specs.Prelude.{min, slice_get}
use Rattle.std.specs.Option.{option_map_or}
use Rattle.std.proofs.lemmas.List.Elements.{All-cons, All-head, All-nil, All-tail}
use Rattle.access_paths.specs.declared.slot_offers.SlotOffers.{SlotOffers}
use Rattle.access_paths.specs.ConfigOffers.{candidate_at, table_of}
use Rattle.adv_base.specs.declared.limits.TheConstants.{MOST_PRICE}
use Rattle.adv_base.specs.Offers.{Offer}
use Rattle.adv_base.specs.OfferTables.{OfferLimits, OfferTableLimits, HasOffers, price_at, order_at}
use Rattle.advice_tests.specs.Rents.{rent_at, rented_from, rented_table}

length-from : (rent : ℕ → ℕ) (i : ℕ) (offers : List Offer) → length (rented_from rent i offers) ≡ length offers
length-from rent i [] = refl
length-from rent i (offer ∷ offers) = ap suc (length-from rent (suc i) offers)

price-from : (rent : ℕ → ℕ) (i k : ℕ) (offers : List Offer) → k < length offers →
    option_map_or (λ (o : Offer). o.1) (slice_get (rented_from rent i offers) k) 0 ≡ min MOST_PRICE (option_map_or (λ (o : Offer). o.1) (slice_get offers k) 0 + rent (i + k))
price-from rent i k [] within = absurd (omega (arith, within))
price-from rent i zero (offer ∷ offers) within = ap (λ (n : ℕ). min MOST_PRICE (offer.1 + rent n)) (omega arith)
price-from rent i (suc k) (offer ∷ offers) within =
    price-from rent (suc i) k offers (omega (arith, within))
    ∙ ap (λ (n : ℕ). min MOST_PRICE (option_map_or (λ (o : Offer). o.1) (slice_get offers k) 0 + rent n)) (omega arith)

order-from : (rent : ℕ → ℕ) (i k : ℕ) (offers : List Offer) →
    option_map_or (λ (o : Offer). o.0) (slice_get (rented_from rent i offers) k) [] ≡ option_map_or (λ (o : Offer). o.0) (slice_get offers k) []
order-from rent i k [] = refl
order-from rent i zero (offer ∷ offers) = refl
order-from rent i (suc k) (offer ∷ offers) = order-from rent (suc i) k offers

within-limits : (slot rent : ℕ) (offer : Offer) → OfferLimits slot offer → OfferLimits slot (offer.0, min MOST_PRICE (offer.1 + rent))
within-limits slot rent offer limits = record { price = omega arith; own = limits.own; apart = limits.apart }

limits-from : (slot : ℕ) (rent : ℕ → ℕ) (i : ℕ) (offers : List Offer) → All (OfferLimits slot) offers → All (OfferLimits slot) (rented_from rent i offers)
limits-from slot rent i [] limits = All-nil (OfferLimits slot)
limits-from slot rent i (offer ∷ offers) limits =
    All-cons (OfferLimits slot) (offer.0, min MOST_PRICE (offer.1 + rent i)) (rented_from rent (suc i) offers)
    (within-limits slot (rent i) offer (All-head (OfferLimits slot) offer offers limits))
    (limits-from slot rent (suc i) offers (All-tail (OfferLimits slot) offer offers limits))

pub rented_length : (rents : List ℕ) (slots : List SlotOffers) (s : ℕ) → length (rented_table rents slots s) ≡ length (table_of slots s)
unfolding rented_table
rented_length rents slots s = length-from (λ offer. rent_at rents (candidate_at slots s offer) s) 0 (table_of slots s)

pub rented_price : (rents : List ℕ) (slots : List SlotOffers) (s offer : ℕ) → offer < length (table_of slots s) →
    price_at (rented_table rents slots) s offer ≡ min MOST_PRICE (price_at (table_of slots) s offer + rent_at rents (candidate_at slots s offer) s)
unfolding rented_table
rented_price rents slots s offer within =
    price-from (λ offer. rent_at rents (candidate_at slots s offer) s) 0 offer (table_of slots s) within
    ∙ ap (λ (n : ℕ). min MOST_PRICE (price_at (table_of slots) s offer + rent_at rents (candidate_at slots s n) s)) (omega arith)

pub rented_order : (rents : List ℕ) (slots : List SlotOffers) (s offer : ℕ) → order_at (rented_table rents slots) s offer ≡ order_at (table_of slots) s offer
unfolding rented_table
rented_order rents slots s offer = order-from (λ offer. rent_at rents (candidate_at slots s offer) s) 0 offer (table_of slots s)

pub rented_limits : (rents : List ℕ) (slots : List SlotOffers) → OfferTableLimits (table_of slots) → OfferTableLimits (rented_table rents slots)
unfolding rented_table
rented_limits rents slots limits = λ s. limits-from s (λ offer. rent_at rents (candidate_at slots s offer) s) 0 (table_of slots s) (limits s)

pub rented_offers : (rents : List ℕ) (slots : List SlotOffers) (n : ℕ) → HasOffers n (table_of slots) → HasOffers n (rented_table rents slots)
rented_offers rents slots n some = λ s below. subst (λ (k : ℕ). 0 < k) (sym (rented_length rents slots s)) (some s below)
