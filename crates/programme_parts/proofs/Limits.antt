-- The limits that the prices of slots keep.
use Rattle.std.proofs.Common.{◌≡◌, ◌∙◌, inl, inr, ℕ, ◌≤◌, Bool, true, false, List, [], ◌∷◌, ◌++◌, length, get_or, All, fold, map, min, take, refl, sym, ap, subst, arith, length-append}
use Rattle.std.specs.Prelude.{Option, Some, None, if◌then◌else◌}
use Rattle.std.specs.Option.{option_map_or, ForSome}
use Rattle.std.proofs.lemmas.List.{length-map, get_or_append_left}
use Rattle.std.proofs.lemmas.List.Elements.{All-cons, All-head, All-map, All-nil, All-tail}
use Rattle.std.proofs.lemmas.Option.{slice_get_cases, get_or_from_slice_get}
use Rattle.access_paths.specs.declared.slot_offers.SlotOffers.{SlotOffers}
use Rattle.access_paths.specs.ConfigOffers.{table_of}
use Rattle.adv_base.specs.declared.catalogue.index.IndexShape.{IndexShape}
use Rattle.adv_base.specs.declared.limits.TheConstants.{MOST_CANDIDATES, MOST_PRICE}
use Rattle.adv_base.specs.Items.{Order, is_same_order}
use Rattle.adv_base.specs.Offers.{Offer}
use Rattle.adv_base.specs.OfferTables.{OfferLimits, OfferTableLimits}
use Rattle.bip_model.specs.declared.grant.Grant.{Grant}
use Rattle.bip_model.specs.Limits.Grants.{MOST_ORDERS, ArePrices}
use Rattle.bip_model.specs.Limits.SlotParts.{SlotLimits}
use Rattle.bip_model.specs.Values.{lesser}
use Rattle.bip_model.specs.StandsFor.{given, least_given, AreEach}
use Rattle.bip_model.proofs.Lists.{each-length}
use Rattle.programme_parts.specs.inner.Prices.{IsGrantOf}
use Rattle.programme_parts.specs.inner.Offered.{offer_at, AreParted, HasParted, AreBases, AreGrants}

-- a price, where there is one, is at most that of an offer
abbrev IsLow : Option ℕ → Type 0
IsLow price = ForSome price (λ p. p ≤ MOST_PRICE)

abbrev IsLowOffer : Offer → Type 0
IsLowOffer offer = offer.1 ≤ MOST_PRICE

given-low : (order : Order) (offer : Offer) → IsLowOffer offer → IsLow (given order offer)
given-low order offer low = chosen (is_same_order (take (length order) offer.0) order)
  where
    chosen : (b : Bool) → IsLow (if b then Some offer.1 else None)
    chosen true = λ p e. let same : offer.1 ≡ p = cc in omega (arith, low, same)
    chosen false = λ p e. absurd (cc)

-- the prices at which one offer gives some orders
pub given-prices : (orders : List Order) (offer : Offer) → offer.1 ≤ MOST_PRICE → ArePrices (map (λ order. given order offer) orders)
given-prices orders offer low = All-map IsLow (λ (order : Order). given order offer) orders (λ k d h. given-low (get_or orders k d) offer low)

lesser-low : (a b : Option ℕ) → IsLow a → IsLow b → IsLow (lesser a b)
lesser-low None b first second = second
lesser-low (Some a) None first second = first
lesser-low (Some a) (Some b) first second = λ p e. let same : min a b ≡ p = cc in let low : a ≤ MOST_PRICE = first a refl in omega (arith, same, low)

least-low : (order : Order) (offers : List Offer) (best : Option ℕ) → IsLow best → All IsLowOffer offers → IsLow (fold (λ b o. lesser b (given order o)) best offers)
least-low order [] best low all = low
least-low order (offer ∷ offers) best low all =
    least-low order offers (lesser best (given order offer)) (lesser-low best (given order offer) low (given-low order offer (All-head IsLowOffer offer offers all))) (All-tail IsLowOffer offer offers all)

none-low : IsLow None
none-low = λ p e. absurd (cc)

-- the price of an offer
pub offer-low : (slots : List SlotOffers) (s k : ℕ) → OfferTableLimits (table_of slots) → (offer_at slots s k).1 ≤ MOST_PRICE
offer-low slots s k limits =
    elim (slice_get_cases (table_of slots s) k).1 [
      | inl there ↦
          let price : (offer_at slots s k).1 ≡ there.0.1 = ap (λ (o : Option Offer). option_map_or (λ x. x.1) o 0) there.2 in
          let at : get_or (table_of slots s) k there.0 ≡ there.0 = get_or_from_slice_get (table_of slots s) k there.0 there.0 there.2 in
          let own : OfferLimits s there.0 = subst (OfferLimits s) at (limits s k there.0 there.1) in
          let low : there.0.1 ≤ MOST_PRICE = own.price in
          omega (arith, price, low)
      | inr past ↦
          let price : (offer_at slots s k).1 ≡ 0 = ap (λ (o : Option Offer). option_map_or (λ x. x.1) o 0) past.1 in
          omega (arith, price)
    ]

front-all : {X : Type 0} (P : X → Type 0) (xs ys : List X) → All P (xs ++ ys) → All P xs
front-all P xs ys all = λ k d h. subst P (get_or_append_left xs ys d k h) (all k d (omega (arith, h, length-append xs ys)))

existing-low : (slots : List SlotOffers) (s : ℕ) (existing : List Offer) (numbered : List (ℕ × IndexShape)) (read : IndexShape → Offer) → AreParted slots s existing numbered read → OfferTableLimits (table_of slots) → All IsLowOffer existing
existing-low slots s existing numbered read parted limits =
    let all : All IsLowOffer (table_of slots s) = λ k d h. (limits s k d h).price in
    front-all IsLowOffer existing (map (λ n. read n.1) numbered) (subst (All IsLowOffer) parted.offers_are all)

pub each-second : {A B : Type 0} (P : A → B → Type 0) (Q : B → Type 0) → ((x : A) (y : B) → P x y → Q y) → (xs : List A) (ys : List B) → AreEach P xs ys → All Q ys
each-second P Q gives [] [] are = All-nil Q
each-second P Q gives [] (y ∷ ys) are = absurd are
each-second P Q gives (x ∷ xs) [] are = absurd are
each-second P Q gives (x ∷ xs) (y ∷ ys) are = All-cons Q y ys (gives x y are.0) (each-second P Q gives xs ys are.1)

-- the prices of a slot
pub slot-limits : (slots : List SlotOffers) (s : ℕ) (orders : List Order) (base : List (Option ℕ)) (grants : List Grant) → HasParted slots s → OfferTableLimits (table_of slots) → length orders ≤ MOST_ORDERS →
    AreBases slots s orders base → AreGrants slots s orders grants → SlotLimits base grants
slot-limits slots s orders base grants has limits few bases are =
    let base_is : base ≡ map (λ order. least_given order has.existing) orders = bases.are has.existing has.numbered has.read has.parted in
    let count : length base ≡ length orders = ap length base_is ∙ length-map orders (λ (order : Order). least_given order has.existing) in
    let each : AreEach (IsGrantOf orders has.read) has.numbered grants = are.are has.existing has.numbered has.read has.parted in
    let counted : length grants ≡ length has.numbered = each-length (IsGrantOf orders has.read) has.numbered grants each in
    let low : All IsLowOffer has.existing = existing-low slots s has.existing has.numbered has.read has.parted limits in
    let fewer : length has.numbered ≤ MOST_CANDIDATES = has.few in
    record {
      orders_most = omega (arith, count, few);
      base_limits =
          subst ArePrices (sym base_is)
          (All-map IsLow (λ (order : Order). least_given order has.existing) orders (λ k d h. least-low (get_or orders k d) has.existing None none-low low));
      grants_most = omega (arith, counted, fewer);
      one_each =
          each-second (IsGrantOf orders has.read) (λ (grant : Grant). length grant.prices ≡ length base)
          (λ n grant is. ap length is.prices_are ∙ length-map orders (λ (order : Order). given order (has.read n.1)) ∙ sym count) has.numbered grants each;
    }
