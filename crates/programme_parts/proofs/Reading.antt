-- What is read of a slot's offers, offer by offer.
use Rattle.std.proofs.Common.{◌≡◌, ◌∙◌, ◌⊎◌, inl, inr, ℕ, zero, suc, ◌+◌, ◌-◌, ◌<◌, ◌≤◌, Bool, List, [], ◌∷◌, ◌++◌, length, get_or, map, take, refl, sym, ap, subst, arith, length-append}
use Rattle.std.specs.Prelude.{Option, Some, None, if◌then◌else◌, is_some, slice_get}
use Rattle.std.specs.Option.{option_map_or}
use Rattle.std.proofs.lemmas.Bool.{cases_Bool}
use Rattle.std.proofs.lemmas.List.{length-map, take_all}
use Rattle.std.proofs.lemmas.List.Sums.{fold-append}
use Rattle.std.proofs.lemmas.Option.{slice_get_cases, slice_get_within, get_or_from_slice_get}
use Rattle.access_paths.specs.declared.slot_offers.SlotOffers.{SlotOffers}
use Rattle.access_paths.specs.ConfigOffers.{table_of, candidate_at}
use Rattle.adv_base.specs.declared.catalogue.index.IndexShape.{IndexShape}
use Rattle.adv_base.specs.Items.{Order, is_same_order}
use Rattle.adv_base.specs.Offers.{Offer}
use Rattle.adv_base.specs.OfferTables.{order_at, price_at}
use Rattle.adv_base.proofs.Begins.{begins_decides}
use Rattle.bip_model.specs.declared.grant.Grant.{Grant}
use Rattle.bip_model.specs.Values.{lesser}
use Rattle.bip_model.specs.StandsFor.{given, least_given, AreEach}
use Rattle.bip_model.proofs.Least.{lesser-none}
use Rattle.bip_model.proofs.Lists.{front-of, each-more}
use Rattle.bip_model.proofs.Fixing.{mapped-at}
use Rattle.programme_parts.specs.inner.Prices.{IsGrantOf}
use Rattle.programme_parts.specs.inner.Offered.{offer_at, AreParted, HasParted, IsNumber, IsBaseBelow, IsBase, AreBases, AreGrantsBelow, AreGrants}

-- ## Elements of two lists in one

pub back-get : {X : Type 0} (xs ys : List X) (j : ℕ) → slice_get (xs ++ ys) (length xs + j) ≡ slice_get ys j
back-get [] ys j = let same : 0 + j ≡ j = omega arith in ap (slice_get ys) same
back-get (x ∷ xs) ys j = let same : suc (length xs) + j ≡ suc (length xs + j) = omega arith in rw same (back-get xs ys j)

pub take-found : {X : Type 0} (xs : List X) (k : ℕ) (x : X) → slice_get xs k ≡ Some x → take (k + 1) xs ≡ take k xs ++ x ∷ []
take-found [] k x found = absurd (cc)
take-found (y ∷ xs) zero x found = let same : y ≡ x = cc in ap (λ (z : _). z ∷ []) same
take-found (y ∷ xs) (suc k) x found =
    let next : suc k + 1 ≡ suc (k + 1) = omega arith in
    rw next (ap (λ (zs : List _). y ∷ zs) (take-found xs k x found))

-- ## Offers by number

-- the offer of a number is what stands at its place
offer-found : (slots : List SlotOffers) (s k : ℕ) (offer : Offer) → slice_get (table_of slots s) k ≡ Some offer → offer_at slots s k ≡ offer
offer-found slots s k offer found =
    let order : order_at (table_of slots) s k ≡ offer.0 = ap (λ (o : Option Offer). option_map_or (λ x. x.0) o []) found in
    let price : price_at (table_of slots) s k ≡ offer.1 = ap (λ (o : Option Offer). option_map_or (λ x. x.1) o 0) found in
    ap (λ (r : Order). (r, price_at (table_of slots) s k)) order ∙ ap (λ (p : ℕ). (offer.0, p)) price

-- an existing offer, which is no candidate
record IsExisting (slots : List SlotOffers) (s k : ℕ) (existing : List Offer) : Type 0 where
  offer : Offer
  found : slice_get existing k ≡ Some offer
  is : offer_at slots s k ≡ offer
  none : candidate_at slots s k ≡ None

-- that of a candidate
record IsNumbered (slots : List SlotOffers) (s k : ℕ) (existing : List Offer) (numbered : List (ℕ × IndexShape)) (read : IndexShape → Offer) : Type 0 where
  place : ℕ
  place_is : k ≡ length existing + place
  element : ℕ × IndexShape
  found : slice_get numbered place ≡ Some element
  is : offer_at slots s k ≡ read element.1
  some : candidate_at slots s k ≡ Some element.0

-- each offer is one or the other
offer-cases : (slots : List SlotOffers) (s k : ℕ) (existing : List Offer) (numbered : List (ℕ × IndexShape)) (read : IndexShape → Offer) → AreParted slots s existing numbered read → k < length (table_of slots s) →
    IsExisting slots s k existing ⊎ IsNumbered slots s k existing numbered read
offer-cases slots s k existing numbered read parted below =
    let reads : ℕ × IndexShape → Offer = λ n. read n.1 in
    elim (slice_get_cases existing k).1 [
      | inl there ↦
          let found : slice_get (table_of slots s) k ≡ Some there.0 = ap (λ (os : List Offer). slice_get os k) parted.offers_are ∙ front-of existing (map reads numbered) k there.0 there.2 in
          inl (record { offer = there.0; found = there.2; is = offer-found slots s k there.0 found; none = parted.none k there.1 })
      | inr past ↦
          let j : ℕ = k - length existing in
          let place_is : k ≡ length existing + j = omega (arith, past.0) in
          let counted : length (table_of slots s) ≡ length existing + length numbered = ap length parted.offers_are ∙ length-append existing (map reads numbered) ∙ ap (λ (n : ℕ). length existing + n) (length-map numbered reads) in
          elim (slice_get_cases numbered j).1 [
            | inl there ↦
                let n : ℕ × IndexShape = there.0 in
                let found : slice_get (table_of slots s) k ≡ Some (read n.1) =
                ap (λ (os : List Offer). slice_get os k) parted.offers_are ∙ ap (slice_get (existing ++ map reads numbered)) place_is
                ∙ back-get existing (map reads numbered) j ∙ mapped-at reads numbered j n there.2 in
                inr (record { place = j; place_is = place_is; element = n; found = there.2; is = offer-found slots s k (read n.1) found; some = ap (candidate_at slots s) place_is ∙ parted.each j n there.2 })
            | inr beyond ↦ absurd (omega (arith, below, counted, place_is, beyond.0))
          ]
    ]

-- ## The least existing price

pub base-none : (slots : List SlotOffers) (s : ℕ) (order : Order) → IsBaseBelow slots s order 0 None
base-none slots s order = record { is = λ existing numbered read parted. refl }

pub base-more : (slots : List SlotOffers) (s : ℕ) (order : Order) (k : ℕ) (best price next : Option ℕ) → k < length (table_of slots s) → IsBaseBelow slots s order k best →
    price ≡ (if is_some (candidate_at slots s k) then None else given order (offer_at slots s k)) → next ≡ lesser best price → IsBaseBelow slots s order (k + 1) next
base-more slots s order k best price next below before price_is next_is =
    record {
      is = λ existing numbered read parted.
          let own : best ≡ least_given order (take k existing) = before.is existing numbered read parted in
          elim (offer-cases slots s k existing numbered read parted below) [
            | inl here ↦
                let given_is : price ≡ given order here.offer = price_is ∙ ap (λ (c : Option ℕ). if is_some c then None else given order (offer_at slots s k)) here.none ∙ ap (given order) here.is in
                let more : take (k + 1) existing ≡ take k existing ++ here.offer ∷ [] = take-found existing k here.offer here.found in
                let folded = fold-append (λ (b : Option ℕ) (o : Offer). lesser b (given order o)) None (take k existing) (here.offer ∷ []) in
                next_is ∙ ap (lesser best) given_is ∙ ap (λ (b : Option ℕ). lesser b (given order here.offer)) own ∙ sym folded ∙ ap (least_given order) (sym more)
            | inr there ↦
                let given_is : price ≡ None = price_is ∙ ap (λ (c : Option ℕ). if is_some c then None else given order (offer_at slots s k)) there.some in
                let all : take k existing ≡ existing = take_all k existing (omega (arith, there.place_is)) in
                let all_more : take (k + 1) existing ≡ existing = take_all (k + 1) existing (omega (arith, there.place_is)) in
                next_is ∙ ap (lesser best) given_is ∙ lesser-none best ∙ own ∙ ap (least_given order) (all ∙ sym all_more)
          ];
    }

pub base-all : (slots : List SlotOffers) (s : ℕ) (order : Order) (k : ℕ) (best : Option ℕ) → length (table_of slots s) ≤ k → IsBaseBelow slots s order k best → IsBase slots s order best
base-all slots s order k best past before =
    record {
      is = λ existing numbered read parted.
          let counted : length (table_of slots s) ≡ length existing + length (map (λ (n : ℕ × IndexShape). read n.1) numbered) = ap length parted.offers_are ∙ length-append existing (map (λ (n : ℕ × IndexShape). read n.1) numbered) in
          before.is existing numbered read parted ∙ ap (least_given order) (take_all k existing (omega (arith, counted, past)));
    }

map-push : {X Y : Type 0} (f : X → Y) (xs : List X) (x : X) → map f (xs ++ x ∷ []) ≡ map f xs ++ f x ∷ []
map-push f [] x = refl
map-push f (y ∷ xs) x = ap (λ (zs : List _). f y ∷ zs) (map-push f xs x)

pub bases-none : (slots : List SlotOffers) (s : ℕ) → AreBases slots s [] []
bases-none slots s = record { are = λ existing numbered read parted. refl }

pub bases-more : (slots : List SlotOffers) (s : ℕ) (orders : List Order) (prices : List (Option ℕ)) (order : Order) (price : Option ℕ) → AreBases slots s orders prices → IsBase slots s order price → AreBases slots s (orders ++ order ∷ []) (prices ++ price ∷ [])
bases-more slots s orders prices order price before own =
    record {
      are = λ existing numbered read parted.
          ap (λ (ps : List (Option ℕ)). ps ++ price ∷ []) (before.are existing numbered read parted)
          ∙ ap (λ (p : Option ℕ). map (λ o. least_given o existing) orders ++ p ∷ []) (own.is existing numbered read parted)
          ∙ sym (map-push (λ (o : Order). least_given o existing) orders order);
    }

-- ## Grants

pub grants-none : (slots : List SlotOffers) (s : ℕ) (orders : List Order) → AreGrantsBelow slots s orders 0 []
grants-none slots s orders =
    record { are = λ existing numbered read parted. let none : 0 - length existing ≡ 0 = omega arith in rw none tt }

-- an existing offer has no grant
pub grants-same : (slots : List SlotOffers) (s : ℕ) (orders : List Order) (k : ℕ) (grants : List Grant) → k < length (table_of slots s) → AreGrantsBelow slots s orders k grants → candidate_at slots s k ≡ None → AreGrantsBelow slots s orders (k + 1) grants
grants-same slots s orders k grants below before none =
    record {
      are = λ existing numbered read parted.
          elim (offer-cases slots s k existing numbered read parted below) [
            | inl here ↦
                let within : k < length existing = slice_get_within existing k here.offer here.found in
                let same : k - length existing ≡ k + 1 - length existing = omega (arith, within) in
                subst (λ (n : ℕ). AreEach (IsGrantOf orders read) (take n numbered) grants) same (before.are existing numbered read parted)
            | inr there ↦ let both : None ≡ Some there.element.0 = sym none ∙ there.some in absurd (cc)
          ];
    }

-- a candidate's has one
pub grants-more : (slots : List SlotOffers) (s : ℕ) (orders : List Order) (k candidate : ℕ) (grants : List Grant) (grant : Grant) → k < length (table_of slots s) → AreGrantsBelow slots s orders k grants → candidate_at slots s k ≡ Some candidate →
    grant.candidate ≡ candidate → grant.prices ≡ map (λ order. given order (offer_at slots s k)) orders → AreGrantsBelow slots s orders (k + 1) (grants ++ grant ∷ [])
grants-more slots s orders k candidate grants grant below before some candidate_is prices_are =
    record {
      are = λ existing numbered read parted.
          elim (offer-cases slots s k existing numbered read parted below) [
            | inl here ↦ let both : None ≡ Some candidate = sym here.none ∙ some in absurd (cc)
            | inr there ↦
                let n : ℕ × IndexShape = there.element in
                let same : candidate ≡ n.0 = (let both : Some candidate ≡ Some n.0 = sym some ∙ there.some in cc) in
                let own : IsGrantOf orders read n grant = record { candidate_is = candidate_is ∙ same; prices_are = prices_are ∙ ap (λ (o : Offer). map (λ order. given order o) orders) there.is } in
                let place : k - length existing ≡ there.place = omega (arith, there.place_is) in
                let next : k + 1 - length existing ≡ there.place + 1 = omega (arith, there.place_is) in
                let more : take (k + 1 - length existing) numbered ≡ take there.place numbered ++ n ∷ [] = ap (λ (m : ℕ). take m numbered) next ∙ take-found numbered there.place n there.found in
                let front : AreEach (IsGrantOf orders read) (take there.place numbered) grants = subst (λ (m : ℕ). AreEach (IsGrantOf orders read) (take m numbered) grants) place (before.are existing numbered read parted) in
                subst (λ (ns : List (ℕ × IndexShape)). AreEach (IsGrantOf orders read) ns (grants ++ grant ∷ [])) (sym more) (each-more (IsGrantOf orders read) (take there.place numbered) grants n grant front own)
          ];
    }

pub grants-all : (slots : List SlotOffers) (s : ℕ) (orders : List Order) (k : ℕ) (grants : List Grant) → length (table_of slots s) ≤ k → AreGrantsBelow slots s orders k grants → AreGrants slots s orders grants
grants-all slots s orders k grants past before =
    record {
      are = λ existing numbered read parted.
          let reads : ℕ × IndexShape → Offer = λ n. read n.1 in
          let counted : length (table_of slots s) ≡ length existing + length numbered = ap length parted.offers_are ∙ length-append existing (map reads numbered) ∙ ap (λ (n : ℕ). length existing + n) (length-map numbered reads) in
          subst (λ (ns : List (ℕ × IndexShape)). AreEach (IsGrantOf orders read) ns grants) (take_all (k - length existing) numbered (omega (arith, counted, past))) (before.are existing numbered read parted);
    }

-- ## Tests and prices

-- an offer gives an order where it begins with it
pub given-begins : (order : Order) (offer : Offer) → take (length order) offer.0 ≡ order → Some offer.1 ≡ given order offer
given-begins order offer begins = sym (ap (λ (b : Bool). if b then Some offer.1 else None) ((begins_decides offer.0 order).1 begins))

pub given-not : (order : Order) (offer : Offer) → (take (length order) offer.0 ≡ order → ⊥) → None ≡ given order offer
given-not order offer not_begins =
    elim (cases_Bool (is_same_order (take (length order) offer.0) order)) [
      | inl so ↦ absurd (not_begins ((begins_decides offer.0 order).0 so))
      | inr not_so ↦ sym (ap (λ (b : Bool). if b then Some offer.1 else None) not_so)
    ]

-- the candidate of an offer is one of at most 256
pub number-of : (slots : List SlotOffers) (s k candidate : ℕ) → HasParted slots s → k < length (table_of slots s) → candidate_at slots s k ≡ Some candidate → IsNumber candidate
number-of slots s k candidate has below some =
    elim (offer-cases slots s k has.existing has.numbered has.read has.parted below) [
      | inl here ↦ let both : None ≡ Some candidate = sym here.none ∙ some in absurd (cc)
      | inr there ↦
          let n : ℕ × IndexShape = there.element in
          let same : n.0 ≡ candidate = (let both : Some n.0 ≡ Some candidate = sym there.some ∙ some in cc) in
          let within : there.place < length has.numbered = slice_get_within has.numbered there.place n there.found in
          let read : get_or has.numbered there.place n ≡ n = get_or_from_slice_get has.numbered there.place n n there.found in
          let own : IsNumber n.0 = subst (λ (m : ℕ × IndexShape). IsNumber m.0) read (has.numbers there.place n within) in
          subst IsNumber same own
    ]
