-- The offers of a slot under every candidate: those of what exists, and behind them one for each candidate on its table.
use Rattle.std.specs.Prelude.{◌≡◌, ℕ, ◌+◌, ◌-◌, ◌<◌, ◌≤◌, ◌++◌, List, All, Option, Some, None, length, map, slice_get, take}
use Rattle.access_paths.specs.declared.slot_offers.SlotOffers.{SlotOffers}
use Rattle.access_paths.specs.ConfigOffers.{table_of, candidate_at}
use Rattle.adv_base.specs.declared.catalogue.index.IndexShape.{IndexShape}
use Rattle.adv_base.specs.declared.limits.TheConstants.{MOST_CANDIDATES}
use Rattle.adv_base.specs.Items.{Order}
use Rattle.adv_base.specs.Offers.{Offer}
use Rattle.adv_base.specs.OfferTables.{order_at, price_at}
use Rattle.bip_model.specs.declared.grant.Grant.{Grant}
use Rattle.bip_model.specs.declared.slot_part.SlotPart.{SlotPart}
use Rattle.bip_model.specs.StandsFor.{least_given, AreEach}
use Rattle.programme_parts.specs.inner.Prices.{IsGrantOf}

-- an offer of slot s, as kept
abbrev pub offer_at : List SlotOffers → ℕ → ℕ → Offer
offer_at slots s k = (order_at (table_of slots) s k, price_at (table_of slots) s k)

-- slot s has these existing offers, and behind them what `read` says of each of these numbered candidates
pub record AreParted (slots : List SlotOffers) (s : ℕ) (existing : List Offer) (numbered : List (ℕ × IndexShape)) (read : IndexShape → Offer) : Type 0 where
  pub offers_are : table_of slots s ≡ existing ++ map (λ n. read n.1) numbered
  pub none : (k : ℕ) → k < length existing → candidate_at slots s k ≡ None
  pub each : (k : ℕ) (n : ℕ × IndexShape) → slice_get numbered k ≡ Some n → candidate_at slots s (length existing + k) ≡ Some n.0

-- the number of a candidate
pub record IsNumber (n : ℕ) : Type 0 where
  pub least : 1 ≤ n
  pub most : n ≤ MOST_CANDIDATES

-- it has some such offers, of at most 256 candidates
pub record HasParted (slots : List SlotOffers) (s : ℕ) : Type 0 where
  pub existing : List Offer
  pub numbered : List (ℕ × IndexShape)
  pub read : IndexShape → Offer
  pub parted : AreParted slots s existing numbered read
  pub few : length numbered ≤ MOST_CANDIDATES
  pub numbers : All (λ n. IsNumber n.0) numbered

-- the least price at which one of the first k existing offers gives an order
pub record IsBaseBelow (slots : List SlotOffers) (s : ℕ) (order : Order) (k : ℕ) (price : Option ℕ) : Type 0 where
  pub is : (existing : List Offer) (numbered : List (ℕ × IndexShape)) (read : IndexShape → Offer) → AreParted slots s existing numbered read →
      price ≡ least_given order (take k existing)

-- the same of all existing offers
pub record IsBase (slots : List SlotOffers) (s : ℕ) (order : Order) (price : Option ℕ) : Type 0 where
  pub is : (existing : List Offer) (numbered : List (ℕ × IndexShape)) (read : IndexShape → Offer) → AreParted slots s existing numbered read →
      price ≡ least_given order existing

-- such a price for each order
pub record AreBases (slots : List SlotOffers) (s : ℕ) (orders : List Order) (prices : List (Option ℕ)) : Type 0 where
  pub are : (existing : List Offer) (numbered : List (ℕ × IndexShape)) (read : IndexShape → Offer) → AreParted slots s existing numbered read →
      prices ≡ map (λ order. least_given order existing) orders

-- the grants of the candidates among the first k offers
pub record AreGrantsBelow (slots : List SlotOffers) (s : ℕ) (orders : List Order) (k : ℕ) (grants : List Grant) : Type 0 where
  pub are : (existing : List Offer) (numbered : List (ℕ × IndexShape)) (read : IndexShape → Offer) → AreParted slots s existing numbered read →
      AreEach (IsGrantOf orders read) (take (k - length existing) numbered) grants

-- the grants of all
pub record AreGrants (slots : List SlotOffers) (s : ℕ) (orders : List Order) (grants : List Grant) : Type 0 where
  pub are : (existing : List Offer) (numbered : List (ℕ × IndexShape)) (read : IndexShape → Offer) → AreParted slots s existing numbered read →
      AreEach (IsGrantOf orders read) numbered grants

-- the prices of the slot
pub record IsPriced (slots : List SlotOffers) (s : ℕ) (orders : List Order) (own : SlotPart) : Type 0 where
  pub base : AreBases slots s orders own.base
  pub grants : AreGrants slots s orders own.grants
