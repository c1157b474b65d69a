-- Least costs over tables of offers that differ: with offers added, with prices raised, with the best offer for each order.
use Rattle.std.specs.Prelude.{◌≡◌, ℕ, ◌+◌, ◌<◌, ◌≤◌, true, ◌↔◌, length}
use Rattle.std.specs.List.{list_any}
use Rattle.adv_base.specs.Items.{Order, is_same_order}
use Rattle.adv_base.specs.Offers.{OfferTable}
use Rattle.plan_model.specs.declared.plan.Whole.{Whole}
use Rattle.plan_model.specs.declared.task.Task.{Task}
use Rattle.adv_base.specs.OfferTables.{price_at, order_at, OfferTableLimits}
use Rattle.plan_model.specs.Orders.{interesting_orders}
use Rattle.plan_model.specs.Plans.{IsWhole}
use Rattle.plan_model.specs.Costs.{whole_cost}
use Rattle.plan_model.specs.Least.{Least}
use Rattle.plan_model.specs.Exchange.{choice, sum_below, ServesLike}
use Rattle.plan_model.specs.Combinations.{IsLeastPrice}

-- an offer of the new table serves all that an offer of the old one serves, at no higher price
pub record IsBetter (task : Task) (old new : OfferTable) (slot number other : ℕ) : Type 0 where
  pub within : other < length (new slot)
  pub serves : ServesLike task slot (order_at old slot number) (order_at new slot other)
  pub cheaper : price_at new slot other ≤ price_at old slot number

-- each offer of the old table has such a one
abbrev pub NoDearer : Task → OfferTable → OfferTable → Type 0
NoDearer task old new =
    (slot number : ℕ) → slot < task.slots → number < length (old slot) → (other : ℕ) × IsBetter task old new slot number other

-- the new table has an offer with this order and price
pub record HasOffer (table : OfferTable) (slot : ℕ) (order : Order) (price : ℕ) : Type 0 where
  pub number : ℕ
  pub within : number < length (table slot)
  pub order_is : order_at table slot number ≡ order
  pub price_is : price_at table slot number ≡ price

-- the new table has the offers of the old one, and perhaps more
abbrev pub HasOffersOf : Task → OfferTable → OfferTable → Type 0
HasOffersOf task old new =
    (slot number : ℕ) → slot < task.slots → number < length (old slot) → HasOffer new slot (order_at old slot number) (price_at old slot number)

-- the same offers, the price of each raised by at most its charge
pub record IsRaised (task : Task) (old new : OfferTable) (charge : ℕ → ℕ → ℕ) : Type 0 where
  pub count : (slot : ℕ) → slot < task.slots → length (new slot) ≡ length (old slot)
  pub order : (slot number : ℕ) → slot < task.slots → number < length (old slot) → order_at new slot number ≡ order_at old slot number
  pub least : (slot number : ℕ) → slot < task.slots → number < length (old slot) → price_at old slot number ≤ price_at new slot number
  pub most : (slot number : ℕ) → slot < task.slots → number < length (old slot) → price_at new slot number ≤ price_at old slot number + charge slot number

-- the charges of the offers that a plan reads
abbrev pub charges : Task → (ℕ → ℕ → ℕ) → Whole → ℕ
charges task charge whole = sum_below (λ slot. charge slot (choice whole.body slot)) task.slots

-- the best table has, for each interesting order that some offer begins with, one of that order at the least such price
pub record IsBest (task : Task) (table best : OfferTable) : Type 0 where
  pub each : (slot number : ℕ) → slot < task.slots → number < length (best slot) → IsLeastPrice table slot (order_at best slot number) (price_at best slot number)
  pub all : (slot : ℕ) (order : Order) (price : ℕ) → slot < task.slots → list_any (is_same_order order) (interesting_orders task slot) ≡ true → IsLeastPrice table slot order price → HasOffer best slot order price

-- Least costs never rise where each offer has one that serves as well and costs no more, as where offers are added.
abbrev pub LeastNeverRises : Type 0
LeastNeverRises =
    (task : Task) (old new : OfferTable) (before after : ℕ) → OfferTableLimits old → NoDearer task old new →
    Least task old before → Least task new after → after ≤ before

abbrev pub AddedNeverRaises : Type 0
AddedNeverRaises =
    (task : Task) (old new : OfferTable) (before after : ℕ) → OfferTableLimits old → HasOffersOf task old new →
    Least task old before → Least task new after → after ≤ before

-- Raised prices: the least cost lies between the old one and the old one with the charges of the leaves of any old plan of
-- that cost.
abbrev pub RaisedLiesBetween : Type 0
RaisedLiesBetween =
    (task : Task) (old new : OfferTable) (charge : ℕ → ℕ → ℕ) (before after : ℕ) → OfferTableLimits old →
    OfferTableLimits new → IsRaised task old new charge → Least task old before → Least task new after →
    (before ≤ after) × ((whole : Whole) → IsWhole task old whole → whole_cost task old whole ≡ before → after ≤ before + charges task charge whole)

-- The best offer for each interesting order is enough.
abbrev pub BestIsEnough : Type 0
BestIsEnough =
    (task : Task) (table best : OfferTable) (cost : ℕ) → OfferTableLimits table → OfferTableLimits best →
    IsBest task table best → Least task table cost ↔ Least task best cost

-- A least cost is one number.
abbrev pub LeastIsOne : Type 0
LeastIsOne = (task : Task) (table : OfferTable) (first second : ℕ) → Least task table first → Least task table second → first ≡ second
