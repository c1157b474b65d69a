-- The orders and grants of all slots in lists, one slot after the other, and of the grants' prices those that are below what
-- exists, which alone can lower a price.
use Rattle.std.specs.Prelude.{◌≡◌, ℕ, ◌+◌, ◌<◌, ◌≤◌, List, [], ◌∷◌, ◌++◌, All, Some, drop, length, take, sum_by, slice_get, slice_index_or}
use Rattle.adv_base.specs.declared.limits.TheConstants.{MOST_PRICE, MOST_RENT}
use Rattle.adv_base.specs.declared.setting.Config.{Config}
use Rattle.bip_model.specs.declared.grant.Grant.{Grant}
use Rattle.bip_model.specs.declared.slot_part.SlotPart.{SlotPart}
use Rattle.bip_model.specs.declared.part.Part.{Part}
use Rattle.bip_model.specs.Words.{word}
use Rattle.lagrange_bound.specs.Rented.{rented_price, grants_before}
use Rattle.lagrange_bound.specs.inner.CostsByLists.{least_at}
use Rattle.lagrange_bound.specs.declared.price_lists.CheaperPrice.{CheaperPrice}
use Rattle.lagrange_bound.specs.declared.price_lists.PriceLists.{PriceLists}

-- the slots of parts, one after the other
abbrev pub slots_of : List Part → List SlotPart
slots_of [] = []
slots_of (part ∷ parts) = part.slots ++ slots_of parts

-- how many orders the first n slots have
abbrev pub orders_before : List SlotPart → ℕ → ℕ
orders_before slots n = sum_by (λ slot. length slot.base) (take n slots)

-- a price of a grant at the place of an order
pub record IsWithin (orders grants : ℕ) (cheaper : CheaperPrice) : Type 0 where
  pub place : cheaper.place < orders
  pub grant : cheaper.grant < grants
  pub most : cheaper.price ≤ MOST_PRICE

-- each place has the least price of its order, whatever candidates may be used and whatever rents they pay
abbrev pub GiveLeast : List SlotPart → PriceLists → Type 0
GiveLeast slots prices =
    (config : Config) (rents : List ℕ) → length rents ≡ length prices.owners.items → All (λ rent. rent ≤ MOST_RENT) rents →
    (k o : ℕ) (slot : SlotPart) → slice_get slots k ≡ Some slot → o < length slot.base →
    least_at config prices.owners.items rents (orders_before slots k + o) (slice_index_or prices.bases.items (orders_before slots k + o) 0) prices.list.items
    ≡ word (rented_price config slot (drop (grants_before slots k) rents) o)

-- the prices of slots: where the orders of each begin, what exists asks for each, the candidate of each grant, and what is cheaper
pub record ArePrices (slots : List SlotPart) (prices : PriceLists) : Type 0 where
  pub starts_each : length prices.starts.items ≡ length slots
  pub starts_are : (k : ℕ) → k < length slots → slice_index_or prices.starts.items k 0 ≡ orders_before slots k
  pub bases_each : length prices.bases.items ≡ orders_before slots (length slots)
  pub owners_each : length prices.owners.items ≡ grants_before slots (length slots)
  pub owners_are : (k i : ℕ) (slot : SlotPart) (grant : Grant) → slice_get slots k ≡ Some slot → slice_get slot.grants i ≡ Some grant → slice_index_or prices.owners.items (grants_before slots k + i) 0 + 1 ≡ grant.candidate
  pub within : All (IsWithin (length prices.bases.items) (length prices.owners.items)) prices.list.items
  pub least : GiveLeast slots prices
