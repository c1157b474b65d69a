-- Tables of offers: for each slot a list of an order and a price.
use Rattle.std.specs.Prelude.{◌≡◌, ℕ, ◌<◌, ◌≤◌, true, [], length, All, Some, slice_get}
use Rattle.std.specs.Option.{option_map_or}
use Rattle.adv_base.specs.declared.limits.TheConstants.{MOST_PRICE}
use Rattle.adv_base.specs.declared.catalogue.Catalogue.{Catalogue}
use Rattle.adv_base.specs.declared.catalogue.table.Table.{Table}
use Rattle.adv_base.specs.declared.workload.block.Block.{Block}
use Rattle.adv_base.specs.Access.{table_price}
use Rattle.adv_base.specs.Lookups.{slot_table}
use Rattle.adv_base.specs.Items.{Order, AreApart, is_up_of}
use Rattle.adv_base.specs.Offers.{Offer, OfferTable}

-- what the offer of a number costs
abbrev pub price_at : OfferTable → ℕ → ℕ → ℕ
price_at table slot offer = option_map_or (λ o. o.1) (slice_get (table slot) offer) 0

-- the order that it delivers
abbrev pub order_at : OfferTable → ℕ → ℕ → Order
order_at table slot offer = option_map_or (λ o. o.0) (slice_get (table slot) offer) []

-- an offer of a slot: a price within its limit, and upward columns of the slot, none twice
pub record OfferLimits (slot : ℕ) (offer : Offer) : Type 0 where
  pub price : offer.1 ≤ MOST_PRICE
  pub own : All (λ item. is_up_of slot item ≡ true) offer.0
  pub apart : AreApart offer.0

-- each offer of each slot keeps its limits
abbrev pub OfferTableLimits : OfferTable → Type 0
OfferTableLimits table = (slot : ℕ) → All (OfferLimits slot) (table slot)

-- each slot below n has an offer
abbrev pub HasOffers : ℕ → OfferTable → Type 0
HasOffers n table = (slot : ℕ) → slot < n → 0 < length (table slot)

-- each price of the table is at most `most`
abbrev pub PricesWithin : ℕ → OfferTable → Type 0
PricesWithin most table = (slot : ℕ) → All (λ offer. offer.1 ≤ most) (table slot)

-- the first offer of each slot of the block is to read the whole table, in no order
pub record BeginsWithTables (cat : Catalogue) (block : Block) (table : OfferTable) : Type 0 where
  pub some : HasOffers (length block.slots) table
  pub first : (slot : ℕ) (source : Table) → slot_table cat block slot ≡ Some source → slice_get (table slot) 0 ≡ Some ([], table_price cat source)
