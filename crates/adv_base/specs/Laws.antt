-- Laws of selectivities, and of access paths and their prices, of every configuration of any candidates.
use Rattle.std.specs.Prelude.{ℕ, ◌+◌, ◌≤◌, ℤ, ◌≤ℤ◌, List}
use Rattle.adv_base.specs.declared.catalogue.Catalogue.{Catalogue}
use Rattle.adv_base.specs.declared.catalogue.index.IndexShape.{IndexShape}
use Rattle.adv_base.specs.declared.catalogue.table.Table.{Table}
use Rattle.adv_base.specs.declared.limits.TheConstants.{WHOLE, MOST_TABLE_PRICE, MOST_INDEX_PRICE, MOST_RENT}
use Rattle.adv_base.specs.declared.setting.Config.{Config}
use Rattle.adv_base.specs.declared.workload.block.Block.{Block}
use Rattle.adv_base.specs.declared.workload.parts.Slot.{Slot}
use Rattle.adv_base.specs.Access.{table_price, index_price}
use Rattle.adv_base.specs.Named.{NamesBlock}
use Rattle.adv_base.specs.OfferTables.{OfferTableLimits, PricesWithin, BeginsWithTables}
use Rattle.adv_base.specs.Offers.{offers, charged_offers}
use Rattle.adv_base.specs.Shares.{share}

-- by any ends the share of the rows at most a value never falls as the value rises
abbrev pub SharesRise : Type 0
SharesRise = (ends : List ℤ) (v w : ℤ) → v ≤ℤ w → share ends v ≤ share ends w

-- and is at most the whole
abbrev pub SharesAreParts : Type 0
SharesAreParts = (ends : List ℤ) (v : ℤ) → share ends v ≤ WHOLE

-- to read a whole table costs at most MOST_TABLE_PRICE
abbrev pub TablePricesAreBounded : Type 0
TablePricesAreBounded = (cat : Catalogue) (table : Table) → table_price cat table ≤ MOST_TABLE_PRICE

-- to read a slot through an index costs at most MOST_INDEX_PRICE
abbrev pub IndexPricesAreBounded : Type 0
IndexPricesAreBounded = (cat : Catalogue) (block : Block) (s : ℕ) (slot : Slot) (table : Table) (shape : IndexShape) →
    index_price cat block s slot table shape ≤ MOST_INDEX_PRICE

-- the offers of every configuration keep the limits of a table of offers, with prices of at most MOST_INDEX_PRICE
pub record OffersKeepLimits : Type 0 where
  pub limits : (cat : Catalogue) (block : Block) (shapes : List IndexShape) (config : Config) → OfferTableLimits (offers cat block shapes config)
  pub prices : (cat : Catalogue) (block : Block) (shapes : List IndexShape) (config : Config) → PricesWithin MOST_INDEX_PRICE (offers cat block shapes config)

-- charges of at most MOST_RENT a use
abbrev pub IsRent : (ℕ → ℕ → ℕ) → Type 0
IsRent charge = (slot number : ℕ) → charge slot number ≤ MOST_RENT

-- the offers of every configuration with such charges on the uses of candidates keep them too
pub record ChargedOffersKeepLimits : Type 0 where
  pub limits : (charge : ℕ → ℕ → ℕ) → IsRent charge → (cat : Catalogue) (block : Block) (shapes : List IndexShape) (config : Config) →
      OfferTableLimits (charged_offers charge cat block shapes config)
  pub prices : (charge : ℕ → ℕ → ℕ) → IsRent charge → (cat : Catalogue) (block : Block) (shapes : List IndexShape) (config : Config) →
      PricesWithin (MOST_INDEX_PRICE + MOST_RENT) (charged_offers charge cat block shapes config)

-- where the catalogue has what a block names, each slot can be read as a whole table, in no order and without a charge
pub record TablesAreOffered : Type 0 where
  pub plain : (cat : Catalogue) (block : Block) → NamesBlock cat block → (shapes : List IndexShape) (config : Config) →
      BeginsWithTables cat block (offers cat block shapes config)
  pub charged : (charge : ℕ → ℕ → ℕ) (cat : Catalogue) (block : Block) → NamesBlock cat block → (shapes : List IndexShape) (config : Config) →
      BeginsWithTables cat block (charged_offers charge cat block shapes config)
