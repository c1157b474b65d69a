-- The prices of a block's slot: for each of some orders the least that exists, and for each candidate on the slot's table
-- its own.
use Rattle.std.specs.Prelude.{◌≡◌, ℕ, List, length, map, Some, slice_get}
use Rattle.adv_base.specs.declared.catalogue.Catalogue.{Catalogue}
use Rattle.adv_base.specs.declared.catalogue.index.IndexShape.{IndexShape}
use Rattle.adv_base.specs.declared.catalogue.table.Table.{Table}
use Rattle.adv_base.specs.declared.workload.block.Block.{Block}
use Rattle.adv_base.specs.declared.workload.parts.Slot.{Slot}
use Rattle.adv_base.specs.Items.{Order}
use Rattle.adv_base.specs.Lookups.{table_at}
use Rattle.adv_base.specs.Offers.{Offer, index_offer, offers}
use Rattle.adv_base.specs.Settings.{TheSetting}
use Rattle.plan_model.specs.Totals.{no_candidates}
use Rattle.bip_model.specs.declared.grant.Grant.{Grant}
use Rattle.bip_model.specs.declared.slot_part.SlotPart.{SlotPart}
use Rattle.bip_model.specs.StandsFor.{given, least_given, candidates_on, AreEach}
use Rattle.inum_cache.specs.declared.cache.Cache.{Cache}
use Rattle.inum_cache.specs.Caches.{orders_of}

-- what a grant says of a numbered candidate, whose offer is read so
pub record IsGrantOf (orders : List Order) (read : IndexShape → Offer) (numbered : ℕ × IndexShape) (grant : Grant) : Type 0 where
  pub candidate_is : grant.candidate ≡ numbered.0
  pub prices_are : grant.prices ≡ map (λ order. given order (read numbered.1)) orders

-- the prices of slot s
pub record IsSlotPriced (cat : Catalogue) (block : Block) (shapes : List IndexShape) (s : ℕ) (orders : List Order) (own : SlotPart) : Type 0 where
  pub slot : Slot
  pub slot_found : slice_get block.slots s ≡ Some slot
  pub table : Table
  pub table_found : table_at cat slot.table ≡ Some table
  pub base_is : own.base ≡ map (λ order. least_given order (offers cat block shapes no_candidates s)) orders
  pub grants_are : AreEach (IsGrantOf orders (index_offer cat block s slot table)) (candidates_on shapes slot.table) own.grants

-- the prices of the slots below k of a block, of the cache's orders of each
pub record ArePriced (setting : TheSetting) (block : Block) (cache : Cache) (k : ℕ) (parts : List SlotPart) : Type 0 where
  pub count : length parts ≡ k
  pub each : (s : ℕ) (own : SlotPart) → slice_get parts s ≡ Some own → IsSlotPriced setting.cat block setting.shapes s (orders_of cache s) own
