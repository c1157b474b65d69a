-- The offers that are kept for each slot of a block, and which candidate each of them is.
use Rattle.std.specs.Prelude.{◌≡◌, ℕ, List, [], Option, slice_get, option_and_then}
use Rattle.std.specs.Option.{option_map_or}
use Rattle.adv_base.specs.declared.catalogue.Catalogue.{Catalogue}
use Rattle.adv_base.specs.declared.catalogue.index.IndexShape.{IndexShape}
use Rattle.adv_base.specs.declared.setting.Config.{Config}
use Rattle.adv_base.specs.declared.workload.block.Block.{Block}
use Rattle.adv_base.specs.Offers.{OfferTable, offers, path_candidate_at}
use Rattle.access_paths.specs.declared.slot_offers.SlotOffers.{SlotOffers}
use Rattle.access_paths.specs.inner.SlotOffers.{pairs_of, numbers_of}

-- for each slot, its offers
abbrev pub table_of : List SlotOffers → OfferTable
table_of slots s = option_map_or (λ o. pairs_of o.offers.items) (slice_get slots s) []

-- for each slot, the candidate that each offer is kept as
abbrev pub candidates_in_table : List SlotOffers → ℕ → List (Option ℕ)
candidates_in_table slots s = option_map_or (λ o. numbers_of o.offers.items) (slice_get slots s) []

-- the candidate that an offer is kept as
abbrev pub candidate_at : List SlotOffers → ℕ → ℕ → Option ℕ
candidate_at slots s offer = option_and_then (λ c. c) (slice_get (candidates_in_table slots s) offer)

-- the offers of a block under a configuration: one for each access path, kept as the candidate that the path is
pub record AreOffersOf (cat : Catalogue) (block : Block) (shapes : List IndexShape) (config : Config) (slots : List SlotOffers) : Type 0 where
  pub offers_are : table_of slots ≡ offers cat block shapes config
  pub candidates_are : (slot offer : ℕ) → candidate_at slots slot offer ≡ path_candidate_at cat block shapes config slot offer
