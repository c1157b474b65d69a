-- The offers of a block's slots where every candidate is chosen.
use Rattle.std.specs.Prelude.{◌≡◌, ℕ, ◌<◌, List, length, true, false, slice_index_or}
use Rattle.access_paths.specs.declared.config_offers.ConfigOffers.{ConfigOffers}
use Rattle.access_paths.specs.ConfigOffers.{table_of, candidate_at}
use Rattle.adv_base.specs.declared.catalogue.Catalogue.{Catalogue}
use Rattle.adv_base.specs.declared.catalogue.index.IndexShape.{IndexShape}
use Rattle.adv_base.specs.declared.setting.Config.{Config}
use Rattle.adv_base.specs.declared.workload.block.Block.{Block}
use Rattle.adv_base.specs.Offers.{offers, path_candidate_at}

-- the flags of so many candidates are on
pub record IsEvery (count : ℕ) (config : Config) : Type 0 where
  pub on : (a : ℕ) → a < count → slice_index_or config.on a false ≡ true

-- these are the offers under such a configuration, and tell which candidate each is
pub record AreEvery (cat : Catalogue) (block : Block) (shapes : List IndexShape) (all : ConfigOffers) : Type 0 where
  pub every : Config
  pub is_every : IsEvery (length shapes) every
  pub offers_are : table_of all.slots.items ≡ offers cat block shapes every
  pub candidates_are : (s k : ℕ) → candidate_at all.slots.items s k ≡ path_candidate_at cat block shapes every s k
