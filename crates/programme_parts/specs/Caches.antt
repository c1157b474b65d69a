-- Caches of blocks and of statements.
use Rattle.std.specs.Prelude.{◌<◌, List, Option, Some, None}
use Rattle.adv_base.specs.declared.catalogue.Catalogue.{Catalogue}
use Rattle.adv_base.specs.declared.limits.TheConstants.{MOST_COMBINATIONS}
use Rattle.adv_base.specs.declared.workload.Statement.{Statement}
use Rattle.adv_base.specs.declared.workload.block.Block.{Block}
use Rattle.plan_model.specs.declared.task.Task.{Task}
use Rattle.plan_model.specs.BlockTask.{IsTaskOf}
use Rattle.plan_model.specs.Totals.{block_of}
use Rattle.bip_model.specs.StandsFor.{AreEach}
use Rattle.inum_cache.specs.declared.cache.Cache.{Cache}
use Rattle.inum_cache.specs.declared.fault.CacheFault.{CacheFault}
use Rattle.inum_cache.specs.declared.fault.CacheFault.TheVariants.{Memory, TooManyCombinations}
use Rattle.inum_cache.specs.Caches.{IsCacheOf}
use Rattle.programme_parts.specs.Combinations.{HasCombinations, IsBeyond}

-- the cache is one of the block's task
pub record IsCached (cat : Catalogue) (block : Block) (cache : Cache) : Type 0 where
  pub task : Task
  pub task_is : IsTaskOf cat block task
  pub cache_is : IsCacheOf task cache

-- what a fault says of the block; want of memory says nothing
abbrev pub IsBlockFault : Catalogue → Block → CacheFault → Type 0
IsBlockFault cat block Memory = Unit {0}
IsBlockFault cat block (TooManyCombinations count) = HasCombinations cat block count × (MOST_COMBINATIONS < count)

abbrev pub HoldsCache : Catalogue → Option Block → Option Cache → Type 0
HoldsCache cat None None = Unit {0}
HoldsCache cat (Some block) (Some cache) = IsCached cat block cache
HoldsCache cat there kept = ⊥

-- a statement that has a block has its cache, and one without has none
abbrev pub IsCacheFor : Catalogue → Statement → Option Cache → Type 0
IsCacheFor cat statement kept = HoldsCache cat (block_of statement.work) kept

abbrev pub AreCached : Catalogue → List Statement → List (Option Cache) → Type 0
AreCached cat statements caches = AreEach (IsCacheFor cat) statements caches

-- what a fault says of a statement
abbrev pub IsStatementFault : Catalogue → Statement → CacheFault → Type 0
IsStatementFault cat statement Memory = Unit {0}
IsStatementFault cat statement (TooManyCombinations count) = IsBeyond cat statement count
