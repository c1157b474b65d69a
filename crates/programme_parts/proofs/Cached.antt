-- What making a cache tells of a block.
use Rattle.std.proofs.Common.{◌≡◌, inl, inr, ◌<◌, ◌≤◌, arith}
use Rattle.std.specs.Prelude.{Result, Ok, Err, IfOk, IfErr}
use Rattle.std.proofs.lemmas.Bool.{cases_lt}
use Rattle.adv_base.specs.declared.catalogue.Catalogue.{Catalogue}
use Rattle.adv_base.specs.declared.limits.TheConstants.{MOST_COMBINATIONS}
use Rattle.adv_base.specs.declared.workload.block.Block.{Block}
use Rattle.plan_model.specs.declared.task.Task.{Task}
use Rattle.plan_model.specs.BlockTask.{IsTaskOf}
use Rattle.plan_model.specs.Orders.{combinations}
use Rattle.inum_cache.specs.declared.cache.Cache.{Cache}
use Rattle.inum_cache.specs.declared.fault.CacheFault.{CacheFault}
use Rattle.inum_cache.specs.declared.fault.CacheFault.TheVariants.{Memory, TooManyCombinations}
use Rattle.inum_cache.specs.Caches.{IsCacheOf}
use Rattle.programme_parts.specs.Caches.{IsCached, IsBlockFault}
use Rattle.programme_parts.specs.Combinations.{IsFew}
use Rattle.programme_parts.proofs.Counting.{few-combinations}

pub cached-made : (cat : Catalogue) (block : Block) (task : Task) (made : Result Cache CacheFault) → IsTaskOf cat block task → IfOk made (IsCacheOf task) → IfOk made (IsCached cat block)
cached-made cat block task (Err fault) is cache_is = tt
cached-made cat block task (Ok cache) is cache_is = record { task = task; task_is = is; cache_is = cache_is }

pub few-made : (cat : Catalogue) (block : Block) (task : Task) (made : Result Cache CacheFault) → IsTaskOf cat block task → (MOST_COMBINATIONS < combinations task → made ≡ Err (TooManyCombinations (combinations task))) →
    IfOk made (λ _. IsFew cat block)
few-made cat block task (Err fault) is many = tt
few-made cat block task (Ok cache) is many =
    few-combinations cat block task is
    (elim (cases_lt MOST_COMBINATIONS (combinations task)) [
      | inl more ↦ let no = many more in absurd (cc)
      | inr less ↦ less
    ])

pub fault-made : (cat : Catalogue) (block : Block) (task : Task) (made : Result Cache CacheFault) → IsTaskOf cat block task → (MOST_COMBINATIONS < combinations task → made ≡ Err (TooManyCombinations (combinations task))) →
    (combinations task ≤ MOST_COMBINATIONS → IfErr made (λ fault. fault ≡ Memory)) → IfErr made (IsBlockFault cat block)
fault-made cat block task (Ok cache) is many few = tt
fault-made cat block task (Err Memory) is many few = tt
fault-made cat block task (Err (TooManyCombinations count)) is many few =
    elim (cases_lt MOST_COMBINATIONS (combinations task)) [
      | inl more ↦
          let same : combinations task ≡ count = (let both = many more in cc) in
          (record { task = task; task_is = is; count_is = same }, omega (arith, more, same))
      | inr less ↦ let no = few less in absurd (cc)
    ]
