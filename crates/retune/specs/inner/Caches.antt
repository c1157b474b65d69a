-- Caches of statements.
use Rattle.std.specs.Prelude.{◌≡◌, ℕ, List, Option, take}
use Rattle.adv_base.specs.declared.catalogue.Catalogue.{Catalogue}
use Rattle.adv_base.specs.declared.workload.Statement.{Statement}
use Rattle.inum_cache.specs.declared.cache.Cache.{Cache}
use Rattle.programme_parts.specs.Caches.{AreCached}
use Rattle.programme_parts.specs.Combinations.{AreFew, IsBeyond}
use Rattle.retune.specs.declared.fault.RetuneFault.{RetuneFault}
use Rattle.retune.specs.declared.fault.RetuneFault.TheVariants.{Memory, TooManyCombinations}

-- the caches of the first k statements
pub record AreCachesBelow (cat : Catalogue) (statements : List Statement) (k : ℕ) (caches : List (Option Cache)) : Type 0 where
  pub caches_are : AreCached cat (take k statements) caches
  pub few : AreFew cat (take k statements)

-- what a fault says of a statement that number n names
abbrev pub IsCacheFault : Catalogue → Statement → ℕ → RetuneFault → Type 0
IsCacheFault cat statement n Memory = Unit {0}
IsCacheFault cat statement n (TooManyCombinations m count) = (m ≡ n) × IsBeyond cat statement count
IsCacheFault cat statement n fault = ⊥
