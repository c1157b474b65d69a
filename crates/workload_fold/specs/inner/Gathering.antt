-- Groups as the code holds them.
use Rattle.std.specs.Prelude.{◌≡◌, ℕ, ◌+◌, if◌then◌else◌, List, [], ◌∷◌, map}
use Rattle.adv_base.specs.declared.catalogue.Catalogue.{Catalogue}
use Rattle.adv_base.specs.declared.workload.Statement.{Statement}
use Rattle.adv_base.specs.Named.{NamesWork}
use Rattle.workload_fold.specs.declared.gathered.Gathered.{Gathered}
use Rattle.workload_fold.specs.Groups.{Group, takes}
use Rattle.workload_fold.specs.inner.Digests.{digest_of}

abbrev pub plain_group : Gathered → Group
plain_group g = record { number = g.number; first = g.first.now; weight = g.weight }

abbrev pub plain_groups : List Gathered → List Group
plain_groups gs = map plain_group gs

-- the catalogue has what the group's first statement names, and the digest is that statement's
pub record IsKept (cat : Catalogue) (g : Gathered) : Type 0 where
  pub named : NamesWork cat g.first.now.work
  pub told : g.digest ≡ digest_of cat g.first.now.work

-- the place of the first group that takes a statement, where they are counted from n; that behind all where none does
abbrev pub place_from : Catalogue → Statement → ℕ → List Gathered → ℕ
place_from cat s n [] = n
place_from cat s n (g ∷ gs) = if takes cat s (plain_group g) then n else place_from cat s (n + 1) gs
