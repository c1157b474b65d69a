-- Sets of multipliers as they are kept.
use Rattle.std.specs.Prelude.{◌≡◌, ◌≤◌, List, [], ◌∷◌}
use Rattle.adv_base.specs.declared.limits.TheConstants.{MOST_PAGE_PRICE}
use Rattle.adv_base.specs.Settings.{TheSetting}
use Rattle.certificate.specs.declared.cert.SparseSet.{SparseSet}
use Rattle.certificate.specs.Limits.{EntriesFrom}
use Rattle.gap_checker.specs.declared.multipliers.Multipliers.{Multipliers}
use Rattle.gap_checker.specs.inner.Earnings.{AreEarned}

-- the set without rents, and the sets of a certificate behind it
abbrev pub zero_set : SparseSet
zero_set = record { mu = 0; entries = [] }

abbrev pub all_sets : List SparseSet → List SparseSet
all_sets sets = zero_set ∷ sets

-- a set as it is kept, with what candidates earn under it
pub record IsKept (setting : TheSetting) (sparse : SparseSet) (set : Multipliers) : Type 0 where
  pub mu_is : set.rents.mu ≡ sparse.mu
  pub entries_are : set.rents.entries.now ≡ sparse.entries
  pub mu_most : sparse.mu ≤ MOST_PAGE_PRICE
  pub rise : EntriesFrom 0 sparse.entries
  pub earned : AreEarned setting set
