-- What a certificate claims beside its tree, as the checker keeps it.
use Rattle.std.specs.Prelude.{◌≡◌, ℕ, ◌<◌, ◌≤◌, List, Some, length, map, slice_get}
use Rattle.std.specs.List.{AllByRecursion}
use Rattle.adv_base.specs.declared.limits.TheConstants.{MOST_ENTRIES, MOST_PAGES, MOST_SETS}
use Rattle.bip_model.specs.declared.answer.Node.{Node}
use Rattle.certificate.specs.declared.cert.Cert.{Cert}
use Rattle.certificate.specs.Limits.{Rise, SetLimits, entry_count}
use Rattle.plan_model.specs.Lagrangian.{TheMultipliers}
use Rattle.gap_checker.specs.declared.claims.Claims.{Claims}
use Rattle.gap_checker.specs.Views.{multipliers_of}

-- the limits of a certificate, but for those of its tree
pub record KeepsLimits (claims : Claims) : Type 0 where
  pub budget_most : claims.budget ≤ MOST_PAGES
  pub config_rises : Rise 1 claims.config.now
  pub few_sets : length claims.sets.now ≤ MOST_SETS
  pub each : AllByRecursion SetLimits claims.sets.now
  pub few_entries : entry_count claims.sets.now ≤ MOST_ENTRIES

-- the certificate with these claims and a tree
abbrev pub cert_with : Claims → List Node → Cert
cert_with claims tree =
    record { version = claims.version; budget = claims.budget; config = claims.config.now; cost = claims.cost; bound = claims.bound; sets = claims.sets.now; tree = tree }

-- the multipliers of its sets
abbrev pub sets_in : Claims → List TheMultipliers
sets_in claims = map multipliers_of claims.sets.now

-- ## Numbers past the candidates

pub record IsFirstPast (numbers : List ℕ) (count number : ℕ) : Type 0 where
  pub place : ℕ
  pub found : slice_get numbers place ≡ Some number
  pub past : count < number
  pub before : (k n : ℕ) → k < place → slice_get numbers k ≡ Some n → n ≤ count
