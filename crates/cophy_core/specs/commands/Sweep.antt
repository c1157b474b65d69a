-- What `sweep` answers: which candidates to make within each of several budgets of pages, and what more space would buy.
use Rattle.std.specs.Prelude.{◌≡◌, ℕ, zero, suc, List, [], ◌∷◌, ◌++◌, length, decimal, slice_get, Option, Some, None, pos, ◌<ℤ◌}
use Rattle.adv_base.specs.declared.limits.TheConstants.{MOST_CANDIDATES}
use Rattle.adv_base.specs.Settings.{TheSetting}
use Rattle.bip_model.specs.declared.point.Point.{Point}
use Rattle.bip_model.specs.Laws.{BoundsAll}
use Rattle.budget_sweep.specs.Curves.{IsCurve}
use Rattle.budget_sweep.specs.Laws.{IsBoundedAt}
use Rattle.programme_parts.specs.Combinations.{AreFew}
use Rattle.report.specs.declared.done.Done.{Done}
use Rattle.report.specs.declared.done.Done.TheVariants.{Swept}
use Rattle.cophy_core.specs.Endings.{Put}
use Rattle.cophy_core.specs.commands.Advise.{IsCertificateOf}

-- where some gap is left at a point, its own search left one
abbrev pub IsGapOwn : Point → Type 0
IsGapOwn point = point.low <ℤ pos point.best → point.answer.bound <ℤ pos point.answer.cost

-- What is said of one point: every set of candidates that fits costs at least the bound of its answer, which is at most its cost;
-- some set that fits costs `best`, and every set that fits costs at least `low`.
pub record IsPointOver (setting : TheSetting) (point : Point) : Type 0 where
  pub flags : length point.answer.config.on ≡ MOST_CANDIDATES
  pub bounds : BoundsAll setting point.budget point.answer.cost point.answer.bound
  pub bounded : IsBoundedAt setting point
  pub gap_own : IsGapOwn point

-- Each statement has few enough combinations. The points are a curve over the budgets: each has an answer that is best for its
-- budget.
pub record IsSwept (first step count nodes : ℕ) (setting : TheSetting) (points : List Point) : Type 0 where
  pub few : AreFew setting.cat setting.statements
  pub curve_is : IsCurve setting first step count nodes points
  pub each : (i : ℕ) (point : Point) → slice_get points i ≡ Some point → IsPointOver setting point

abbrev pub Gives : ℕ → ℕ → ℕ → ℕ → TheSetting → Done → Type 0
Gives first step count nodes setting (Swept points) = IsSwept first step count nodes setting points
Gives first step count nodes setting done = ⊥

-- ## Certificates

-- the names of so many files, numbered from there on
abbrev pub names_from : List ℕ → ℕ → ℕ → List (List ℕ)
names_from prefix number zero = []
names_from prefix number (suc more) = (prefix ++ decimal number) ∷ names_from prefix (suc number) more

-- those of the certificates of so many points
abbrev pub certificate_names : Option (List ℕ) → ℕ → List (List ℕ)
certificate_names None count = []
certificate_names (Some prefix) count = names_from prefix 1 count

-- the certificate of an answer is put into a file of this name
pub record IsCertificateFile (setting : TheSetting) (point : Point) (name : List ℕ) (put : Put) : Type 0 where
  pub name_is : put.name ≡ name
  pub certificate_is : IsCertificateOf setting point.budget point.answer put.bytes

-- so it is with each point, numbered from there on
abbrev pub AreCertificates : TheSetting → List ℕ → ℕ → List Point → List Put → Type 0
AreCertificates setting prefix number [] [] = Unit {0}
AreCertificates setting prefix number (point ∷ points) (put ∷ puts) =
    IsCertificateFile setting point (prefix ++ decimal number) put × AreCertificates setting prefix (suc number) points puts
AreCertificates setting prefix number points puts = ⊥

-- where a prefix of their names is given; else nothing is put
abbrev pub PutsFor : Option (List ℕ) → TheSetting → List Point → List Put → Type 0
PutsFor (Some prefix) setting points puts = AreCertificates setting prefix 1 points puts
PutsFor None setting points puts = puts ≡ []

-- for no other answer a file is put
abbrev pub Puts : Option (List ℕ) → TheSetting → Done → List Put → Type 0
Puts cert setting (Swept points) puts = PutsFor cert setting points puts
Puts cert setting done puts = puts ≡ []
