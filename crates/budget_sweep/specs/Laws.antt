-- Theorems about curves.
use Rattle.std.specs.Prelude.{◌≡◌, ℕ, ◌≤◌, List, Some, slice_get, pos, ◌≤ℤ◌, ◌<ℤ◌}
use Rattle.adv_base.specs.declared.catalogue.Catalogue.{Catalogue}
use Rattle.adv_base.specs.declared.catalogue.index.IndexShape.{IndexShape}
use Rattle.adv_base.specs.declared.setting.Config.{Config}
use Rattle.adv_base.specs.Configs.{IsConfigOf, Fits}
use Rattle.adv_base.specs.Settings.{TheSetting, KeepsLimits}
use Rattle.plan_model.specs.Totals.{IsTotal}
use Rattle.bip_model.specs.declared.point.Point.{Point}
use Rattle.bip_model.specs.Laws.{BoundsAll}
use Rattle.budget_sweep.specs.Curves.{IsCurve}

-- a set that fits a budget fits a larger one
abbrev pub FitsLarger : Type 0
FitsLarger =
    (cat : Catalogue) (shapes : List IndexShape) (config : Config) (smaller larger : ℕ) → smaller ≤ larger →
    Fits cat shapes config smaller → Fits cat shapes config larger

-- some set of candidates that fits costs so much
pub record IsReached (setting : TheSetting) (budget cost : ℕ) : Type 0 where
  pub config : Config
  pub members : IsConfigOf setting.shapes config
  pub fits : Fits setting.cat setting.shapes config budget
  pub cost_is : IsTotal setting.cat setting.shapes config setting.statements cost

-- At each point some set that fits costs `best`; every set that fits costs at least `low`, and so does that one.
pub record IsBoundedAt (setting : TheSetting) (point : Point) : Type 0 where
  pub reached : IsReached setting point.budget point.best
  pub bounded : BoundsAll setting point.budget point.best point.low

abbrev pub PointsBound : Type 0
PointsBound =
    (setting : TheSetting) (first step count nodes : ℕ) (points : List Point) (i : ℕ) (point : Point) →
    KeepsLimits setting → IsCurve setting first step count nodes points → slice_get points i ≡ Some point → IsBoundedAt setting point

-- where more space is given, neither `best` nor `low` is higher
pub record IsNoHigher (smaller larger : Point) : Type 0 where
  pub budget : smaller.budget ≤ larger.budget
  pub best : larger.best ≤ smaller.best
  pub low : larger.low ≤ℤ smaller.low

abbrev pub CurvesFall : Type 0
CurvesFall =
    (setting : TheSetting) (first step count nodes : ℕ) (points : List Point) (i k : ℕ) (smaller larger : Point) →
    IsCurve setting first step count nodes points → i ≤ k → slice_get points i ≡ Some smaller → slice_get points k ≡ Some larger →
    IsNoHigher smaller larger

-- where `low` is below `best`, the point's own bound is below its own cost
abbrev pub GapsAreOwn : Type 0
GapsAreOwn =
    (setting : TheSetting) (first step count nodes : ℕ) (points : List Point) (i : ℕ) (point : Point) →
    IsCurve setting first step count nodes points → slice_get points i ≡ Some point → point.low <ℤ pos point.best →
    point.answer.bound <ℤ pos point.answer.cost
