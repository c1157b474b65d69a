-- What `whatif` answers: what each statement costs under a configuration, and all together, with the configuration's size.
use Rattle.std.specs.Prelude.{◌≡◌, ℕ, List, length, Some}
use Rattle.adv_base.specs.declared.setting.Config.{Config}
use Rattle.adv_base.specs.Configs.{config_pages}
use Rattle.adv_base.specs.Settings.{TheSetting}
use Rattle.plan_model.specs.Totals as totals
use Rattle.report.specs.declared.done.Done.{Done}
use Rattle.report.specs.declared.done.Done.TheVariants.{Priced}
use Rattle.report.specs.declared.done.Prices.{Prices}
use Rattle.report.specs.declared.done.Refusal.{Refusal}
use Rattle.report.specs.declared.done.Refusal.TheVariants.{BadConf, TooManyCombinations}
use Rattle.programme_parts.specs.Combinations.{AreFew, IsFirstBeyond}
use Rattle.cophy_core.specs.Confs.{IsConf, IsConfFault}

-- no line of the configuration breaks a rule, and that statement is the first with more combinations of interesting orders
-- than a cache of plans takes
pub record HasStatementOfTooMany (setting : TheSetting) (conf : List ℕ) (number count : ℕ) : Type 0 where
  pub config : Config
  pub config_is : IsConf (length setting.shapes) conf config
  pub first : IsFirstBeyond setting.cat setting.statements number count

-- a line of the configuration; a statement with too many combinations
abbrev pub Refuses : List ℕ → TheSetting → Refusal → Type 0
Refuses conf setting (BadConf line) = IsConfFault (length setting.shapes) conf line
Refuses conf setting (TooManyCombinations number count) = HasStatementOfTooMany setting conf number count
Refuses conf setting why = ⊥

-- The bytes give a configuration, and the size is its pages. Each statement has few enough combinations. Each cost is that of
-- a least plan over its indexes and those that exist, and of the upkeep of both, and the total has the weights.
pub record ArePricesUnder (setting : TheSetting) (conf : List ℕ) (prices : Prices) : Type 0 where
  pub config : Config
  pub config_is : IsConf (length setting.shapes) conf config
  pub few : AreFew setting.cat setting.statements
  pub size_is : prices.size ≡ Some (config_pages setting.cat setting.shapes config)
  pub costs_are : totals.AreCosts setting.cat setting.shapes config setting.statements prices.costs
  pub total_is : prices.total ≡ totals.weighted_sum setting.statements prices.costs

-- prices with a size
abbrev pub Gives : List ℕ → TheSetting → Done → Type 0
Gives conf setting (Priced prices) = ArePricesUnder setting conf prices
Gives conf setting done = ⊥
