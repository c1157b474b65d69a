-- What `cost` answers: what each statement costs over the indexes that exist, and all together.
use Rattle.std.specs.Prelude.{◌≡◌, None}
use Rattle.adv_base.specs.Settings.{TheSetting}
use Rattle.plan_model.specs.Totals as totals
use Rattle.report.specs.declared.done.Done.{Done}
use Rattle.report.specs.declared.done.Done.TheVariants.{Priced}
use Rattle.report.specs.declared.done.Prices.{Prices}

-- there is no configuration, so no size; each cost is that of a least plan and of upkeep, and the total has the weights
pub record ArePrices (setting : TheSetting) (prices : Prices) : Type 0 where
  pub no_size : prices.size ≡ None
  pub costs_are : totals.AreCosts setting.cat setting.shapes totals.no_candidates setting.statements prices.costs
  pub total_is : prices.total ≡ totals.weighted_sum setting.statements prices.costs

-- prices
abbrev pub Gives : TheSetting → Done → Type 0
Gives setting (Priced prices) = ArePrices setting prices
Gives setting done = ⊥
