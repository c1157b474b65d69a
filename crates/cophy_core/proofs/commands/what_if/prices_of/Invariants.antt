use Rattle.std.proofs.Common.{◌≡◌, take}
use Rattle.adv_base.specs.Settings.{the_setting}
use Rattle.plan_model.specs.Totals as totals
use Rattle.cophy_core.specs.inner.Parts.{ArePartsFrom}
use Rattle.cophy_core.proofs.commands.what_if.prices_of.Given as goal

-- the costs and the sum so far are those of the statements so far, and the parts those of the statements behind them
abbrev pub invariant-statements : goal.invariant-statements
invariant-statements l = record {
  costs_are : totals.AreCosts l.setting.cat.now l.setting.shapes.now l.config (take l.at l.setting.statements.now) l.tally.costs.items;
  total_is : l.tally.total ≡ totals.weighted_sum (take l.at l.setting.statements.now) l.tally.costs.items;
  parts_are : ArePartsFrom (the_setting l.setting) l.at l.parts;
}
