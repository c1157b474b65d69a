use Rattle.std.proofs.Common.{subst}
use Rattle.adv_base.specs.declared.setting.Config.{Config}
use Rattle.plan_model.specs.Totals as totals
use Rattle.cophy_core.proofs.Blocks.{has_none}
use Rattle.cophy_core.proofs.commands.cost.cost.Goals as goal

pub returns-clause-gives : goal.returns-clause-gives
returns-clause-gives c =
    let setting = c.args.setting.now in
    let prices = c.in_ok-prices.prices in
    let Priced : Config → Type 0 = λ config. totals.AreCosts setting.cat.now setting.shapes.now config setting.statements.now prices.costs in
    record {
      no_size = c.in_ok-prices.ensures.no_size;
      costs_are = subst Priced (has_none c.none-none.result c.none-none.ensures) c.in_ok-prices.ensures.costs;
      total_is = c.in_ok-prices.ensures.sum;
    }
