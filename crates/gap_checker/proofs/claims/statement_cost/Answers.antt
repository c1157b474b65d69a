use Rattle.std.proofs.Common.{arith}
use Rattle.adv_base.specs.Settings.{the_setting}
use Rattle.gap_checker.proofs.Lists.{unrented-plan}
use Rattle.gap_checker.proofs.claims.statement_cost.Goals as goal

pub returns-clause-cost : goal.returns-clause-cost
returns-clause-cost c =
    record {
      plan = c.in_ok-plan.plan;
      plan_is = unrented-plan (the_setting c.args.setting.now) c.args.config.now c.args.statement.now.work c.in_ok-plan.plan c.in_ok-plan.ensures.least;
      sum = omega (arith, c.kept_upkeep-kept.ensures.exact, c.config_upkeep.ensures.exact);
    }
