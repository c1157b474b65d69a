use Rattle.std.proofs.Common.{◌≡◌, ◌+◌, ◌*◌, ◌≤◌, ℕ, List, take}
use Rattle.plan_model.specs.Totals as totals
use Rattle.plan_model.specs.declared.plan.TheConstants.{MOST_COST}
use Rattle.adv_base.specs.declared.limits.TheConstants.{MOST_CANDIDATES, MOST_INDEXES, MOST_UPKEEP, MOST_WEIGHT}
use Rattle.adv_base.specs.Settings.{the_setting}
use Rattle.gap_checker.specs.inner.Parts.{AreDesks}
use Rattle.gap_checker.proofs.claims.total_cost.Given as goal

abbrev pub invariant-statements : goal.invariant-statements
invariant-statements l =
    record {
      desks_are : AreDesks (the_setting l.setting) l.desks;
      costs : List ℕ;
      costs_are : totals.AreCosts l.setting.cat.now l.setting.shapes.now l.config (take l.i l.setting.statements.now) costs;
      sum_is : l.total ≡ totals.weighted_sum (take l.i l.setting.statements.now) costs;
      small : l.total ≤ l.i * (MOST_WEIGHT * (MOST_COST + (MOST_INDEXES + MOST_CANDIDATES) * MOST_UPKEEP));
    }
