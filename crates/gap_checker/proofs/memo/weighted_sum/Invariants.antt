use Rattle.std.proofs.Common.{◌≡◌, ◌*◌, ◌≤◌, take}
use Rattle.adv_base.specs.declared.limits.TheConstants.{MOST_WEIGHT}
use Rattle.plan_model.specs.Totals as totals
use Rattle.plan_model.specs.declared.plan.TheConstants.{MOST_COST}
use Rattle.gap_checker.proofs.memo.weighted_sum.Given as goal

abbrev pub invariant-loop-i : goal.invariant-loop-i
invariant-loop-i l =
    record {
      sum_is : l.sum ≡ totals.weighted_sum (take l.i l.setting.statements.now) (take l.i l.costs);
      small : l.sum ≤ l.i * (MOST_WEIGHT * MOST_COST);
    }
