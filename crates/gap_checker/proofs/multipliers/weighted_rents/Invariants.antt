use Rattle.std.proofs.Common.{◌≡◌, ◌*◌, ◌≤◌, take}
use Rattle.adv_base.specs.declared.limits.TheConstants.{MOST_RENT, MOST_SLOTS, MOST_WEIGHT}
use Rattle.plan_model.specs.Lagrangian as lagrangian
use Rattle.gap_checker.specs.Views as views
use Rattle.gap_checker.proofs.multipliers.weighted_rents.Given as goal

abbrev pub invariant-loop-i : goal.invariant-loop-i
invariant-loop-i l =
    record {
      sum_is : l.sum ≡ lagrangian.weighted_rents (λ q s. views.rent_in l.rents.entries.now q s l.candidate) l.table 1 (take l.i l.setting.statements.now);
      most : l.sum ≤ l.i * (MOST_WEIGHT * (MOST_SLOTS * MOST_RENT));
    }
