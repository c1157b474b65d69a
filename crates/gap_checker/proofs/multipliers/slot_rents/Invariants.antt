use Rattle.std.proofs.Common.{◌≡◌, ◌*◌, ◌≤◌, take}
use Rattle.adv_base.specs.declared.limits.TheConstants.{MOST_RENT}
use Rattle.plan_model.specs.Lagrangian as lagrangian
use Rattle.gap_checker.specs.Views as views
use Rattle.gap_checker.proofs.multipliers.slot_rents.Given as goal

abbrev pub invariant-loop-s : goal.invariant-loop-s
invariant-loop-s l =
    record {
      sum_is : l.sum ≡ lagrangian.slot_rents (λ s. views.rent_in l.rents.entries.now l.statement s l.candidate) l.table 0 (take l.s l.slots);
      most : l.sum ≤ l.s * MOST_RENT;
    }
