use Rattle.std.proofs.Common.{◌≡◌, ◌*◌, ◌≤◌, take}
use Rattle.std.specs.Prelude.{All}
use Rattle.adv_base.specs.declared.limits.TheConstants.{MOST_RENT, MOST_SLOTS, MOST_STATEMENTS, MOST_WEIGHT}
use Rattle.gap_checker.specs.inner.Earnings as earning
use Rattle.gap_checker.proofs.multipliers.earned.Given as goal

abbrev pub invariant-loop-a : goal.invariant-loop-a
invariant-loop-a l =
    record {
      are : l.list.items ≡ earning.earned_from (earning.rent_of l.rents) l.setting.statements.now 1 (take l.a l.setting.shapes.now);
      most : All (λ sum. sum ≤ MOST_STATEMENTS * (MOST_WEIGHT * (MOST_SLOTS * MOST_RENT))) l.list.items;
    }
