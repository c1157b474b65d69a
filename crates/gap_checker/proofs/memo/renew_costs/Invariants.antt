use Rattle.std.proofs.Common.{◌≡◌, ◌≤◌, length}
use Rattle.std.specs.Prelude.{All}
use Rattle.adv_base.specs.Settings.{the_setting}
use Rattle.plan_model.specs.declared.plan.TheConstants.{MOST_COST}
use Rattle.gap_checker.specs.inner.Charges.{charge_of}
use Rattle.gap_checker.specs.inner.Memos as memos
use Rattle.gap_checker.specs.inner.Parts.{AreDesks}
use Rattle.gap_checker.proofs.memo.renew_costs.Given as goal

abbrev pub invariant-statements : goal.invariant-statements
invariant-statements l =
    record {
      desks_are : AreDesks (the_setting l.setting) l.desks;
      count : length l.costs ≡ length l.setting.statements.now;
      most : All (λ cost. cost ≤ MOST_COST) l.costs;
      renewed : memos.AreRenewed (the_setting l.setting) l.terms.config.now (charge_of l.terms) l.changes l.i l.costs;
    }
