use Rattle.std.proofs.Common.{◌≡◌, ◌*◌, ◌≤◌, take}
use Rattle.std.specs.Prelude.{sum_by}
use Rattle.adv_base.specs.Limits.Settings.{slot_count}
use Rattle.adv_base.specs.declared.limits.TheConstants.{MOST_SLOTS}
use Rattle.cophy_core.proofs.commands.bench.slots_in_all.Given as goal

-- the slots of the statements so far
abbrev pub invariant-loop-statement : goal.invariant-loop-statement
invariant-loop-statement l =
    record {
      sum : l.slots ≡ sum_by (λ statement. slot_count statement.work) (take l.statement-index l.setting.statements.now);
      most : l.slots ≤ l.statement-index * MOST_SLOTS;
    }
