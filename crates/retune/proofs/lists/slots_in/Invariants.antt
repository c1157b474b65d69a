use Rattle.std.proofs.Common.{◌≡◌, ◌*◌, ◌≤◌, take}
use Rattle.adv_base.specs.declared.limits.TheConstants.{MOST_SLOTS}
use Rattle.retune.specs.Steps.{slots_in_all}
use Rattle.retune.proofs.lists.slots_in.Given as goal

-- the slots of the statements so far
abbrev pub invariant-loop-statement : goal.invariant-loop-statement
invariant-loop-statement l =
    record {
      slots : l.slots ≡ slots_in_all (take l.statement-index l.statements);
      most : l.slots ≤ l.statement-index * MOST_SLOTS;
    }
