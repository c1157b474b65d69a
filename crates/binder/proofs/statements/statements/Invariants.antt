use Rattle.std.proofs.Common.{◌≡◌, ◌≤◌, drop, length}
use Rattle.binder.specs.Statements.{with_statement, bound_of}
use Rattle.binder.specs.View.{plain_bound}
use Rattle.binder.proofs.statements.statements.Given as goal
use Rattle.adv_base.specs.declared.limits.TheConstants.{MOST_SLOTS_IN_ALL}
use Rattle.adv_base.specs.Readings.{in_turn}

-- the statements so far, with those of the rest behind them, are all statements
abbrev pub invariant-loop-statement : goal.invariant-loop-statement
invariant-loop-statement l = record {
  so_far : in_turn (with_statement l.directory.cat.now l.text) (plain_bound l.so_far) (drop l.statement-index l.parsed) ≡ bound_of l.directory.cat.now l.text l.parsed;
  few : l.so_far.slots ≤ MOST_SLOTS_IN_ALL;
  count : length l.so_far.statements ≡ l.statement-index;
}
