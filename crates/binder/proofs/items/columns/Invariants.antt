use Rattle.std.proofs.Common.{◌≡◌, drop}
use Rattle.adv_base.specs.Readings.{in_turn, put_behind}
use Rattle.binder.specs.Items.{columns_of}
use Rattle.binder.specs.Scopes.{meaning}
use Rattle.binder.specs.View.{names_of}
use Rattle.binder.proofs.items.columns.Given as goal

-- the columns so far, with those of the rest behind them, are all columns
abbrev pub invariant-loop-name : goal.invariant-loop-name
invariant-loop-name l = in_turn (put_behind (meaning (names_of l.scope))) l.items.items (drop l.name-index l.uses) ≡ columns_of (names_of l.scope) l.uses
