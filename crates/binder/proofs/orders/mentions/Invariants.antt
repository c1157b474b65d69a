use Rattle.std.proofs.Common.{◌≡◌, drop}
use Rattle.adv_base.specs.Readings.{in_turn}
use Rattle.binder.specs.Orders.{mention, mentions_from}
use Rattle.binder.specs.View.{names_of, list_of}
use Rattle.binder.proofs.orders.mentions.Given as goal

-- the columns so far, with those of the rest behind them, are all columns
abbrev pub invariant-loop-name : goal.invariant-loop-name
invariant-loop-name l = in_turn (mention (names_of l.list.scope.now) (list_of l.list)) l.so_far (drop l.name-index l.uses) ≡ mentions_from (names_of l.list.scope.now) (list_of l.list) l.fn.so_far l.uses
