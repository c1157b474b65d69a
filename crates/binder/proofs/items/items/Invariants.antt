use Rattle.std.proofs.Common.{◌≡◌, drop}
use Rattle.adv_base.specs.Readings.{in_turn, put_behind}
use Rattle.binder.specs.Items.{item_of, items_of}
use Rattle.binder.specs.View.{names_of}
use Rattle.binder.proofs.items.items.Given as goal

-- the items so far, with those of the rest behind them, are all items
abbrev pub invariant-loop-one : goal.invariant-loop-one
invariant-loop-one l = in_turn (put_behind (item_of (names_of l.scope))) l.items.items (drop l.one-index l.written) ≡ items_of (names_of l.scope) l.written
