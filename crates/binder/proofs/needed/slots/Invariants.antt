use Rattle.std.proofs.Common.{◌≡◌, ◌++◌, drop}
use Rattle.binder.specs.Needed.{slots_from}
use Rattle.binder.proofs.needed.slots.Given as goal

-- the slots so far, with those of the rest behind them, are all slots
abbrev pub invariant-loop-slot : goal.invariant-loop-slot
invariant-loop-slot l = l.slots.items ++ slots_from l.cat l.items l.mentions l.slot (drop l.slot l.sources) ≡ slots_from l.cat l.items l.mentions 0 l.sources
