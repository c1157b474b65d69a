use Rattle.std.proofs.Common.{◌≡◌, false, take}
use Rattle.std.specs.Prelude.{All}
use Rattle.retune.specs.inner.Renewing.{has_changed}
use Rattle.retune.proofs.tables.Changed.touches.Given as goal

-- none of the slots so far
abbrev pub invariant-loop-slot : goal.invariant-loop-slot
invariant-loop-slot l = All (λ slot. has_changed l.self slot.table ≡ false) (take l.slot-index l.block.slots)
