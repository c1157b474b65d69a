use Rattle.std.proofs.Common.{◌≡◌, map, take}
use Rattle.access_paths.proofs.block_labels.slot_names.Given as goal

abbrev pub invariant-loop-slot : goal.invariant-loop-slot
invariant-loop-slot l = l.items.items ≡ map (λ slot. slot.name) (take l.slot-index l.block.slots)
