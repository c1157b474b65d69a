use Rattle.std.proofs.Common.{◌≡◌, map, take}
use Rattle.access_paths.specs.Labels.{slot_columns}
use Rattle.access_paths.proofs.block_labels.columns_of_slots.Given as goal

abbrev pub invariant-loop-slot : goal.invariant-loop-slot
invariant-loop-slot l = l.items.items ≡ map (slot_columns l.cat) (take l.slot-index l.block.slots)
