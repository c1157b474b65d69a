use Rattle.std.proofs.Common.{◌≡◌, map, take}
use Rattle.access_paths.specs.Labels.{slot_words}
use Rattle.access_paths.proofs.block_labels.words_of_slots.Given as goal

abbrev pub invariant-loop-slot : goal.invariant-loop-slot
invariant-loop-slot l = l.items.items ≡ map (slot_words l.cat l.shapes l.config) (take l.slot-index l.block.slots)
