use Rattle.std.proofs.Common.{◌≡◌, ◌+◌, ◌*◌, ◌≤◌, fold, length, take}
use Rattle.lagrange_bound.specs.inner.SlotBySlot as inner
use Rattle.lagrange_bound.proofs.price_lists.push_part.Given as goal

abbrev pub invariant-loop-slot : goal.invariant-loop-slot
invariant-loop-slot l =
    record {
      lists : inner.lists_of l.lists ≡ fold inner.with_slot (inner.lists_of l.initial.lists) (take l.slot-index l.part.slots);
      places : length l.lists.bases.items ≤ length l.initial.lists.bases.items + l.slot-index * 256;
      numbers : length l.lists.owners.items ≤ length l.initial.lists.owners.items + l.slot-index * 256;
    }
