use Rattle.std.proofs.Common.{◌≡◌, ◌*◌, ◌≤◌, fold, length, take}
use Rattle.lagrange_bound.specs.inner.SlotBySlot as inner
use Rattle.lagrange_bound.proofs.price_lists.push_parts.Given as goal

abbrev pub invariant-loop-part : goal.invariant-loop-part
invariant-loop-part l =
    record {
      lists : inner.lists_of l.lists ≡ fold inner.with_part inner.no_lists (take l.part-index l.parts);
      places : length l.lists.bases.items ≤ l.part-index * 2048;
      numbers : length l.lists.owners.items ≤ l.part-index * 2048;
    }
