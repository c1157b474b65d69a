use Rattle.std.proofs.Common.{◌≡◌, ◌+◌, ◌++◌, drop, map}
use Rattle.lagrange_bound.specs.inner.SlotBySlot as inner
use Rattle.lagrange_bound.proofs.price_lists.push_grants.Given as goal

abbrev pub invariant-loop-i : goal.invariant-loop-i
invariant-loop-i l =
    record {
      owners : l.owners.items ++ map inner.owner (drop l.i l.grants) ≡ l.initial.owners.items ++ map inner.owner l.grants;
      list : l.list.items ++ inner.slot_prices l.slot.base (drop l.i l.grants) l.place (l.first + l.i) ≡ l.initial.list.items ++ inner.slot_prices l.slot.base l.grants l.place l.first;
    }
