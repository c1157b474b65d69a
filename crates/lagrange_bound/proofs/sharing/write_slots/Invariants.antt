use Rattle.std.proofs.Common.{◌≡◌, ◌+◌, ◌++◌, take}
use Rattle.std.specs.List.{flat_map}
use Rattle.lagrange_bound.specs.Rented.{grants_before}
use Rattle.lagrange_bound.specs.Rents.{slot_list}
use Rattle.lagrange_bound.proofs.sharing.write_slots.Given as goal

abbrev pub invariant-loop-slot : goal.invariant-loop-slot
invariant-loop-slot l =
    record {
      next : l.next ≡ l.at + grants_before l.slots l.slot-index;
      front : take l.next l.rents ≡ take l.at l.initial.rents ++ flat_map (slot_list l.programme l.mu l.weight) (take l.slot-index l.slots);
    }
