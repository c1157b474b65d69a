use Rattle.std.proofs.Common.{◌≡◌, ℕ, suc, ◌+◌, ◌*◌, ◌<◌, drop, slice_index_or}
use Rattle.adv_base.specs.declared.limits.TheConstants.{MOST_CANDIDATES}
use Rattle.lagrange_bound.specs.Bounds as bounds
use Rattle.lagrange_bound.specs.Rented as rented
use Rattle.lagrange_bound.proofs.earnings.earn_slots.Given as goal

abbrev pub invariant-loop-slot : goal.invariant-loop-slot
invariant-loop-slot l =
    record {
      next : l.next ≡ l.at + rented.grants_before l.slots l.slot-index;
      rest : (a : ℕ) → a < MOST_CANDIDATES →
          slice_index_or l.earned a 0 + l.weight * bounds.slot_rents (suc a) (drop l.slot-index l.slots) (drop l.next l.rents)
          ≡ slice_index_or l.initial.earned a 0 + l.weight * bounds.slot_rents (suc a) l.slots (drop l.at l.rents);
    }
