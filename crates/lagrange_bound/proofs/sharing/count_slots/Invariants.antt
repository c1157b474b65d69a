use Rattle.std.proofs.Common.{◌≡◌, ℕ, suc, ◌+◌, ◌<◌, drop, slice_index_or}
use Rattle.std.specs.Prelude.{sum_by}
use Rattle.adv_base.specs.declared.limits.TheConstants.{MOST_CANDIDATES}
use Rattle.lagrange_bound.specs.Rents.{slot_uses}
use Rattle.lagrange_bound.proofs.sharing.count_slots.Given as goal

abbrev pub invariant-loop-slot : goal.invariant-loop-slot
invariant-loop-slot l =
    (a : ℕ) → a < MOST_CANDIDATES →
    slice_index_or l.uses a 0 + sum_by (slot_uses (suc a)) (drop l.slot-index l.slots) ≡ slice_index_or l.initial.uses a 0 + sum_by (slot_uses (suc a)) l.slots
