use Rattle.std.proofs.Common.{◌≡◌, ℕ, suc, ◌+◌, ◌*◌, ◌<◌, drop, length, slice_index_or}
use Rattle.adv_base.specs.declared.limits.TheConstants.{MOST_CANDIDATES}
use Rattle.lagrange_bound.specs.Bounds as bounds
use Rattle.lagrange_bound.specs.Rented as rented
use Rattle.lagrange_bound.specs.inner.Rows as rows_spec
use Rattle.lagrange_bound.proofs.walking.earn_rows.Given as goal

abbrev pub invariant-loop-s : goal.invariant-loop-s
invariant-loop-s l =
    record {
      are : rows_spec.AreRows l.config l.slots (drop l.at l.rents) l.s l.rows;
      count : length l.rows ≡ 8;
      next : l.next ≡ l.at + rented.grants_before l.slots l.s;
      rest : (a : ℕ) → a < MOST_CANDIDATES →
          slice_index_or l.earned a 0 + l.weight * bounds.slot_rents (suc a) (drop l.s l.slots) (drop l.next l.rents)
          ≡ slice_index_or l.initial.earned a 0 + l.weight * bounds.slot_rents (suc a) l.slots (drop l.at l.rents);
    }
