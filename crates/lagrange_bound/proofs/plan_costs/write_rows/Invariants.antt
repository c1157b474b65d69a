use Rattle.std.proofs.Common.{◌≡◌, ◌+◌, length, drop}
use Rattle.lagrange_bound.specs.Rented as rented
use Rattle.lagrange_bound.specs.inner.Rows as rows_spec
use Rattle.lagrange_bound.proofs.plan_costs.write_rows.Given as goal

abbrev pub invariant-loop-s : goal.invariant-loop-s
invariant-loop-s l =
    record {
      are : rows_spec.AreRows l.config l.slots (drop l.at l.rents) l.s l.rows;
      count : length l.rows ≡ 8;
      next : l.next ≡ l.at + rented.grants_before l.slots l.s;
    }
