use Rattle.std.proofs.Common.{◌≡◌, ◌*◌, length}
use Rattle.lagrange_bound.specs.inner.Rows as rows_spec
use Rattle.lagrange_bound.proofs.plan_costs.write_from.Given as goal

abbrev pub invariant-loop-pair : goal.invariant-loop-pair
invariant-loop-pair l =
    record {
      long : length l.row ≡ 256;
      done : rows_spec.IsRowBelow l.config l.slot l.rents (2 * l.pair) l.row;
    }
