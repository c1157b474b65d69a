use Rattle.std.proofs.Common.{◌≡◌, ◌++◌, drop, length, take}
use Rattle.std.specs.Prelude.{sum_by}
use Rattle.lagrange_bound.specs.inner.CostsByLists.{listed_costs}
use Rattle.lagrange_bound.proofs.costs_by_lists.write_listed_costs.Given as goal

abbrev pub invariant-loop-i : goal.invariant-loop-i
invariant-loop-i l =
    record {
      long : length l.costs ≡ length l.parts;
      first : l.first ≡ sum_by (λ part. length part.slots) (take l.i l.parts);
      whole : take l.i l.costs ++ listed_costs (drop l.i l.parts) (drop l.first l.starts) l.least ≡ listed_costs l.parts l.starts l.least;
    }
