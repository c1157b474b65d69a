use Rattle.std.proofs.Common.{◌≡◌, ℕ, drop, length, slice_index_or}
use Rattle.lagrange_bound.specs.inner.CostsByLists.{least_at}
use Rattle.lagrange_bound.proofs.costs_by_lists.write_least.Given as goal

abbrev pub invariant-loop-i : goal.invariant-loop-i
invariant-loop-i l =
    record {
      long : length l.least ≡ length l.prices.bases.items;
      least : (p : ℕ) →
          least_at l.config l.prices.owners.items l.rents p (slice_index_or l.least p 0) (drop l.i l.prices.list.items)
          ≡ least_at l.config l.prices.owners.items l.rents p (slice_index_or l.prices.bases.items p 0) l.prices.list.items;
    }
