use Rattle.std.proofs.Common.{◌≡◌, ℕ, ◌+◌, ◌*◌, ◌<◌, ◌≤◌, List, [], All, drop, length}
use Rattle.std.specs.Prelude.{slice_index_or}
use Rattle.adv_base.specs.declared.limits.TheConstants.{MOST_CANDIDATES}
use Rattle.lagrange_bound.specs.CandidateUses.{weighted_rents}
use Rattle.lagrange_bound.specs.inner.CostsByLists.{owned_rents}
use Rattle.lagrange_bound.proofs.uses.push_part.Given as goal

abbrev pub invariant-loop-i : goal.invariant-loop-i
invariant-loop-i l =
    record {
      long : length l.all.items ≡ MOST_CANDIDATES;
      within : (a n : ℕ) → l.at + length l.owners ≤ n → All (λ grant. grant.number < n) (slice_index_or l.initial.all.items a []) → All (λ grant. grant.number < n) (slice_index_or l.all.items a []);
      bring : (a : ℕ) (rents : List ℕ) → l.at + length l.owners ≤ length rents →
          weighted_rents (slice_index_or l.all.items a []) rents + l.weight * owned_rents a (drop l.i l.owners) (drop (l.at + l.i) rents)
          ≡ weighted_rents (slice_index_or l.initial.all.items a []) rents + l.weight * owned_rents a l.owners (drop l.at rents);
    }
