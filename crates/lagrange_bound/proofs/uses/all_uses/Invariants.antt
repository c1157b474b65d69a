use Rattle.std.proofs.Common.{◌≡◌, ℕ, suc, ◌+◌, ◌<◌, List, [], All, drop, length, take}
use Rattle.std.specs.Prelude.{slice_index_or, sum_by}
use Rattle.adv_base.specs.declared.limits.TheConstants.{MOST_CANDIDATES}
use Rattle.bip_model.specs.Values.{part_grants}
use Rattle.lagrange_bound.specs.Bounds.{part_rents}
use Rattle.lagrange_bound.specs.CandidateUses.{weighted_rents}
use Rattle.lagrange_bound.proofs.uses.all_uses.Given as goal

abbrev pub invariant-loop-i : goal.invariant-loop-i
invariant-loop-i l =
    record {
      long : length l.all.items ≡ MOST_CANDIDATES;
      within : (a : ℕ) → All (λ grant. grant.number < sum_by part_grants l.parts) (slice_index_or l.all.items a []);
      bring : (a : ℕ) (rents : List ℕ) → length rents ≡ sum_by part_grants l.parts →
          weighted_rents (slice_index_or l.all.items a []) rents + part_rents (suc a) (drop l.i l.parts) (drop (sum_by part_grants (take l.i l.parts)) rents)
          ≡ part_rents (suc a) l.parts rents;
    }
