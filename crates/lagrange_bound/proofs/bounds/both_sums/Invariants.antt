use Rattle.std.proofs.Common.{◌≡◌, ℕ, suc, ◌+◌, ◌*◌, ◌<◌, ◌≤◌, drop, length, take, slice_index_or}
use Rattle.std.specs.Prelude.{sum_by}
use Rattle.adv_base.specs.declared.limits.TheConstants.{MOST_CANDIDATES, MOST_WEIGHT}
use Rattle.bip_model.specs.Values as values
use Rattle.lagrange_bound.specs.Bounds as bounds
use Rattle.lagrange_bound.specs.Rented as rented
use Rattle.lagrange_bound.proofs.bounds.both_sums.Given as goal

abbrev pub invariant-loop-part : goal.invariant-loop-part
invariant-loop-part l =
    record {
      place : l.at ≡ sum_by values.part_grants (take l.part-index l.parts);
      plans : l.plans + rented.weighted_costs (drop l.part-index l.parts) (rented.plan_costs l.config (drop l.part-index l.parts) (drop l.at l.rents))
          ≡ rented.weighted_costs l.parts (rented.plan_costs l.config l.parts l.rents);
      most : l.plans ≤ l.part-index * (MOST_WEIGHT * values.MOST_PLAN);
      count : length l.earned ≡ 256;
      earned : (a : ℕ) → a < MOST_CANDIDATES →
          slice_index_or l.earned a 0 + bounds.part_rents (suc a) (drop l.part-index l.parts) (drop l.at l.rents) ≡ bounds.part_rents (suc a) l.parts l.rents;
    }
