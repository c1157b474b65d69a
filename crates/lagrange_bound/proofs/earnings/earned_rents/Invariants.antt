use Rattle.std.proofs.Common.{◌≡◌, ℕ, suc, ◌+◌, ◌<◌, drop, length, take, slice_index_or}
use Rattle.std.specs.Prelude.{sum_by}
use Rattle.adv_base.specs.declared.limits.TheConstants.{MOST_CANDIDATES}
use Rattle.bip_model.specs.Values as values
use Rattle.lagrange_bound.specs.Bounds as bounds
use Rattle.lagrange_bound.proofs.earnings.earned_rents.Given as goal

abbrev pub invariant-loop-part : goal.invariant-loop-part
invariant-loop-part l =
    record {
      count : length l.earned ≡ 256;
      place : l.at ≡ sum_by values.part_grants (take l.part-index l.parts);
      rest : (a : ℕ) → a < MOST_CANDIDATES →
          slice_index_or l.earned a 0 + bounds.part_rents (suc a) (drop l.part-index l.parts) (drop l.at l.rents) ≡ bounds.part_rents (suc a) l.parts l.rents;
    }
