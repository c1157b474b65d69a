use Rattle.std.proofs.Common.{◌≡◌, ℕ, ◌*◌, ◌<◌, ◌≤◌, length, take, slice_index_or}
use Rattle.std.specs.Prelude.{sum_by}
use Rattle.adv_base.specs.declared.limits.TheConstants.{MOST_CANDIDATES, MOST_SLOTS}
use Rattle.bip_model.specs.Values.{part_grants}
use Rattle.lagrange_bound.proofs.cheaper.write_starts.Given as goal

abbrev pub invariant-loop-i : goal.invariant-loop-i
invariant-loop-i l =
    record {
      place_each : length l.starts ≡ length l.parts;
      place : l.at ≡ sum_by part_grants (take l.i l.parts);
      most : l.at ≤ l.i * (MOST_SLOTS * MOST_CANDIDATES);
      done : (k : ℕ) → k < l.i → slice_index_or l.starts k 0 ≡ sum_by part_grants (take k l.parts);
    }
