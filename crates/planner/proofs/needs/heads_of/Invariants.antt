use Rattle.std.proofs.Common.{◌≡◌, ℕ, ◌<◌, length, None, slice_index_or}
use Rattle.planner.specs.Fronts.{first_item, asked}
use Rattle.planner.proofs.needs.heads_of.Given as goal

abbrev pub invariant-loop-f : goal.invariant-loop-f
invariant-loop-f l =
    record {
      count : length l.heads.items ≡ l.f;
      each : (k : ℕ) → k < l.f → slice_index_or l.heads.items k None ≡ first_item (asked l.list l.fronts k);
    }
