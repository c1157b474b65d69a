use Rattle.std.proofs.Common.{◌≡◌, ℕ, ◌<◌, slice_index_or}
use Rattle.planner.specs.declared.front.Front.TheVariants.{Any, Need}
use Rattle.planner.proofs.needs.find_need.Given as goal

abbrev pub invariant-loop-i : goal.invariant-loop-i
invariant-loop-i l = (k : ℕ) → k < l.i → ¬ (slice_index_or l.fronts k Any ≡ Need l.item)
