use Rattle.std.proofs.Common.{◌≡◌, drop}
use Rattle.std.specs.Cmp.Lexicographic.{pointwise}
use Rattle.workload_fold.specs.Alike.{alike_slots}
use Rattle.workload_fold.proofs.sameness.alike_slots.Given as goal

abbrev pub invariant-places : goal.invariant-places
invariant-places l = pointwise alike_slots (drop l.at l.first) (drop l.at l.second) ≡ pointwise alike_slots l.first l.second
