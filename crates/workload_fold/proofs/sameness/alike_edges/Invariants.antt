use Rattle.std.proofs.Common.{◌≡◌, drop}
use Rattle.std.specs.Cmp.Lexicographic.{pointwise}
use Rattle.workload_fold.specs.Alike.{alike_edges}
use Rattle.workload_fold.proofs.sameness.alike_edges.Given as goal

abbrev pub invariant-places : goal.invariant-places
invariant-places l = pointwise alike_edges (drop l.at l.first) (drop l.at l.second) ≡ pointwise alike_edges l.first l.second
