use Rattle.std.proofs.Common.{◌≡◌, take}
use Rattle.std.specs.Prelude.{fold}
use Rattle.workload_fold.specs.inner.Digests.{with_edge}
use Rattle.workload_fold.proofs.digests.with_edges.Given as goal

abbrev pub invariant-edges : goal.invariant-edges
invariant-edges l = l.so_far ≡ fold with_edge l.digest (take l.edge-index l.edges)
