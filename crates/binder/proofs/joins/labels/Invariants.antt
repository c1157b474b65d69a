use Rattle.std.proofs.Common.{◌≡◌, drop, fold, length}
use Rattle.binder.specs.inner.Labels.{relabelled, labels_of}
use Rattle.binder.specs.Plain.{plain_edges}
use Rattle.binder.proofs.joins.labels.Given as goal

-- the labels so far, behind the edges of the rest, are those behind all edges
abbrev pub invariant-loop-edge : goal.invariant-loop-edge
invariant-loop-edge l = record {
  so_far : fold relabelled l.labels.items (plain_edges (drop l.edge-index l.edges)) ≡ labels_of l.slots (plain_edges l.edges);
  len : length l.labels.items ≡ l.slots;
}
