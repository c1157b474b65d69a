use Rattle.std.proofs.Common.{ℕ, List, length, fold, ap, ◌∙◌}
use Rattle.std.proofs.lemmas.List.FromFn.{length-range_with_len}
use Rattle.binder.specs.inner.Labels.{relabelled, labels_of}
use Rattle.binder.specs.Plain.{plain_edges}
use Rattle.binder.proofs.joins.labels.Goals as goal

pub loop-edge-init : goal.loop-edge-init
unfolding labels_of
loop-edge-init c = record {
  so_far = ap (λ (ls : List ℕ). fold relabelled ls (plain_edges c.args.edges.now)) c.in_ok-labels.ensures;
  len = ap length c.in_ok-labels.ensures ∙ length-range_with_len 0 c.args.slots;
}
