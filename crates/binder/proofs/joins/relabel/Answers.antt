use Rattle.std.proofs.Common.{ℕ, get_or, arith}
use Rattle.std.proofs.lemmas.List.Edits.{map_over_more}
use Rattle.std.proofs.lemmas.Grind.{common_steps}
use Rattle.binder.specs.inner.Labels.{renamed}
use Rattle.binder.proofs.joins.relabel.Goals as goal

pub loop-label-preserved : goal.loop-label-preserved
loop-label-preserved c =
    let f = λ (x : ℕ). renamed (get_or c.args.labels.now c.args.edge.now.left 0) (get_or c.args.labels.now c.args.edge.now.right 0) x in
    let more = map_over_more f c.args.labels.now c.loop-label.labels c.loop-label.label-index (get_or c.loop-label.labels c.loop-label.label-index 0) c.loop-label-test.true c.loop-label.invariant in
    grind (arith, common_steps, more)
