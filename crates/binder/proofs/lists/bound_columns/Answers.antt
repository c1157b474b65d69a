use Rattle.binder.proofs.Marked.{Marks-pred}
use Rattle.binder.proofs.lists.bound_columns.Goals as goal

pub loop-pred-preserved : goal.loop-pred-preserved
loop-pred-preserved c =
    Marks-pred c.args.preds.now c.loop-pred.pred-index c.pred-item.result c.loop-pred.marked.keys c.mark_bound.new.marked.keys c.loop-pred-test.true c.pred-item.is c.loop-pred.invariant c.in_ok-mark_bound.ensures
