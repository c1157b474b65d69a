use Rattle.std.proofs.Common.{take, []}
use Rattle.binder.specs.Marks.{Marks}
use Rattle.binder.specs.Plain.{plain_preds}
use Rattle.binder.proofs.lists.bound_columns.Given as goal

-- what the predicates so far bind is marked
abbrev pub invariant-loop-pred : goal.invariant-loop-pred
invariant-loop-pred l = Marks (plain_preds (take l.pred-index l.preds)) [] l.marked.keys
