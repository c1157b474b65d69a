use Rattle.std.proofs.Common.{ℕ, List, [], ◌∷◌, ◌++◌, sym, ap, ◌∙◌}
use Rattle.binder.proofs.Ranges.{range_more}
use Rattle.binder.proofs.joins.own_labels.Goals as goal

pub loop-slot-preserved : goal.loop-slot-preserved
loop-slot-preserved c = c.in_ok-push.ensures.items ∙ ap (λ (xs : List ℕ). xs ++ c.loop-slot.slot ∷ []) c.loop-slot.invariant ∙ sym (range_more c.loop-slot.slot)
