use Rattle.inum_cache.specs.inner.Cells.{template_at, IsJoined, SomeBelow, Takes}
use Rattle.inum_cache.proofs.cell.join_one.Given as goal

abbrev pub invariant-loop-other : goal.invariant-loop-other
invariant-loop-other l =
    Takes l.choices.orders (SomeBelow l.other-index (λ j t. IsJoined l.left (template_at l.right j) l.price t)) l.initial.cell.items l.cell.items
