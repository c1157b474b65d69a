use Rattle.inum_cache.specs.inner.Cells.{template_at, JoinGivesOf, SomeBelow, Takes}
use Rattle.inum_cache.proofs.cell.join_each.Given as goal

abbrev pub invariant-loop-one : goal.invariant-loop-one
invariant-loop-one l =
    Takes l.choices.orders (SomeBelow l.one-index (λ i. JoinGivesOf (template_at l.left i) l.right l.price)) l.initial.cell.items l.cell.items
