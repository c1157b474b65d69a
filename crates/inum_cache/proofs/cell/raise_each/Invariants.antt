use Rattle.inum_cache.specs.inner.Cells.{template_at, IsRaised, SomeBelow, Takes}
use Rattle.inum_cache.proofs.cell.raise_each.Given as goal

abbrev pub invariant-loop-template : goal.invariant-loop-template
invariant-loop-template l =
    Takes l.choices.orders (SomeBelow l.template-index (λ i t. IsRaised (template_at l.from i) l.price t)) l.initial.cell.items l.cell.items
