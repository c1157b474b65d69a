use Rattle.std.proofs.Common.{◌≡◌, []}
use Rattle.inum_cache.specs.inner.Cells.{template_at, IsThin, SomeBelow, Takes}
use Rattle.inum_cache.proofs.cell.kept.Given as goal

abbrev pub invariant-loop-template : goal.invariant-loop-template
invariant-loop-template l =
    record {
      takes : Takes l.choices.orders (SomeBelow l.template-index (λ k t. template_at l.cell k ≡ t)) [] l.templates.items;
      thin : IsThin l.choices.orders l.templates.items;
    }
