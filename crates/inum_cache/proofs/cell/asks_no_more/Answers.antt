use Rattle.std.proofs.Common.{ap, sym, ◌∙◌}
use Rattle.adv_base.specs.Items.{Order}
use Rattle.planner.specs.Fronts.{begins_test}
use Rattle.inum_cache.specs.inner.Cells.{asks}
use Rattle.inum_cache.proofs.Fitting.{fits-not}
use Rattle.inum_cache.proofs.cell.asks_no_more.Goals as goal

pub returns-then-not-has_front : goal.returns-then-not-has_front
returns-then-not-has_front c =
    let needs = asks c.args.choices.now.orders c.args.other.now in
    let slot = c.loop-slot.slot in
    sym (fits-not c.args.choices.now.orders needs c.args.one.now slot (ap (begins_test (needs slot)) (sym c.order-front.ensures) ∙ ap (λ (o : Order). begins_test o c.order-front.result.now) (sym c.order.ensures) ∙ sym c.if-not-has_front.ensures))
