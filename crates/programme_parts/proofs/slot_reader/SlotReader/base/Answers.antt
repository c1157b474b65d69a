use Rattle.std.proofs.Common.{◌≡◌, ◌∙◌, ◌+◌, [], ◌∷◌, ◌++◌, take, sym, ap, subst}
use Rattle.std.proofs.lemmas.List.{take_more}
use Rattle.adv_base.specs.Items.{Order}
use Rattle.programme_parts.specs.inner.Readers as reads
use Rattle.programme_parts.proofs.Reading.{bases-none, bases-more}
use Rattle.programme_parts.proofs.slot_reader.SlotReader.base.Goals as goal

pub loop-order-init : goal.loop-order-init
loop-order-init c = rw c.in_ok-prices.ensures.items (bases-none c.args.self.now.offers.now.slots.items c.args.self.now.slot)

pub loop-order-preserved : goal.loop-order-preserved
loop-order-preserved c =
    let reader = c.args.self.now in
    let orders = c.args.orders.now in
    let i = c.loop-order.order-index in
    let order : Order = c.order-item.result in
    let more : take (i + 1) orders ≡ take i orders ++ order ∷ [] = take_more orders i order c.loop-order-test.true ∙ ap (λ (o : Order). take i orders ++ o ∷ []) (sym c.order-item.is) in
    let own = subst (λ (o : Order). reads.IsBase reader o c.base_price.result) c.as_slice.ensures c.base_price.ensures in
    let next = bases-more reader.offers.now.slots.items reader.slot (take i orders) c.loop-order.prices.items order c.base_price.result c.loop-order.invariant own in
    rw (more, c.in_ok-push.ensures.items) next
