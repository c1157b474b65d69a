use Rattle.std.proofs.Common.{◌+◌, List, sym, subst}
use Rattle.adv_base.specs.Items.{Order}
use Rattle.adv_base.specs.Settings.{the_setting}
use Rattle.bip_model.specs.declared.slot_part.SlotPart.{SlotPart}
use Rattle.programme_parts.specs.inner.Prices.{ArePriced, IsSlotPriced}
use Rattle.programme_parts.proofs.SlotParts.{priced-none, priced-more}
use Rattle.programme_parts.proofs.parts.slot_parts.Goals as goal

pub loop-slot-init : goal.loop-slot-init
loop-slot-init c = rw c.new-parts.ensures.items (priced-none (the_setting c.args.setting.now) c.args.block.now c.args.cache.now)

pub loop-slot-preserved : goal.loop-slot-preserved
loop-slot-preserved c =
    let setting = c.args.setting.now in
    let block = c.args.block.now in
    let k = c.loop-slot.slot in
    let own = c.in_ok-own.own in
    let is = subst (λ (orders : List Order). IsSlotPriced setting.cat.now block setting.shapes.now k orders own) c.orders-orders.ensures c.in_ok-own.ensures in
    subst (λ (parts : List SlotPart). ArePriced (the_setting setting) block c.args.cache.now (k + 1) parts) (sym c.in_ok-push.ensures.items)
    (priced-more (the_setting setting) block c.args.cache.now k c.loop-slot.parts.items own c.loop-slot.invariant is)
