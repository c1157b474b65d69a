use Rattle.std.proofs.Common.{◌≡◌, ◌∙◌, ◌<◌, ◌≤◌, List, length, get_or, ap, subst}
use Rattle.std.proofs.lemmas.List.{take_all}
use Rattle.bip_model.specs.declared.slot_part.SlotPart.{SlotPart}
use Rattle.lagrange_bound.proofs.CarriedCosts.{AreAlike, SlotsAlike, all-more}
use Rattle.lagrange_bound.proofs.carrying.differs.Goals as goal

pub loop-slot-preserved : goal.loop-slot-preserved
loop-slot-preserved c =
    let slot : SlotPart = c.slot-item.result in
    let within : c.loop-slot.slot-index < length c.args.part.now.slots = subst (λ (ss : List SlotPart). c.loop-slot.slot-index < length ss) c.as_slice-slot-items.ensures c.loop-slot-test.true in
    let is : slot ≡ get_or c.args.part.now.slots c.loop-slot.slot-index slot = c.slot-item.is ∙ ap (λ (ss : List SlotPart). get_or ss c.loop-slot.slot-index slot) c.as_slice-slot-items.ensures in
    let alike : AreAlike c.args.from.now c.args.to.now slot.grants = subst (AreAlike c.args.from.now c.args.to.now) c.as_slice.ensures (c.differs_at.ensures c.if-differs_at.false) in
    all-more (λ (x : SlotPart). AreAlike c.args.from.now c.args.to.now x.grants) c.args.part.now.slots c.loop-slot.slot-index slot within is c.loop-slot.invariant alike

pub returns : goal.returns
returns c = λ e.
    let past : length c.args.part.now.slots ≤ c.loop-slot.slot-index = subst (λ (ss : List SlotPart). length ss ≤ c.loop-slot.slot-index) c.as_slice-slot-items.ensures c.loop-slot-test.false in
    subst (SlotsAlike c.args.from.now c.args.to.now) (take_all c.loop-slot.slot-index c.args.part.now.slots past) c.loop-slot.invariant
