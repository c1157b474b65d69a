use Rattle.std.proofs.Common.{◌≡◌, ◌∙◌, false, get_or, length, sym, ap, subst, arith}
use Rattle.std.specs.Prelude.{All}
use Rattle.std.proofs.lemmas.List.{take_all}
use Rattle.std.proofs.lemmas.List.Elements.{All-more}
use Rattle.adv_base.specs.declared.workload.parts.Slot.{Slot}
use Rattle.retune.specs.inner.Renewing.{has_changed}
use Rattle.retune.proofs.tables.Changed.touches.Goals as goal

pub loop-slot-preserved : goal.loop-slot-preserved
loop-slot-preserved c =
    let slots = c.args.block.now.slots in
    let at = c.loop-slot.slot-index in
    let item : Slot = c.slot-item.result in
    let is : item ≡ get_or slots at item = cc (c.slot-item.is, c.as_slice-slot-items.ensures) in
    All-more (λ (s : Slot). has_changed c.args.self.now s.table ≡ false) slots at item (omega (arith, ap length c.as_slice-slot-items.ensures)) c.loop-slot.invariant
    (subst (λ (s : Slot). has_changed c.args.self.now s.table ≡ false) is (sym c.has.ensures ∙ c.if-has.false))

pub returns : goal.returns
returns c = λ same.
    subst (All (λ (s : Slot). has_changed c.args.self.now s.table ≡ false)) (take_all c.loop-slot.slot-index c.args.block.now.slots (omega (arith, ap length c.as_slice-slot-items.ensures))) c.loop-slot.invariant
