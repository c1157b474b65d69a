use Rattle.std.proofs.Common.{◌≡◌, ℕ, get_or, ap, subst}
use Rattle.std.specs.Prelude.{slice_index_or}
use Rattle.bip_model.specs.declared.slot_part.SlotPart.{SlotPart}
use Rattle.retune.specs.inner.Renewing.{IsSlotBehind, IsGrantBehind}
use Rattle.bip_model.specs.StandsFor.{AreEach}
use Rattle.retune.proofs.Behind.{slot-limits}
use Rattle.retune.proofs.Partly.{partly-more, partly-read, partly-written}
use Rattle.retune.proofs.narrowing.renumber_slots.Goals as goal

pub invariant_of-slot : goal.invariant_of-slot
invariant_of-slot c =
    let old : SlotPart = get_or c.loop-slot.slot-items c.loop-slot.slot-index c.slot-item.result in
    record { limits = slot-limits (λ (n : ℕ). slice_index_or c.args.numbers.now.of n 0) old.base old.grants c.renumber_grants.new.grants old.limits c.renumber_grants.ensures }

pub loop-slot-preserved : goal.loop-slot-preserved
loop-slot-preserved c =
    let number : ℕ → ℕ = λ n. slice_index_or c.args.numbers.now.of n 0 in
    let olds = c.deref_mut-slot-items.result.now in
    let news = c.loop-slot.slot-items in
    let at = c.loop-slot.slot-index in
    let d : SlotPart = c.slot-item.result in
    let read : get_or news at d ≡ get_or olds at d = partly-read (IsSlotBehind number) at olds news d c.loop-slot.invariant in
    partly-more (IsSlotBehind number) at olds news _ d c.loop-slot-test.true
    (record {
      base_is = ap (λ (own : SlotPart). own.base) read;
      grants_are = subst (λ (own : SlotPart). AreEach (IsGrantBehind number) own.grants c.renumber_grants.new.grants) read c.renumber_grants.ensures;
    })
    c.loop-slot.invariant

pub returns : goal.returns
returns c =
    partly-written (IsSlotBehind (λ n. slice_index_or c.args.numbers.now.of n 0)) c.loop-slot.slot-index c.slots.inside.items.len c.args.slots.now c.slots.inside.items.items
    c.deref_mut-slot-items.result.now c.loop-slot.slot-items c.slots.view_is c.deref_mut-slot-items.ensures.value c.slots.inside.items.ok.0 c.loop-slot-test.false c.loop-slot.invariant
