use Rattle.std.proofs.Common.{◌≡◌, ◌∙◌, ◌+◌, suc, List, drop, get_or, sym, ap, arith}
use Rattle.std.specs.Prelude.{sum_by}
use Rattle.std.proofs.lemmas.List.Sums.{sum_by-drop_more}
use Rattle.bip_model.specs.declared.part.Part.{Part}
use Rattle.bip_model.specs.declared.slot_part.SlotPart.{SlotPart}
use Rattle.lagrange_bound.specs.Rents.{slot_uses, part_uses}
use Rattle.lagrange_bound.proofs.EarnedRents.{nothing-yet}
use Rattle.lagrange_bound.proofs.WrittenRents.{more-uses, parts_uses-most}
use Rattle.lagrange_bound.proofs.sharing.count_uses.Goals as goal

pub loop-part-init : goal.loop-part-init
loop-part-init c = λ a below. nothing-yet 256 a (sum_by (part_uses (suc a)) c.args.parts.now)

pub count_slots-requires : goal.count_slots-requires
count_slots-requires c = λ a below.
    let split : sum_by (part_uses (suc a)) (drop c.loop-part.part-index c.args.parts.now) ≡ sum_by (slot_uses (suc a)) c.as_slice.result.now + sum_by (part_uses (suc a)) (drop (c.loop-part.part-index + 1) c.args.parts.now) =
    sum_by-drop_more (part_uses (suc a)) c.args.parts.now c.loop-part.part-index c.part-item.result c.loop-part-test.true
    ∙ ap (λ (p : Part). part_uses (suc a) p + sum_by (part_uses (suc a)) (drop (c.loop-part.part-index + 1) c.args.parts.now)) (sym c.part-item.is)
    ∙ ap (λ (ss : List SlotPart). sum_by (slot_uses (suc a)) ss + sum_by (part_uses (suc a)) (drop (c.loop-part.part-index + 1) c.args.parts.now)) (sym c.as_slice.ensures) in
    omega (arith, split, c.loop-part.invariant a below, parts_uses-most (suc a) c.args.parts.now, c.requires.few)

pub loop-part-preserved : goal.loop-part-preserved
loop-part-preserved c = λ a below.
    more-uses (part_uses (suc a)) c.args.parts.now c.loop-part.part-index c.part-item.result (get_or c.loop-part.uses a 0) _ _ c.loop-part-test.true c.part-item.is (c.loop-part.invariant a below)
    (c.count_slots.ensures a below ∙ ap (λ (ss : List SlotPart). get_or c.loop-part.uses a 0 + sum_by (slot_uses (suc a)) ss) c.as_slice.ensures)
