use Rattle.std.proofs.Common.{◌≡◌, ◌∙◌, ℕ, suc, ◌+◌, ◌-◌, ◌*◌, length, take, drop, get_or, slice_index_or, refl, ap, arith}
use Rattle.std.specs.Prelude.{sum_by}
use Rattle.std.proofs.lemmas.List.Sums.{sum_by_more}
use Rattle.bip_model.specs.declared.slot_part.SlotPart.{SlotPart}
use Rattle.lagrange_bound.specs.Bounds.{grant_rents}
use Rattle.lagrange_bound.proofs.EarnedRents.{slots-step, grant_rents-own}
use Rattle.lagrange_bound.proofs.earnings.earn_slots.Goals as goal

pub earn_grants-requires-clause-fits : goal.earn_grants-requires-clause-fits
earn_grants-requires-clause-fits c = λ a below.
    let few : c.loop-slot.next + c.len.result - c.loop-slot.next ≡ length c.as_slice.result.now = omega (arith, c.len.ensures, ap length c.as_slice.ensures) in
    let all : c.args.weight * grant_rents (suc a) c.as_slice.result.now (take (c.loop-slot.next + c.len.result - c.loop-slot.next) (drop c.loop-slot.next c.args.rents.now)) ≡ c.args.weight * grant_rents (suc a) c.as_slice.result.now (drop c.loop-slot.next c.args.rents.now) =
    ap (λ (n : ℕ). c.args.weight * n) (grant_rents-own (suc a) (c.loop-slot.next + c.len.result - c.loop-slot.next) c.as_slice.result.now (drop c.loop-slot.next c.args.rents.now) few) in
    let step =
    slots-step c.args.slots.now c.args.rents.now c.loop-slot.next c.loop-slot.slot-index c.len.result c.slot-item.result c.as_slice.result.now c.args.weight a (slice_index_or c.loop-slot.earned a 0) _ _ c.loop-slot-test.true
    c.slot-item.is c.len.ensures c.as_slice.ensures (c.loop-slot.invariant.rest a below) refl in
    omega (arith, all, step, c.requires.fits a below)

pub loop-slot-preserved : goal.loop-slot-preserved
loop-slot-preserved c =
    let slot : SlotPart = c.slot-item.result in
    let more : sum_by (λ slot. length slot.grants) (take (c.loop-slot.slot-index + 1) c.args.slots.now) ≡ sum_by (λ slot. length slot.grants) (take c.loop-slot.slot-index c.args.slots.now) + length (get_or c.args.slots.now c.loop-slot.slot-index slot).grants =
    sum_by_more (λ (slot : SlotPart). length slot.grants) c.args.slots.now c.loop-slot.slot-index slot c.loop-slot-test.true in
    let own : length slot.grants ≡ length (get_or c.args.slots.now c.loop-slot.slot-index slot).grants = ap (λ (x : SlotPart). length x.grants) c.slot-item.is in
    let few : c.loop-slot.next + c.len.result - c.loop-slot.next ≡ length c.as_slice.result.now = omega (arith, c.len.ensures, ap length c.as_slice.ensures) in
    record {
      next = omega (arith, more, own, c.len.ensures, c.loop-slot.invariant.next);
      rest = λ a below.
          let all = grant_rents-own (suc a) (c.loop-slot.next + c.len.result - c.loop-slot.next) c.as_slice.result.now (drop c.loop-slot.next c.args.rents.now) few in
          slots-step c.args.slots.now c.args.rents.now c.loop-slot.next c.loop-slot.slot-index c.len.result slot c.as_slice.result.now c.args.weight a _ _ _ c.loop-slot-test.true c.slot-item.is
          c.len.ensures c.as_slice.ensures (c.loop-slot.invariant.rest a below) (c.earn_grants.ensures a below ∙ ap (λ (n : ℕ). slice_index_or c.loop-slot.earned a 0 + c.args.weight * n) all);
    }
