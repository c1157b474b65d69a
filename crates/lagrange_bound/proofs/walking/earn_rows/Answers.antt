use Rattle.std.proofs.Common.{◌≡◌, ◌∙◌, ℕ, suc, ◌+◌, ◌-◌, ◌*◌, ◌≤◌, length, take, drop, get_or, slice_index_or, refl, ap, arith, rules}
use Rattle.std.specs.Prelude.{sum_by}
use Rattle.std.proofs.lemmas.List.Sums.{sum_by_more}
use Rattle.bip_model.specs.declared.slot_part.SlotPart.{SlotPart}
use Rattle.bip_model.proofs.Pricing.{get-some}
use Rattle.lagrange_bound.specs.Bounds.{grant_rents}
use Rattle.lagrange_bound.proofs.EarnedRents.{slots-step, grant_rents-own}
use Rattle.lagrange_bound.proofs.RentedPrices.{rows-step, row-own}
use Rattle.lagrange_bound.proofs.walking.earn_rows.Goals as goal

pub earn_row-requires-clause-fits : goal.earn_row-requires-clause-fits
earn_row-requires-clause-fits c = λ a below.
    let slot : SlotPart = c.index-slots-s.result in
    let few : c.loop-s.next + c.len.result - c.loop-s.next ≡ length slot.grants = omega (arith, c.len.ensures) in
    let all : c.args.weight * grant_rents (suc a) slot.grants (take (c.loop-s.next + c.len.result - c.loop-s.next) (drop c.loop-s.next c.args.rents.now)) ≡ c.args.weight * grant_rents (suc a) slot.grants (drop c.loop-s.next c.args.rents.now) =
    ap (λ (n : ℕ). c.args.weight * n) (grant_rents-own (suc a) (c.loop-s.next + c.len.result - c.loop-s.next) slot.grants (drop c.loop-s.next c.args.rents.now) few) in
    let step =
    slots-step c.args.slots.now c.args.rents.now c.loop-s.next c.loop-s.s c.len.result slot slot.grants c.args.weight a (slice_index_or c.loop-s.earned a 0) _ _ c.loop-s-test.true
    c.index-slots-s.is c.len.ensures refl (c.loop-s.invariant.rest a below) refl in
    omega (arith, all, step, c.requires.fits a below)

pub loop-s-preserved : goal.loop-s-preserved
loop-s-preserved c =
    let few : length c.args.slots.now ≤ 8 = c.requires.few in
    let slot : SlotPart = c.index-slots-s.result in
    let more : sum_by (λ slot. length slot.grants) (take (c.loop-s.s + 1) c.args.slots.now) ≡ sum_by (λ slot. length slot.grants) (take c.loop-s.s c.args.slots.now) + length (get_or c.args.slots.now c.loop-s.s slot).grants =
    sum_by_more (λ (slot : SlotPart). length slot.grants) c.args.slots.now c.loop-s.s slot c.loop-s-test.true in
    let own : length slot.grants ≡ length (get_or c.args.slots.now c.loop-s.s slot).grants = ap (λ (x : SlotPart). length x.grants) c.index-slots-s.is in
    let count : c.loop-s.next + c.len.result - c.loop-s.next ≡ length slot.grants = omega (arith, c.len.ensures) in
    let row = row-own c.args.config.now slot (drop c.loop-s.next c.args.rents.now) (c.loop-s.next + c.len.result - c.loop-s.next) c.earn_row.new.row count c.earn_row.ensures.row in
    record {
      are =
          rows-step c.args.config.now c.args.slots.now c.args.rents.now c.loop-s.rows c.args.at c.loop-s.next c.loop-s.s slot _ (omega (arith, c.loop-s.invariant.count, few, c.loop-s-test.true))
          (get-some c.args.slots.now c.loop-s.s slot c.loop-s-test.true c.index-slots-s.is) c.loop-s.invariant.next c.loop-s.invariant.are row;
      count = search (rules, c.loop-s.invariant.count);
      next = omega (arith, more, own, c.len.ensures, c.loop-s.invariant.next);
      rest = λ a below.
          let all = grant_rents-own (suc a) (c.loop-s.next + c.len.result - c.loop-s.next) slot.grants (drop c.loop-s.next c.args.rents.now) count in
          slots-step c.args.slots.now c.args.rents.now c.loop-s.next c.loop-s.s c.len.result slot slot.grants c.args.weight a _ _ _ c.loop-s-test.true c.index-slots-s.is
          c.len.ensures refl (c.loop-s.invariant.rest a below) (c.earn_row.ensures.earned a below ∙ ap (λ (n : ℕ). slice_index_or c.loop-s.earned a 0 + c.args.weight * n) all);
    }

pub returns-clause-rows : goal.returns-clause-rows
returns-clause-rows c = λ s slot below found. c.loop-s.invariant.are s slot (omega (arith, below, c.loop-s-test.false)) found
