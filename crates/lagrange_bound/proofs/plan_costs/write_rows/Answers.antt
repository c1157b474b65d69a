use Rattle.std.proofs.Common.{◌≡◌, ◌+◌, ◌-◌, ◌≤◌, length, take, drop, get_or, ap, arith, rules}
use Rattle.std.specs.Prelude.{sum_by}
use Rattle.std.proofs.lemmas.List.Sums.{sum_by_more}
use Rattle.bip_model.specs.declared.slot_part.SlotPart.{SlotPart}
use Rattle.bip_model.proofs.Pricing.{get-some}
use Rattle.lagrange_bound.proofs.RentedPrices.{rows-step, row-own}
use Rattle.lagrange_bound.proofs.plan_costs.write_rows.Goals as goal

pub loop-s-preserved : goal.loop-s-preserved
loop-s-preserved c =
    let few : length c.args.slots.now ≤ 8 = c.requires.few in
    let slot : SlotPart = c.index-slots-s.result in
    let more : sum_by (λ slot. length slot.grants) (take (c.loop-s.s + 1) c.args.slots.now) ≡ sum_by (λ slot. length slot.grants) (take c.loop-s.s c.args.slots.now) + length (get_or c.args.slots.now c.loop-s.s slot).grants =
    sum_by_more (λ (slot : SlotPart). length slot.grants) c.args.slots.now c.loop-s.s slot c.loop-s-test.true in
    let own : length slot.grants ≡ length (get_or c.args.slots.now c.loop-s.s slot).grants = ap (λ (x : SlotPart). length x.grants) c.index-slots-s.is in
    let count : c.loop-s.next + c.len.result - c.loop-s.next ≡ length slot.grants = omega (arith, c.len.ensures) in
    let row = row-own c.args.config.now slot (drop c.loop-s.next c.args.rents.now) (c.loop-s.next + c.len.result - c.loop-s.next) c.write_from.new.row count c.write_from.ensures in
    record {
      are =
          rows-step c.args.config.now c.args.slots.now c.args.rents.now c.loop-s.rows c.args.at c.loop-s.next c.loop-s.s slot _ (omega (arith, c.loop-s.invariant.count, few, c.loop-s-test.true))
          (get-some c.args.slots.now c.loop-s.s slot c.loop-s-test.true c.index-slots-s.is) c.loop-s.invariant.next c.loop-s.invariant.are row;
      count = search (rules, c.loop-s.invariant.count);
      next = omega (arith, more, own, c.len.ensures, c.loop-s.invariant.next);
    }

pub returns-clause-rows : goal.returns-clause-rows
returns-clause-rows c = λ s slot below found. c.loop-s.invariant.are s slot (omega (arith, below, c.loop-s-test.false)) found
