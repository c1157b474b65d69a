use Rattle.std.proofs.Common.{◌≡◌, ◌∙◌, ◌+◌, ℕ, length, map, take, get_or, sym, ap, arith}
use Rattle.std.specs.Prelude.{sum_by}
use Rattle.std.proofs.lemmas.List.Sums.{sum_by_more}
use Rattle.bip_model.specs.declared.slot_part.SlotPart.{SlotPart}
use Rattle.lagrange_bound.specs.Rents.{grant_rent, slot_list}
use Rattle.lagrange_bound.proofs.WrittenRents.{listed-more}
use Rattle.lagrange_bound.proofs.sharing.write_slots.Goals as goal

pub loop-slot-preserved : goal.loop-slot-preserved
loop-slot-preserved c =
    let slot : SlotPart = c.slot-item.result in
    let more : sum_by (λ slot. length slot.grants) (take (c.loop-slot.slot-index + 1) c.args.slots.now) ≡ sum_by (λ slot. length slot.grants) (take c.loop-slot.slot-index c.args.slots.now) + length (get_or c.args.slots.now c.loop-slot.slot-index slot).grants =
    sum_by_more (λ (slot : SlotPart). length slot.grants) c.args.slots.now c.loop-slot.slot-index slot c.loop-slot-test.true in
    let own : length slot.grants ≡ length (get_or c.args.slots.now c.loop-slot.slot-index slot).grants = ap (λ (x : SlotPart). length x.grants) c.slot-item.is in
    let count : c.len-next.result ≡ length c.as_slice.result.now = c.len-next.ensures ∙ ap length (sym c.as_slice.ensures) in
    record {
      next = omega (arith, more, own, c.len-next.ensures, c.loop-slot.invariant.next);
      front =
          listed-more (slot_list c.args.programme.now c.args.mu c.args.weight) c.args.slots.now c.loop-slot.rents c.write_grants.new.rents (take c.args.at c.args.rents.now)
          (map (grant_rent c.args.programme.now c.args.mu c.args.weight) c.as_slice.result.now) c.loop-slot.next (c.loop-slot.next + c.len-next.result) c.loop-slot.slot-index slot c.loop-slot-test.true c.slot-item.is
          (ap (map (grant_rent c.args.programme.now c.args.mu c.args.weight)) c.as_slice.ensures) c.loop-slot.invariant.front
          (ap (λ (n : ℕ). take (c.loop-slot.next + n) c.write_grants.new.rents) count ∙ c.write_grants.ensures);
    }
