use Rattle.std.proofs.Common.{◌≡◌, ◌∙◌, ◌+◌, ◌≤◌, ℕ, [], length, take, get_or, sym, ap, arith, rules}
use Rattle.std.specs.Prelude.{sum_by}
use Rattle.std.specs.List.{flat_map}
use Rattle.std.proofs.lemmas.List.{take_all}
use Rattle.std.proofs.lemmas.List.Sums.{sum_by_more}
use Rattle.bip_model.specs.declared.part.Part.{Part}
use Rattle.bip_model.specs.declared.slot_part.SlotPart.{SlotPart}
use Rattle.bip_model.specs.Values.{part_grants}
use Rattle.lagrange_bound.specs.Rents.{slot_list, part_list}
use Rattle.lagrange_bound.proofs.WrittenRents.{listed-more}
use Rattle.lagrange_bound.proofs.sharing.write_rents.Goals as goal

pub loop-part-preserved : goal.loop-part-preserved
loop-part-preserved c =
    let part : Part = c.part-item.result in
    let more : sum_by part_grants (take (c.loop-part.part-index + 1) c.as_slice-parts.result.now) ≡ sum_by part_grants (take c.loop-part.part-index c.as_slice-parts.result.now) + part_grants (get_or c.as_slice-parts.result.now c.loop-part.part-index part) =
    sum_by_more part_grants c.as_slice-parts.result.now c.loop-part.part-index part c.loop-part-test.true in
    let own : part_grants part ≡ part_grants (get_or c.as_slice-parts.result.now c.loop-part.part-index part) = ap part_grants c.part-item.is in
    let slots : sum_by (λ slot. length slot.grants) c.as_slice.result.now ≡ part_grants part = ap (sum_by (λ (slot : SlotPart). length slot.grants)) c.as_slice.ensures in
    let count : c.part_grants-at.result ≡ sum_by (λ slot. length slot.grants) c.as_slice.result.now = c.part_grants-at.ensures.exact ∙ sym slots in
    record {
      place = omega (arith, more, own, c.part_grants-at.ensures.exact, c.loop-part.invariant.place);
      front =
          listed-more (part_list c.args.programme.now c.args.mu) c.as_slice-parts.result.now c.loop-part.rents c.write_slots.new.rents []
          (flat_map (slot_list c.args.programme.now c.args.mu part.weight) c.as_slice.result.now) c.loop-part.at (c.loop-part.at + c.part_grants-at.result) c.loop-part.part-index part c.loop-part-test.true c.part-item.is
          (ap (flat_map (slot_list c.args.programme.now c.args.mu part.weight)) c.as_slice.ensures) c.loop-part.invariant.front
          (ap (λ (n : ℕ). take (c.loop-part.at + n) c.write_slots.new.rents) count ∙ c.write_slots.ensures);
    }

pub returns : goal.returns
returns c =
    let all : take c.loop-part.part-index c.as_slice-parts.result.now ≡ c.as_slice-parts.result.now = take_all c.loop-part.part-index c.as_slice-parts.result.now c.loop-part-test.false in
    let long : length c.loop-part.rents ≡ length c.args.rents.now = search rules in
    let sum : sum_by part_grants (take c.loop-part.part-index c.as_slice-parts.result.now) ≡ sum_by part_grants c.args.programme.now.parts = ap (sum_by part_grants) (all ∙ c.as_slice-parts.ensures) in
    let whole : length c.loop-part.rents ≤ c.loop-part.at = omega (arith, long, sum, c.requires.one_each, c.loop-part.invariant.place) in
    sym (take_all c.loop-part.at c.loop-part.rents whole) ∙ c.loop-part.invariant.front ∙ ap (flat_map (part_list c.args.programme.now c.args.mu)) (all ∙ c.as_slice-parts.ensures)
