use Rattle.std.proofs.Common.{◌≡◌, ◌∙◌, ◌+◌, ◌++◌, ℕ, List, length, map, get_or, take, drop, sym, ap, append-nil, refl, arith}
use Rattle.bip_model.specs.declared.grant.Grant.{Grant}
use Rattle.bip_model.specs.declared.slot_part.SlotPart.{SlotPart}
use Rattle.bip_model.specs.Views.{slot_places}
use Rattle.certificate.specs.Answers.{entries_of}
use Rattle.certificate.specs.inner.Writing.{grant_place, entries_text}
use Rattle.certificate.proofs.WriteLaws.{slots-turn, slots-end, sum-turn, turn-over}
use Rattle.certificate.proofs.sets.push_slots.Goals as goal

pub slots-preserved : goal.slots-preserved
slots-preserved c =
    let s = c.slots.s in
    let q = c.args.statement in
    let slots = c.args.slots.now in
    let slot = get_or slots s c.index-slots-s.result in
    let rents = c.slots.rest.now in
    let grants : c.as_slice-grants.result.now ≡ slot.grants = c.as_slice-grants.ensures in
    let front : c.split_at.result.0.now ≡ take (length slot.grants) rents = c.split_at.ensures.front ∙ ap (λ (gs : List Grant). take (length gs) rents) grants in
    let back : c.split_at.result.1.now ≡ drop (length slot.grants) rents = c.split_at.ensures.back ∙ ap (λ (gs : List Grant). drop (length gs) rents) grants in
    let count = sum-turn (λ (x : SlotPart). length x.grants) slots s slot c.index-slots-s.result c.slots-test.true refl in
    let turn = slots-turn q s slots slot c.index-slots-s.result rents c.slots-test.true refl in
    let own : entries_text (entries_of (map (grant_place q s) c.as_slice-grants.result.now) c.split_at.result.0.now) ≡ entries_text (entries_of (map (grant_place q s) slot.grants) (take (length slot.grants) rents)) =
    (λ i. entries_text (entries_of (map (grant_place q s) (grants i)) (front i))) in
    let more : entries_text (entries_of (slot_places q (s + 1) (drop (s + 1) slots)) c.split_at.result.1.now) ≡ entries_text (entries_of (slot_places q (s + 1) (drop (s + 1) slots)) (drop (length slot.grants) rents)) =
    ap (λ (rs : List ℕ). entries_text (entries_of (slot_places q (s + 1) (drop (s + 1) slots)) rs)) back in
    record {
      left = omega (arith, count, c.slots.invariant.left, c.split_at.ensures.back_len, ap length grants);
      text = turn-over c.slots.out.items c.push_grants.new.out.items _ _ _ _ _ c.in_ok-push_grants.ensures own more turn ∙ c.slots.invariant.text;
    }

pub returns : goal.returns
returns c =
    let end = slots-end c.args.statement c.slots.s c.slots.s c.args.slots.now c.slots.rest.now c.slots-test.false in
    sym (append-nil c.slots.out.items) ∙ ap (λ (xs : List ℕ). c.slots.out.items ++ xs) (sym end) ∙ c.slots.invariant.text
