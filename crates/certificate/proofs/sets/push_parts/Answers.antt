use Rattle.std.proofs.Common.{◌≡◌, ◌∙◌, ◌+◌, ◌++◌, ℕ, List, take, drop, sym, ap, append-nil, arith}
use Rattle.bip_model.specs.Values.{part_grants}
use Rattle.bip_model.specs.Views.{slot_places, part_places}
use Rattle.certificate.specs.Answers.{entries_of}
use Rattle.certificate.specs.inner.Writing.{entries_text}
use Rattle.certificate.proofs.WriteLaws.{parts-turn, parts-end, sum-turn, turn-over}
use Rattle.certificate.proofs.sets.push_parts.Goals as goal

pub parts-preserved : goal.parts-preserved
parts-preserved c =
    let at = c.parts.at in
    let parts = c.args.parts.now in
    let part = c.index-parts-at.result in
    let rents = c.parts.rest.now in
    let slots : c.as_slice.result.now ≡ part.slots = c.as_slice.ensures in
    let size : c.part_grants.result ≡ part_grants part = c.part_grants.ensures.exact in
    let front : c.split_at.result.0.now ≡ take (part_grants part) rents = c.split_at.ensures.front ∙ ap (λ (n : ℕ). take n rents) size in
    let back : c.split_at.result.1.now ≡ drop (part_grants part) rents = c.split_at.ensures.back ∙ ap (λ (n : ℕ). drop n rents) size in
    let count = sum-turn part_grants parts at part part c.parts-test.true c.index-parts-at.is in
    let turn = parts-turn at parts part part rents c.parts-test.true c.index-parts-at.is in
    let own : entries_text (entries_of (slot_places part.statement 0 c.as_slice.result.now) c.split_at.result.0.now) ≡ entries_text (entries_of (slot_places part.statement 0 part.slots) (take (part_grants part) rents)) =
    (λ i. entries_text (entries_of (slot_places part.statement 0 (slots i)) (front i))) in
    let more : entries_text (entries_of (part_places (drop (at + 1) parts)) c.split_at.result.1.now) ≡ entries_text (entries_of (part_places (drop (at + 1) parts)) (drop (part_grants part) rents)) =
    ap (λ (rs : List ℕ). entries_text (entries_of (part_places (drop (at + 1) parts)) rs)) back in
    record {
      left = omega (arith, count, c.parts.invariant.left, c.split_at.ensures.back_len, size);
      text = turn-over c.parts.out.items c.push_slots.new.out.items _ _ _ _ _ c.in_ok-push_slots.ensures own more turn ∙ c.parts.invariant.text;
    }

pub returns : goal.returns
returns c =
    let end = parts-end c.parts.at c.args.parts.now c.parts.rest.now c.parts-test.false in
    sym (append-nil c.parts.out.items) ∙ ap (λ (xs : List ℕ). c.parts.out.items ++ xs) (sym end) ∙ c.parts.invariant.text
