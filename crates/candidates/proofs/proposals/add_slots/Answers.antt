use Rattle.std.proofs.Common.{◌≡◌, ℕ, ◌+◌, [], List, drop, ap, sym, ◌∙◌, arith}
use Rattle.std.specs.List.{flat_map, enumerate_from}
use Rattle.adv_base.specs.declared.workload.parts.Slot.{Slot}
use Rattle.candidates.specs.Candidates.{with_proposal}
use Rattle.candidates.specs.inner.Known.{as_proposals, with_all}
use Rattle.candidates.specs.Proposals.{Proposal, slot_proposals}
use Rattle.candidates.proofs.KnownLemmas.{fold-numbered_here}
use Rattle.candidates.proofs.proposals.add_slots.Goals as goal

pub slots-preserved : goal.slots-preserved
slots-preserved c =
    let at = c.slots.at in
    let slots : List Slot = c.args.slots.now in
    let proposals : ℕ × Slot → List Proposal = λ numbered. slot_proposals c.args.cat.now c.args.block.now numbered.0 numbered.1 in
    let step = fold-numbered_here (with_proposal []) proposals (as_proposals c.slots.known.keys) slots at c.index-slots-at.result (omega arith) c.index-slots-at.is in
    let added : as_proposals c.add_slot.new.known.keys ≡ with_all (as_proposals c.slots.known.keys) (proposals (at, c.index-slots-at.result)) = cc (c.in_ok-add_slot.ensures) in
    ap (λ (known : List Proposal). with_all known (flat_map proposals (enumerate_from (at + 1) (drop (at + 1) slots)))) added ∙ sym step ∙ c.slots.invariant
