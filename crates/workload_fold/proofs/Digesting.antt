-- Alike statements have one digest.
use Rattle.std.proofs.Common.{◌≡◌, ℕ, Bool, true, false, ◌≢◌, refl, sym, ap, ◌∙◌}
use Rattle.std.specs.Prelude.{fold}
use Rattle.adv_base.specs.declared.catalogue.Catalogue.{Catalogue}
use Rattle.adv_base.specs.declared.workload.Work.{Work}
use Rattle.adv_base.specs.declared.workload.block.Block.{Block}
use Rattle.workload_fold.specs.Alike.{is_alike}
use Rattle.workload_fold.specs.inner.Digests.{mixed, with_slot, with_pred, with_edge, with_items, with_group, with_block, digest_of}
use Rattle.workload_fold.proofs.Pairs.{pairs_fold}
use Rattle.workload_fold.proofs.SameBlocks.{SameSlot, SameEdge, SamePred, SameBlocks}
use Rattle.workload_fold.proofs.Costing.{alike_works}

same_block : (cat : Catalogue) (a b : Block) (digest : ℕ) → SameBlocks cat a b → with_block cat a digest ≡ with_block cat b digest
unfolding with_block
same_block cat a b digest same =
    let slots : fold with_slot digest a.slots ≡ fold with_slot digest b.slots =
    pairs_fold SameSlot with_slot with_slot (λ z x y h i. fold mixed (mixed z (h.table i)) (h.needed i)) digest a.slots b.slots same.slots in
    let own = fold with_slot digest a.slots in
    let preds : fold (with_pred cat a) own a.preds ≡ fold (with_pred cat b) own b.preds =
    pairs_fold (SamePred cat a b) (with_pred cat a) (with_pred cat b) (λ z p q h i. mixed (mixed (mixed (mixed z (h.slot i)) (h.column i)) (h.number i)) (h.part i)) own a.preds b.preds same.preds in
    let so_far : fold (with_pred cat a) own a.preds ≡ fold (with_pred cat b) (fold with_slot digest b.slots) b.preds =
    preds ∙ ap (λ (z : ℕ). fold (with_pred cat b) z b.preds) slots in
    let before = fold (with_pred cat a) own a.preds in
    let edges : fold with_edge before a.edges ≡ fold with_edge before b.edges =
    pairs_fold SameEdge with_edge with_edge (λ z x y h i. mixed (mixed (mixed (mixed z (h.left i)) (h.left_column i)) (h.right i)) (h.right_column i)) before a.edges b.edges same.edges in
    let parts : fold with_edge before a.edges ≡ fold with_edge (fold (with_pred cat b) (fold with_slot digest b.slots) b.preds) b.edges =
    edges ∙ ap (λ (z : ℕ). fold with_edge z b.edges) so_far in
    λ i. with_items (with_group (parts i) (same.group i)) (same.order i)

pub same_digest : (cat : Catalogue) (p q : Work) → is_alike cat p q ≡ true → digest_of cat p ≡ digest_of cat q
same_digest cat p q h =
    alike_works cat (λ x y. digest_of cat x ≡ digest_of cat y) (λ a b same. same_block cat a b 1 same)
    (λ a b set same. ap (λ (z : ℕ). fold mixed z set) (same_block cat a b 2 same))
    (λ a b same. same_block cat a b 3 same) (λ t rows. refl) p q h

-- so statements with different digests aren't alike
pub told_apart : (cat : Catalogue) (p q : Work) (d e : ℕ) → d ≡ digest_of cat p → e ≡ digest_of cat q → d ≢ e → false ≡ is_alike cat p q
told_apart cat p q d e first second apart = by_case (is_alike cat p q) refl
  where
    by_case : (b : Bool) → is_alike cat p q ≡ b → false ≡ b
    by_case false h = refl
    by_case true h = absurd (apart (first ∙ same_digest cat p q h ∙ sym second))
