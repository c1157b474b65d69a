-- Alike blocks: their tables, distinct values, bound columns and predicates by kind.
use Rattle.std.proofs.Common.{◌≡◌, ℕ, ◌==◌, Bool, ◌&&◌, ◌||◌, length, Option, refl, ap, ◌∙◌}
use Rattle.std.specs.Prelude.{nat_lt, option_and_then}
use Rattle.adv_base.specs.declared.catalogue.Catalogue.{Catalogue}
use Rattle.adv_base.specs.declared.catalogue.table.Table.{Table}
use Rattle.adv_base.specs.declared.workload.block.Block.{Block}
use Rattle.adv_base.specs.declared.workload.parts.Edge.{Edge}
use Rattle.adv_base.specs.declared.workload.predicate.Pred.{Pred}
use Rattle.adv_base.specs.declared.workload.predicate.Test.{Test}
use Rattle.adv_base.specs.Lookups.{table_at, slot_table, slot_distinct, table_distinct}
use Rattle.adv_base.specs.Parts.{edge_part, tied_part}
use Rattle.adv_base.specs.Predicates.{is_equality, is_pred_on, preds_on, has_pred, is_bound}
use Rattle.adv_base.specs.Rows.{ties_back}
use Rattle.adv_base.specs.Sets.{has_slot}
use Rattle.workload_fold.proofs.Pairs.{Pairs, pairs_at, pairs_any, pairs_filter, pairs_long}
use Rattle.workload_fold.proofs.SameBlocks.{SameSlot, SameEdge, SamePred, SameBlocks, Agrees, equality_agrees}

module _ (cat : Catalogue) (a b : Block) (same : SameBlocks cat a b) where
  pub as_many : length a.slots ≡ length b.slots
  as_many = pairs_long SameSlot a.slots b.slots same.slots

  pub same_table : (s : ℕ) → slot_table cat a s ≡ slot_table cat b s
  same_table s =
      pairs_at SameSlot (option_and_then (λ slot. table_at cat slot.table)) (option_and_then (λ slot. table_at cat slot.table)) refl
      (λ x y h. ap (λ (n : ℕ). table_at cat n) h.table) a.slots b.slots same.slots s

  pub same_distinct : (s c : ℕ) → slot_distinct cat a s c ≡ slot_distinct cat b s c
  same_distinct s c = ap (λ (t : Option Table). option_and_then (λ table. table_distinct table c) t) (same_table s)

  pub same_edge_part : (x y : Edge) → SameEdge x y → edge_part cat a x ≡ edge_part cat b y
  unfolding edge_part
  same_edge_part x y h =
      (λ i. tied_part (same_distinct x.left x.left_column i) (same_distinct x.right x.right_column i))
      ∙ (λ i. tied_part (slot_distinct cat b (h.left i) (h.left_column i)) (slot_distinct cat b (h.right i) (h.right_column i)))

  agrees_on : (kind : Test → Bool) → Agrees cat a b kind → (s c : ℕ) → (p q : Pred) → SamePred cat a b p q → is_pred_on kind s c p ≡ is_pred_on kind s c q
  agrees_on kind agrees s c p q h =
      let k = agrees p q h in
      λ i. ((h.slot i == s) && (h.column i == c)) && k i

  pub same_has : (kind : Test → Bool) → Agrees cat a b kind → (s c : ℕ) → has_pred kind a.preds s c ≡ has_pred kind b.preds s c
  same_has kind agrees s c = pairs_any (SamePred cat a b) (is_pred_on kind s c) (is_pred_on kind s c) (agrees_on kind agrees s c) a.preds b.preds same.preds

  pub same_on : (kind : Test → Bool) → Agrees cat a b kind → (s c : ℕ) → Pairs (SamePred cat a b) (preds_on kind a.preds s c) (preds_on kind b.preds s c)
  same_on kind agrees s c = pairs_filter (SamePred cat a b) (is_pred_on kind s c) (is_pred_on kind s c) (agrees_on kind agrees s c) a.preds b.preds same.preds

  pub same_bound : (s c : ℕ) → is_bound a.preds s c ≡ is_bound b.preds s c
  same_bound s c = same_has is_equality (equality_agrees cat a b) s c

-- an edge ties back as an alike one does
pub same_ties : (set s : ℕ) (x y : Edge) → SameEdge x y → ties_back set s x ≡ ties_back set s y
same_ties set s x y h =
    λ i. ((h.left i == s) && (nat_lt (h.right i) s && has_slot set (h.right i))) || ((h.right i == s) && (nat_lt (h.left i) s && has_slot set (h.left i)))
