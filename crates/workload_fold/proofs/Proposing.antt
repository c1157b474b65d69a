-- Alike blocks propose the same indexes.
use Rattle.std.proofs.Common.{◌≡◌, ℕ, ◌==◌, Bool, ◌&&◌, List, [], ◌∷◌, ◌++◌, Option, Some, None, ap}
use Rattle.std.specs.Prelude.{filter, if◌then◌else◌}
use Rattle.std.specs.List.{flat_map, range_with_len}
use Rattle.std.specs.Option.{option_map_or}
use Rattle.adv_base.specs.declared.catalogue.Catalogue.{Catalogue}
use Rattle.adv_base.specs.declared.workload.block.Block.{Block}
use Rattle.adv_base.specs.declared.workload.parts.Edge.{Edge}
use Rattle.adv_base.specs.declared.workload.parts.Item.{Item}
use Rattle.adv_base.specs.declared.workload.parts.Slot.{Slot}
use Rattle.adv_base.specs.declared.workload.predicate.Pred.{Pred}
use Rattle.adv_base.specs.declared.workload.predicate.Test.{Test}
use Rattle.adv_base.specs.Lookups.{column_count}
use Rattle.adv_base.specs.Predicates.{is_point, is_range}
use Rattle.candidates.specs.Columns.{has_column, without_repeats, is_slot_pred, tested_columns, point_columns, range_columns, edge_column, join_columns, own_columns, group_columns, order_columns, needed_columns}
use Rattle.candidates.specs.Proposals.{column_lists, sorted_lists, covering_list, plain_index, is_clusterable, forms, slot_proposals, block_proposals}
use Rattle.workload_fold.proofs.Pairs.{Pairs, pairs_filter, pairs_map, pairs_filter_map, pairs_numbered}
use Rattle.workload_fold.proofs.SameBlocks.{SameSlot, SameEdge, SamePred, SameBlocks, Agrees, point_agrees, range_agrees}

same_edge_column : (s : ℕ) (x y : Edge) → SameEdge x y → edge_column s x ≡ edge_column s y
same_edge_column s x y h = λ i. if h.left i == s then Some (h.left_column i) else (if h.right i == s then Some (h.right_column i) else None)

module _ (cat : Catalogue) (a b : Block) (same : SameBlocks cat a b) where
  same_tested : (kind : Test → Bool) → Agrees cat a b kind → (s : ℕ) → tested_columns kind a s ≡ tested_columns kind b s
  same_tested kind agrees s =
      let R = SamePred cat a b in
      let slot_pred : (p q : Pred) → SamePred cat a b p q → is_slot_pred kind s p ≡ is_slot_pred kind s q = λ p q h i. (h.slot i == s) && agrees p q h i in
      let kept : Pairs R (filter (is_slot_pred kind s) a.preds) (filter (is_slot_pred kind s) b.preds) =
      pairs_filter R (is_slot_pred kind s) (is_slot_pred kind s) slot_pred a.preds b.preds same.preds in
      pairs_map R (λ p. p.column) (λ p. p.column) (λ p q h. h.column) (filter (is_slot_pred kind s) a.preds) (filter (is_slot_pred kind s) b.preds) kept

  same_points : (s : ℕ) → point_columns a s ≡ point_columns b s
  unfolding point_columns
  same_points s = ap without_repeats (same_tested is_point (point_agrees cat a b) s)

  same_ranges : (s : ℕ) → range_columns a s ≡ range_columns b s
  unfolding range_columns
  same_ranges s = ap without_repeats (same_tested is_range (range_agrees cat a b) s)

  same_joins : (s : ℕ) → join_columns a s ≡ join_columns b s
  unfolding join_columns
  same_joins s = ap without_repeats (pairs_filter_map SameEdge (edge_column s) (edge_column s) (same_edge_column s) a.edges b.edges same.edges)

  same_group : (s : ℕ) → group_columns a s ≡ group_columns b s
  unfolding group_columns
  same_group s = ap (λ (g : Option (List Item)). option_map_or (own_columns s) g []) same.group

  same_order : (s : ℕ) → order_columns a s ≡ order_columns b s
  unfolding order_columns
  same_order s = ap (λ (o : List Item). own_columns s o) same.order

  same_needed : (x y : Slot) → SameSlot x y → needed_columns cat x ≡ needed_columns cat y
  unfolding needed_columns
  same_needed x y h = λ i. filter (has_column (h.needed i)) (range_with_len 0 (column_count cat (h.table i)))

  same_slot_proposals : (s : ℕ) (x y : Slot) → SameSlot x y → slot_proposals cat a s x ≡ slot_proposals cat b s y
  unfolding slot_proposals
  same_slot_proposals s x y h =
      let points = same_points s in
      let ranges = same_ranges s in
      let joins = same_joins s in
      let group = same_group s in
      let order = same_order s in
      let needed = same_needed x y h in
      λ i. flat_map (forms (is_clusterable cat (h.table i)))
      (column_lists (h.table i) (points i) (ranges i) (joins i) ++ sorted_lists (h.table i) (points i) (group i) (order i))
      ++ plain_index (covering_list (h.table i) (points i) (ranges i) (needed i)) ∷ []

  pub same_block_proposals : block_proposals cat a ≡ block_proposals cat b
  unfolding block_proposals
  same_block_proposals =
      pairs_numbered SameSlot (λ numbered. slot_proposals cat a numbered.0 numbered.1) (λ numbered. slot_proposals cat b numbered.0 numbered.1) same_slot_proposals 0 a.slots b.slots same.slots
