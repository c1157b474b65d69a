-- Alike blocks have the same rows, and one task.
use Rattle.std.proofs.Common.{◌≡◌, ℕ, zero, suc, ◌*◌, ◌^◌, ◌==◌, min, List, [], length, map, Option, Some, None, refl, ap, ◌∙◌}
use Rattle.std.proofs.Math.Path.{fun_ext}
use Rattle.std.specs.Prelude.{Bool, fold, unwrap_or, if◌then◌else◌}
use Rattle.std.specs.List.{range_with_len}
use Rattle.std.specs.Option.{option_map_or}
use Rattle.adv_base.specs.declared.catalogue.Catalogue.{Catalogue}
use Rattle.adv_base.specs.declared.workload.block.Block.{Block}
use Rattle.adv_base.specs.declared.workload.parts.Edge.{Edge}
use Rattle.adv_base.specs.declared.workload.parts.Item.{Item}
use Rattle.adv_base.specs.declared.workload.parts.Item.TheVariants.{Up, Down, Made}
use Rattle.adv_base.specs.Parts.{pred_part, edge_part}
use Rattle.adv_base.specs.Rows.{table_rows, slot_preds, filtered_rows, ties_back, edges_back, rows_below, set_rows, item_distinct, group_product, group_rows}
use Rattle.adv_base.specs.Sets.{all_slots, has_slot}
use Rattle.adv_base.specs.Sums.{times_part, capped}
use Rattle.plan_model.specs.declared.task.Task.{Task}
use Rattle.plan_model.specs.BlockTask.{need, task_edge, IsTaskOf}
use Rattle.workload_fold.proofs.Pairs.{Pairs, pairs_filter, pairs_map}
use Rattle.workload_fold.proofs.SameBlocks.{SameEdge, SamePred, SameBlocks}
use Rattle.workload_fold.proofs.Blocks.{as_many, same_table, same_distinct, same_edge_part, same_bound, same_ties}

module _ (cat : Catalogue) (a b : Block) (same : SameBlocks cat a b) where
  pub same_filtered : (s : ℕ) → filtered_rows cat a s ≡ filtered_rows cat b s
  unfolding filtered_rows
  same_filtered s =
      let own : Pairs (SamePred cat a b) (slot_preds a s) (slot_preds b s) =
      pairs_filter (SamePred cat a b) (λ p. p.slot == s) (λ p. p.slot == s) (λ p q h. ap (λ (n : ℕ). n == s) h.slot) a.preds b.preds same.preds in
      let parts : map (pred_part cat a) (slot_preds a s) ≡ map (pred_part cat b) (slot_preds b s) =
      pairs_map (SamePred cat a b) (pred_part cat a) (pred_part cat b) (λ p q h. h.part) (slot_preds a s) (slot_preds b s) own in
      let table = same_table cat a b same s in
      λ i. fold times_part (option_map_or table_rows (table i) 1) (parts i)

  same_below : (set s : ℕ) → rows_below cat a set s ≡ rows_below cat b set s
  unfolding rows_below
  same_below set zero = refl
  same_below set (suc s) =
      let back : Pairs SameEdge (edges_back a set s) (edges_back b set s) = pairs_filter SameEdge (ties_back set s) (ties_back set s) (same_ties set s) a.edges b.edges same.edges in
      let parts : map (edge_part cat a) (edges_back a set s) ≡ map (edge_part cat b) (edges_back b set s) =
      pairs_map SameEdge (edge_part cat a) (edge_part cat b) (same_edge_part cat a b same) (edges_back a set s) (edges_back b set s) back in
      let below = same_below set s in
      let own = same_filtered s in
      λ i. if has_slot set s then fold times_part (capped (below i * own i)) (parts i) else below i

  pub same_set_rows : (set : ℕ) → set_rows cat a set ≡ set_rows cat b set
  unfolding set_rows
  same_set_rows set = same_below set (length a.slots) ∙ ap (λ (n : ℕ). rows_below cat b set n) (as_many cat a b same)

  same_item : (x : Item) → item_distinct cat a x ≡ item_distinct cat b x
  same_item (Up s c) = same_distinct cat a b same s c
  same_item (Down s c) = same_distinct cat a b same s c
  same_item (Made n) = refl

  same_group_rows : (items : List Item) → group_rows cat a items ≡ group_rows cat b items
  unfolding group_rows
  same_group_rows items =
      let count : (λ (x : Item). unwrap_or (item_distinct cat a x) 10) ≡ (λ (x : Item). unwrap_or (item_distinct cat b x) 10) =
      fun_ext (λ x. ap (λ (d : Option ℕ). unwrap_or d 10) (same_item x)) in
      let product : group_product cat a items ≡ group_product cat b items = ap (λ (f : Item → ℕ). fold ◌*◌ 1 (map f items)) count in
      let rows : set_rows cat a (all_slots (length a.slots)) ≡ set_rows cat b (all_slots (length b.slots)) =
      same_set_rows (all_slots (length a.slots)) ∙ ap (λ (n : ℕ). set_rows cat b (all_slots n)) (as_many cat a b same) in
      λ i. min (capped (product i)) (rows i)

  same_need : (s c : ℕ) → need a s c ≡ need b s c
  same_need s c = ap (λ (x : Bool). if x then None else Some (Up s c)) (same_bound cat a b same s c)

  same_task_edge : (x y : Edge) → SameEdge x y → task_edge a x ≡ task_edge b y
  same_task_edge x y h =
      let left : need a x.left x.left_column ≡ need b y.left y.left_column = same_need x.left x.left_column ∙ (λ i. need b (h.left i) (h.left_column i)) in
      let right : need a x.right x.right_column ≡ need b y.right y.right_column = same_need x.right x.right_column ∙ (λ i. need b (h.right i) (h.right_column i)) in
      λ i. record {
        left = h.left i;
        left_column = h.left_column i;
        left_need = left i;
        right = h.right i;
        right_column = h.right_column i;
        right_need = right i;
      }

  pub same_task : (task : Task) → IsTaskOf cat a task → IsTaskOf cat b task
  same_task task is =
      let many = as_many cat a b same in
      let each : set_rows cat a ≡ set_rows cat b = fun_ext same_set_rows in
      record {
        slots_are = is.slots_are ∙ many;
        edges_are = is.edges_are ∙ pairs_map SameEdge (task_edge a) (task_edge b) same_task_edge a.edges b.edges same.edges;
        rows_are = is.rows_are ∙ (λ i. map (each i) (range_with_len 0 (2 ^ many i)));
        group_is = is.group_is ∙ same.group;
        group_rows_are = is.group_rows_are ∙ same_group_rows (unwrap_or a.group []) ∙ ap (λ (g : Option (List Item)). group_rows cat b (unwrap_or g [])) same.group;
        order_is = is.order_is ∙ same.order;
        rates_are = is.rates_are;
      }
