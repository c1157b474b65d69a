-- Alike blocks have the same offers under every configuration.
use Rattle.std.proofs.Common.{◌≡◌, ℕ, ◌+◌, ◌*◌, ◌==◌, Bool, not, ◌&&◌, List, ◌++◌, length, map, take, drop, Option, Some, None, refl, ap, ◌∙◌}
use Rattle.std.proofs.Math.Path.{fun_ext}
use Rattle.std.specs.Prelude.{filter, fold, take_while, if◌then◌else◌}
use Rattle.std.specs.List.{list_any, list_all, flat_map}
use Rattle.adv_base.specs.declared.catalogue.Catalogue.{Catalogue}
use Rattle.adv_base.specs.declared.catalogue.index.IndexShape.{IndexShape}
use Rattle.adv_base.specs.declared.catalogue.table.Table.{Table}
use Rattle.adv_base.specs.declared.setting.Config.{Config}
use Rattle.adv_base.specs.declared.workload.block.Block.{Block}
use Rattle.adv_base.specs.declared.workload.parts.Item.TheVariants.{Up}
use Rattle.adv_base.specs.declared.workload.parts.Slot.{Slot}
use Rattle.adv_base.specs.declared.limits.TheConstants.{WHOLE}
use Rattle.adv_base.specs.Access.{point_keys, range_keys, matched_preds, matched_part, finds_one_row, matched_rows, covers_slot, fetch_cost, index_price, index_order}
use Rattle.adv_base.specs.Lookups.{table_at}
use Rattle.adv_base.specs.Offers.{Path, Heap, Existing, Candidate, paths_on, path_offer, offers_on, offers_of, offers}
use Rattle.adv_base.specs.Parts.{pred_part}
use Rattle.adv_base.specs.Predicates.{is_point, is_range, preds_on, is_bound, has_pred}
use Rattle.adv_base.specs.Rows.{table_rows, table_pages}
use Rattle.adv_base.specs.Sizes.{index_pages}
use Rattle.adv_base.specs.Sums.{times_part}
use Rattle.workload_fold.proofs.Pairs.{Pairs, pairs_at, pairs_map, pairs_append, pairs_flat}
use Rattle.workload_fold.proofs.SameBlocks.{SameSlot, SamePred, SameBlocks, point_agrees, range_agrees}
use Rattle.workload_fold.proofs.Blocks.{same_has, same_on, same_bound}

module _ (cat : Catalogue) (a b : Block) (same : SameBlocks cat a b) where
  bound_here : (s : ℕ) → is_bound a.preds s ≡ is_bound b.preds s
  bound_here s = fun_ext (same_bound cat a b same s)

  same_order : (s : ℕ) (keys : List ℕ) → index_order a s keys ≡ index_order b s keys
  unfolding index_order
  same_order s keys = ap (λ (f : ℕ → Bool). map (Up s) (filter (λ key. not (f key)) keys)) (bound_here s)

  same_point_keys : (s : ℕ) (keys : List ℕ) → point_keys a s keys ≡ point_keys b s keys
  same_point_keys s keys =
      let points : has_pred is_point a.preds s ≡ has_pred is_point b.preds s = fun_ext (same_has cat a b same is_point (point_agrees cat a b) s) in
      ap (λ (f : ℕ → Bool). take_while f keys) points

  same_range_keys : (s : ℕ) (keys : List ℕ) → range_keys a s keys ≡ range_keys b s keys
  same_range_keys s keys = ap (λ (front : List ℕ). take 1 (drop (length front) keys)) (same_point_keys s keys)

  same_matched : (s : ℕ) (keys : List ℕ) → matched_part cat a s keys ≡ matched_part cat b s keys
  unfolding matched_part matched_preds
  same_matched s keys =
      let points = point_keys a s keys in
      let ranges = range_keys a s keys in
      let R = SamePred cat a b in
      let front : Pairs R (flat_map (preds_on is_point a.preds s) points) (flat_map (preds_on is_point b.preds s) points) =
      pairs_flat R (preds_on is_point a.preds s) (preds_on is_point b.preds s) (same_on cat a b same is_point (point_agrees cat a b) s) points in
      let next : Pairs R (flat_map (preds_on is_range a.preds s) ranges) (flat_map (preds_on is_range b.preds s) ranges) =
      pairs_flat R (preds_on is_range a.preds s) (preds_on is_range b.preds s) (same_on cat a b same is_range (range_agrees cat a b) s) ranges in
      let own = flat_map (preds_on is_point a.preds s) points ++ flat_map (preds_on is_range a.preds s) ranges in
      let other = flat_map (preds_on is_point b.preds s) points ++ flat_map (preds_on is_range b.preds s) ranges in
      let all : Pairs R own other =
      pairs_append R (flat_map (preds_on is_point a.preds s) points) (flat_map (preds_on is_point b.preds s) points) (flat_map (preds_on is_range a.preds s) ranges) (flat_map (preds_on is_range b.preds s) ranges) front next in
      let parts : map (pred_part cat a) own ≡ map (pred_part cat b) other = pairs_map R (pred_part cat a) (pred_part cat b) (λ p q h. h.part) own other all in
      ap (λ (ps : List ℕ). fold times_part WHOLE ps) parts
      ∙ (λ i. fold times_part WHOLE (map (pred_part cat b) (flat_map (preds_on is_point b.preds s) (same_point_keys s keys i) ++ flat_map (preds_on is_range b.preds s) (same_range_keys s keys i))))

  same_one_row : (s : ℕ) (shape : IndexShape) → finds_one_row a s shape ≡ finds_one_row b s shape
  same_one_row s shape = ap (λ (f : ℕ → Bool). shape.unique && list_all f shape.keys) (bound_here s)

  same_matched_rows : (s : ℕ) (table : Table) (shape : IndexShape) → matched_rows cat a s table shape ≡ matched_rows cat b s table shape
  unfolding matched_rows
  same_matched_rows s table shape =
      let one = same_one_row s shape in
      let part = same_matched s shape.keys in
      λ i. if one i then 1 else times_part (table_rows table) (part i)

  same_fetch : (s : ℕ) (x y : Slot) → SameSlot x y → (table : Table) (shape : IndexShape) → fetch_cost cat a s x table shape ≡ fetch_cost cat b s y table shape
  unfolding fetch_cost
  same_fetch s x y h table shape =
      let covers : covers_slot a x shape ≡ covers_slot b y shape = λ i. same.cover i && list_all (λ column. list_any (λ key. key == column) shape.keys) (h.needed i) in
      let part = same_matched s shape.keys in
      let rows = same_matched_rows s table shape in
      λ i. if covers i then 0 else (if shape.clustered then times_part (table_pages table) (part i) * cat.rates.seq_page else rows i * cat.rates.rand_page)

  same_price : (s : ℕ) (x y : Slot) → SameSlot x y → (table : Table) (shape : IndexShape) → index_price cat a s x table shape ≡ index_price cat b s y table shape
  unfolding index_price
  same_price s x y h table shape =
      let fetch = same_fetch s x y h table shape in
      let part = same_matched s shape.keys in
      let rows = same_matched_rows s table shape in
      λ i. times_part (index_pages table shape.keys) (part i) * cat.rates.seq_page + fetch i + rows i * cat.rates.row_cpu

  same_offer : (s : ℕ) (x y : Slot) → SameSlot x y → (table : Table) (path : Path) → path_offer cat a s x table path ≡ path_offer cat b s y table path
  same_offer s x y h table Heap = refl
  same_offer s x y h table (Existing index) =
      let order = same_order s index.shape.keys in
      let price = same_price s x y h table index.shape in
      λ i. (order i, price i)
  same_offer s x y h table (Candidate number shape) =
      let order = same_order s shape.keys in
      let price = same_price s x y h table shape in
      λ i. (order i, price i)

  same_on_table : (shapes : List IndexShape) (config : Config) (s : ℕ) (x y : Slot) → SameSlot x y → (table : Option Table) → offers_on cat a shapes config s x table ≡ offers_on cat b shapes config s y table
  same_on_table shapes config s x y h None = refl
  same_on_table shapes config s x y h (Some table) =
      let each : path_offer cat a s x table ≡ path_offer cat b s y table = fun_ext (same_offer s x y h table) in
      λ i. map (each i) (paths_on shapes config (h.table i) table)

  same_offers : (shapes : List IndexShape) (config : Config) (s : ℕ) → offers cat a shapes config s ≡ offers cat b shapes config s
  unfolding offers
  same_offers shapes config s =
      pairs_at SameSlot (offers_of cat a shapes config s) (offers_of cat b shapes config s) refl
      (λ x y h. same_on_table shapes config s x y h (table_at cat x.table) ∙ ap (λ (n : ℕ). offers_on cat b shapes config s y (table_at cat n)) h.table)
      a.slots b.slots same.slots s

  pub same_offer_table : (shapes : List IndexShape) (config : Config) → offers cat a shapes config ≡ offers cat b shapes config
  same_offer_table shapes config = fun_ext (same_offers shapes config)
