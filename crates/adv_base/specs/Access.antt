-- What an index matches of a slot's predicates, and what it costs to read the slot through it.
use Rattle.std.specs.Prelude.{ℕ, ◌+◌, ◌*◌, ◌==◌, Bool, not, ◌&&◌, if◌then◌else◌, List, ◌++◌, length, drop, take, take_while, filter, map, fold}
use Rattle.std.specs.List.{list_any, list_all, flat_map}
use Rattle.adv_base.specs.declared.catalogue.Catalogue.{Catalogue}
use Rattle.adv_base.specs.declared.catalogue.index.IndexShape.{IndexShape}
use Rattle.adv_base.specs.declared.catalogue.table.Table.{Table}
use Rattle.adv_base.specs.declared.workload.block.Block.{Block}
use Rattle.adv_base.specs.declared.workload.parts.Item.TheVariants.{Up}
use Rattle.adv_base.specs.declared.workload.parts.Slot.{Slot}
use Rattle.adv_base.specs.declared.workload.predicate.Pred.{Pred}
use Rattle.adv_base.specs.declared.limits.TheConstants.{WHOLE}
use Rattle.adv_base.specs.Items.{Order}
use Rattle.adv_base.specs.Sums.{times_part}
use Rattle.adv_base.specs.Parts.{pred_part}
use Rattle.adv_base.specs.Predicates.{is_point, is_range, preds_on, has_pred, is_bound}
use Rattle.adv_base.specs.Rows.{table_rows, table_pages}
use Rattle.adv_base.specs.Sizes.{index_pages}

-- the leading keys, as far as each has a point predicate on its column
abbrev pub point_keys : Block → ℕ → List ℕ → List ℕ
point_keys block s keys = take_while (has_pred is_point block.preds s) keys

-- the key after that prefix, where there is one
abbrev pub range_keys : Block → ℕ → List ℕ → List ℕ
range_keys block s keys = take 1 (drop (length (point_keys block s keys)) keys)

-- The predicates that an index matches: each point predicate on the prefix and each range predicate on the next key, in
-- the order of the keys and then as written.
unfoldable pub matched_preds : Block → ℕ → List ℕ → List Pred
matched_preds block s keys =
    flat_map (preds_on is_point block.preds s) (point_keys block s keys) ++ flat_map (preds_on is_range block.preds s) (range_keys block s keys)

-- the part of its entries that an index matches
unfoldable pub matched_part : Catalogue → Block → ℕ → List ℕ → ℕ
matched_part cat block s keys = fold times_part WHOLE (map (pred_part cat block) (matched_preds block s keys))

-- each key is bound, and no two rows agree on all
abbrev pub finds_one_row : Block → ℕ → IndexShape → Bool
finds_one_row block s shape = shape.unique && list_all (is_bound block.preds s) shape.keys

-- the rows that the index finds
unfoldable pub matched_rows : Catalogue → Block → ℕ → Table → IndexShape → ℕ
matched_rows cat block s table shape =
    if finds_one_row block s shape then 1 else times_part (table_rows table) (matched_part cat block s shape.keys)

-- the keys hold every column that the statement mentions
abbrev pub covers_slot : Block → Slot → IndexShape → Bool
covers_slot block slot shape = block.may_cover && list_all (λ column. list_any (λ key. key == column) shape.keys) slot.needed

-- fetching the table's rows: nothing from a covering index, a run of pages from a clustered one, else a page a row
unfoldable pub fetch_cost : Catalogue → Block → ℕ → Slot → Table → IndexShape → ℕ
fetch_cost cat block s slot table shape =
    if covers_slot block slot shape then 0
    else (if shape.clustered then times_part (table_pages table) (matched_part cat block s shape.keys) * cat.rates.seq_page
    else matched_rows cat block s table shape * cat.rates.rand_page)

-- the price of reading a slot through an index
unfoldable pub index_price : Catalogue → Block → ℕ → Slot → Table → IndexShape → ℕ
index_price cat block s slot table shape =
    times_part (index_pages table shape.keys) (matched_part cat block s shape.keys) * cat.rates.seq_page
    + fetch_cost cat block s slot table shape
    + matched_rows cat block s table shape * cat.rates.row_cpu

-- the price of reading the whole table
unfoldable pub table_price : Catalogue → Table → ℕ
table_price cat table = table_pages table * cat.rates.seq_page + table_rows table * cat.rates.row_cpu

-- rows come from an index sorted by those of its keys that aren't bound
unfoldable pub index_order : Block → ℕ → List ℕ → Order
index_order block s keys = map (Up s) (filter (λ key. not (is_bound block.preds s key)) keys)
