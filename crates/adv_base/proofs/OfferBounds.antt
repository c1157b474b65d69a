-- Bounds of prices and tables of offers: what an index takes, what reading costs, and the limits that offers keep.
use Rattle.std.proofs.Common.{◌≡◌, ◌∙◌, ℕ, ◌+◌, ◌*◌, ◌<◌, ◌≤◌, inl, inr, Bool, true, false, List, [], length, All, refl, ap, subst, arith}
use Rattle.std.specs.Prelude.{if◌then◌else◌, sum_by, slice_get, Option, Some, None, option_and_then}
use Rattle.std.specs.Int.{div_ceil}
use Rattle.std.specs.Option.{option_map_or}
use Rattle.std.proofs.Math.Nat.{mul-le-mul, mul-le-mul_left}
use Rattle.std.proofs.lemmas.Bool.{cases_lt}
use Rattle.std.proofs.lemmas.Grind.{div_ceil_times}
use Rattle.std.proofs.lemmas.List.Elements.{All-map, All-nil}
use Rattle.std.proofs.lemmas.List.Sums.{sum_by-le}
use Rattle.std.proofs.lemmas.Nat.{le-div, mul-le}
use Rattle.std.proofs.lemmas.Option.{slice_get_cases, slice_get_within}
use Rattle.adv_base.specs.declared.catalogue.Catalogue.{Catalogue}
use Rattle.adv_base.specs.declared.catalogue.column.Column.{Column}
use Rattle.adv_base.specs.declared.catalogue.index.IndexShape.{IndexShape}
use Rattle.adv_base.specs.declared.catalogue.table.Table.{Table}
use Rattle.adv_base.specs.declared.limits.TheConstants.{MOST_ROWS, MOST_PAGES, MOST_RATE, MOST_WIDTH, MOST_KEYS, MOST_INDEX_PAGES, MOST_TABLE_PRICE, MOST_INDEX_PRICE, MOST_RENT, WHOLE}
use Rattle.adv_base.specs.declared.setting.Config.{Config}
use Rattle.adv_base.specs.declared.workload.block.Block.{Block}
use Rattle.adv_base.specs.declared.workload.parts.Slot.{Slot}
use Rattle.adv_base.specs.Access.{matched_preds, matched_part, finds_one_row, matched_rows, covers_slot, fetch_cost, table_price, index_price}
use Rattle.adv_base.specs.Laws.{IsRent}
use Rattle.adv_base.specs.Lookups.{table_at, slot_table}
use Rattle.adv_base.specs.Named.{NamesBlock}
use Rattle.adv_base.specs.OfferTables.{OfferLimits, OfferTableLimits, PricesWithin, BeginsWithTables}
use Rattle.adv_base.specs.Offers.{Offer, Path, Heap, Existing, Candidate, paths_on, charged_path_offer, charged_offers_on, charged_offers_of, charged_offers, offers}
use Rattle.adv_base.specs.Parts.{pred_part}
use Rattle.adv_base.specs.Rows.{table_rows, table_pages}
use Rattle.adv_base.specs.Sizes.{column_width, entry_bytes, entries_per_page, leaf_pages, index_pages}
use Rattle.adv_base.specs.Sums.{times_part}
use Rattle.adv_base.proofs.IndexOrders.{index_order-own, index_order-apart}
use Rattle.adv_base.proofs.OfferLaws.{uncharged}
use Rattle.adv_base.proofs.RowBounds.{pred_part-bounds, through-bounds}

-- ## Pages

-- what is divided by some and rounded up grows no greater
div_ceil-most : (n k : ℕ) → 1 ≤ k → div_ceil n k ≤ n
div_ceil-most n k some =
    elim (cases_lt n (div_ceil n k)) [
      | inl greater ↦
          let least : (n + 1) * k ≤ div_ceil n k * k = mul-le (n + 1) k (div_ceil n k) k (omega arith) (omega arith) in
          let below : div_ceil n k * k < n + k = (div_ceil_times n k some).1 in
          let whole : n * 1 ≤ n * k = mul-le-mul_left n some in
          let parts : (n + 1) * k ≡ n * k + k = omega arith in
          absurd (omega (arith, least, below, whole, parts))
      | inr within ↦ within
    ]

width-most : (column : Option Column) → option_map_or (λ column. column.width) column 0 ≤ MOST_WIDTH
width-most (Some column) = column.limits.width_most
width-most None = omega arith

-- an entry fits a page
entry_bytes-most : (table : Table) (keys : List ℕ) → length keys ≤ MOST_KEYS → entry_bytes table keys ≤ 8012
entry_bytes-most table keys few =
    let widths : sum_by (column_width table) keys ≤ length keys * MOST_WIDTH = sum_by-le (column_width table) MOST_WIDTH keys (λ k d h. width-most (slice_get table.columns _)) in
    omega (arith, widths)

entries-some : (table : Table) (keys : List ℕ) → length keys ≤ MOST_KEYS → 1 ≤ entries_per_page table keys
entries-some table keys few =
    let most : entry_bytes table keys ≤ 8012 = entry_bytes-most table keys few in
    le-div 1 8192 (entry_bytes table keys) (omega arith) (omega (arith, most))

-- an index has at most two pages a row
pub index_pages-most : (table : Table) (keys : List ℕ) → length keys ≤ MOST_KEYS → index_pages table keys ≤ MOST_INDEX_PAGES
unfolding index_pages leaf_pages
index_pages-most table keys few =
    let some : 1 ≤ entries_per_page table keys = entries-some table keys few in
    let leaves = div_ceil-most (table_rows table) (entries_per_page table keys) some in
    let upper = div_ceil-most (div_ceil (table_rows table) (entries_per_page table keys)) (entries_per_page table keys) some in
    let rows : table.rows ≤ MOST_ROWS = table.limits.rows_most in
    omega (arith, leaves, upper, rows)

-- ## Prices

-- what a part of a number is, is no greater
times_part-most : (n part : ℕ) → part ≤ WHOLE → times_part n part ≤ n
unfolding times_part
times_part-most n part most =
    let whole : n * part ≤ n * WHOLE = mul-le-mul_left n most in
    let above = (div_ceil_times (n * part) WHOLE (omega arith)).1 in
    omega (arith, above, whole)

matched_part-most : (cat : Catalogue) (block : Block) (s : ℕ) (keys : List ℕ) → matched_part cat block s keys ≤ WHOLE
unfolding matched_part
matched_part-most cat block s keys = (through-bounds (pred_part cat block) (pred_part-bounds cat block) WHOLE (omega arith) (matched_preds block s keys)).most

found-most : (one : Bool) (rows : ℕ) → rows ≤ MOST_ROWS → (if one then 1 else rows) ≤ MOST_ROWS
found-most true rows few = omega arith
found-most false rows few = few

matched_rows-most : (cat : Catalogue) (block : Block) (s : ℕ) (table : Table) (shape : IndexShape) → matched_rows cat block s table shape ≤ MOST_ROWS
unfolding matched_rows
matched_rows-most cat block s table shape =
    let rows : table.rows ≤ MOST_ROWS = table.limits.rows_most in
    let less = times_part-most (table_rows table) (matched_part cat block s shape.keys) (matched_part-most cat block s shape.keys) in
    found-most (finds_one_row block s shape) (times_part (table_rows table) (matched_part cat block s shape.keys)) (omega (arith, rows, less))

fetched-most : (covers clustered : Bool) (run each : ℕ) → run ≤ MOST_PAGES * MOST_RATE → each ≤ MOST_ROWS * MOST_RATE →
    (if covers then 0 else (if clustered then run else each)) ≤ MOST_ROWS * MOST_RATE
fetched-most true clustered run each r e = omega arith
fetched-most false true run each r e = r
fetched-most false false run each r e = e

fetch_cost-most : (cat : Catalogue) (block : Block) (s : ℕ) (slot : Slot) (table : Table) (shape : IndexShape) → fetch_cost cat block s slot table shape ≤ MOST_ROWS * MOST_RATE
unfolding fetch_cost
fetch_cost-most cat block s slot table shape =
    let part : ℕ = matched_part cat block s shape.keys in
    let pages : table.pages ≤ MOST_PAGES = table.limits.pages_most in
    let less : times_part (table_pages table) part ≤ table_pages table = times_part-most (table_pages table) part (matched_part-most cat block s shape.keys) in
    let run : times_part (table_pages table) part * cat.rates.seq_page ≤ MOST_PAGES * MOST_RATE =
    mul-le (times_part (table_pages table) part) cat.rates.seq_page MOST_PAGES MOST_RATE (omega (arith, pages, less)) cat.rates.limits.seq_page_most in
    let each : matched_rows cat block s table shape * cat.rates.rand_page ≤ MOST_ROWS * MOST_RATE =
    mul-le-mul (matched_rows-most cat block s table shape) cat.rates.limits.rand_page_most in
    fetched-most (covers_slot block slot shape) shape.clustered _ _ run each

-- a whole table: its pages and its rows
pub table_price-most : (cat : Catalogue) (table : Table) → table_price cat table ≤ MOST_TABLE_PRICE
unfolding table_price
table_price-most cat table =
    let rows : table.rows ≤ MOST_ROWS = table.limits.rows_most in
    let pages : table.pages ≤ MOST_PAGES = table.limits.pages_most in
    let read : table_pages table * cat.rates.seq_page ≤ MOST_PAGES * MOST_RATE = mul-le (table_pages table) cat.rates.seq_page MOST_PAGES MOST_RATE (omega (arith, pages)) cat.rates.limits.seq_page_most in
    let handled : table_rows table * cat.rates.row_cpu ≤ MOST_ROWS * MOST_RATE = mul-le (table_rows table) cat.rates.row_cpu MOST_ROWS MOST_RATE (omega (arith, rows)) cat.rates.limits.row_cpu_most in
    omega (arith, read, handled)

-- through an index: its pages, the fetches and the rows
pub index_price-most : (cat : Catalogue) (block : Block) (s : ℕ) (slot : Slot) (table : Table) (shape : IndexShape) → index_price cat block s slot table shape ≤ MOST_INDEX_PRICE
unfolding index_price
index_price-most cat block s slot table shape =
    let part : ℕ = matched_part cat block s shape.keys in
    let few : length shape.keys ≤ MOST_KEYS = shape.limits.few in
    let pages : index_pages table shape.keys ≤ MOST_INDEX_PAGES = index_pages-most table shape.keys few in
    let less : times_part (index_pages table shape.keys) part ≤ index_pages table shape.keys = times_part-most (index_pages table shape.keys) part (matched_part-most cat block s shape.keys) in
    let read : times_part (index_pages table shape.keys) part * cat.rates.seq_page ≤ MOST_INDEX_PAGES * MOST_RATE = mul-le (times_part (index_pages table shape.keys) part) cat.rates.seq_page MOST_INDEX_PAGES MOST_RATE (omega (arith, pages, less)) cat.rates.limits.seq_page_most in
    let fetched = fetch_cost-most cat block s slot table shape in
    let handled : matched_rows cat block s table shape * cat.rates.row_cpu ≤ MOST_ROWS * MOST_RATE = mul-le-mul (matched_rows-most cat block s table shape) cat.rates.limits.row_cpu_most in
    omega (arith, read, fetched, handled)

-- ## Offers

charged_path-price : (charge : ℕ → ℕ → ℕ) → IsRent charge → (cat : Catalogue) (block : Block) (s : ℕ) (slot : Slot) (table : Table) (path : Path) →
    (charged_path_offer charge cat block s slot table path).1 ≤ MOST_INDEX_PRICE + MOST_RENT
charged_path-price charge rent cat block s slot table Heap = omega (arith, table_price-most cat table)
charged_path-price charge rent cat block s slot table (Existing index) = omega (arith, index_price-most cat block s slot table index.shape)
charged_path-price charge rent cat block s slot table (Candidate number shape) = omega (arith, index_price-most cat block s slot table shape, rent s number)

uncharged_path-price : (cat : Catalogue) (block : Block) (s : ℕ) (slot : Slot) (table : Table) (path : Path) →
    (charged_path_offer (λ s a. 0) cat block s slot table path).1 ≤ MOST_INDEX_PRICE
uncharged_path-price cat block s slot table Heap = omega (arith, table_price-most cat table)
uncharged_path-price cat block s slot table (Existing index) = index_price-most cat block s slot table index.shape
uncharged_path-price cat block s slot table (Candidate number shape) = omega (arith, index_price-most cat block s slot table shape)

charged_path-limits : (charge : ℕ → ℕ → ℕ) → IsRent charge → (cat : Catalogue) (block : Block) (s : ℕ) (slot : Slot) (table : Table) (path : Path) →
    OfferLimits s (charged_path_offer charge cat block s slot table path)
charged_path-limits charge rent cat block s slot table Heap =
    record { price = omega (arith, table_price-most cat table); own = All-nil _; apart = λ i j d before within. absurd (omega (arith, within)) }
charged_path-limits charge rent cat block s slot table (Existing index) =
    record {
      price = omega (arith, index_price-most cat block s slot table index.shape);
      own = index_order-own block s index.shape.keys;
      apart = index_order-apart block s index.shape.keys index.shape.limits;
    }
charged_path-limits charge rent cat block s slot table (Candidate number shape) =
    record {
      price = omega (arith, index_price-most cat block s slot table shape, rent s number);
      own = index_order-own block s shape.keys;
      apart = index_order-apart block s shape.keys shape.limits;
    }

-- what holds of each path's offer holds of each offer of the slot
each-on : (P : Offer → Type 0) (charge : ℕ → ℕ → ℕ) (cat : Catalogue) (block : Block) (shapes : List IndexShape) (config : Config) (s : ℕ) →
    ((slot : Slot) (table : Table) (path : Path) → P (charged_path_offer charge cat block s slot table path)) →
    (slot : Slot) (table : Option Table) → All P (charged_offers_on charge cat block shapes config s slot table)
each-on P charge cat block shapes config s each slot (Some table) =
    All-map P (charged_path_offer charge cat block s slot table) (paths_on shapes config slot.table table) (λ k d h. each slot table _)
each-on P charge cat block shapes config s each slot None = All-nil P

each-of : (P : Offer → Type 0) (charge : ℕ → ℕ → ℕ) (cat : Catalogue) (block : Block) (shapes : List IndexShape) (config : Config) (s : ℕ) →
    ((slot : Slot) (table : Table) (path : Path) → P (charged_path_offer charge cat block s slot table path)) →
    (slot : Option Slot) → All P (charged_offers_of charge cat block shapes config s slot)
each-of P charge cat block shapes config s each (Some slot) = each-on P charge cat block shapes config s each slot (table_at cat slot.table)
each-of P charge cat block shapes config s each None = All-nil P

each-offer : (P : Offer → Type 0) (charge : ℕ → ℕ → ℕ) (cat : Catalogue) (block : Block) (shapes : List IndexShape) (config : Config) (s : ℕ) →
    ((slot : Slot) (table : Table) (path : Path) → P (charged_path_offer charge cat block s slot table path)) →
    All P (charged_offers charge cat block shapes config s)
unfolding charged_offers
each-offer P charge cat block shapes config s each = each-of P charge cat block shapes config s each (slice_get block.slots s)

-- with rents
pub charged-limits : (charge : ℕ → ℕ → ℕ) → IsRent charge → (cat : Catalogue) (block : Block) (shapes : List IndexShape) (config : Config) →
    OfferTableLimits (charged_offers charge cat block shapes config)
charged-limits charge rent cat block shapes config = λ s.
    each-offer (OfferLimits s) charge cat block shapes config s (charged_path-limits charge rent cat block s)

pub charged-prices : (charge : ℕ → ℕ → ℕ) → IsRent charge → (cat : Catalogue) (block : Block) (shapes : List IndexShape) (config : Config) →
    PricesWithin (MOST_INDEX_PRICE + MOST_RENT) (charged_offers charge cat block shapes config)
charged-prices charge rent cat block shapes config = λ s.
    each-offer (λ offer. offer.1 ≤ MOST_INDEX_PRICE + MOST_RENT) charge cat block shapes config s (charged_path-price charge rent cat block s)

no_rent : IsRent (λ s a. 0)
no_rent = λ s a. omega arith

-- and without
pub offers-limits : (cat : Catalogue) (block : Block) (shapes : List IndexShape) (config : Config) → OfferTableLimits (offers cat block shapes config)
offers-limits cat block shapes config = λ s.
    subst (All (OfferLimits s)) (uncharged cat block shapes config s) (charged-limits (λ s a. 0) no_rent cat block shapes config s)

pub offers-prices : (cat : Catalogue) (block : Block) (shapes : List IndexShape) (config : Config) → PricesWithin MOST_INDEX_PRICE (offers cat block shapes config)
offers-prices cat block shapes config = λ s.
    subst (All (λ (offer : Offer). offer.1 ≤ MOST_INDEX_PRICE)) (uncharged cat block shapes config s)
    (each-offer (λ offer. offer.1 ≤ MOST_INDEX_PRICE) (λ s a. 0) cat block shapes config s (uncharged_path-price cat block s))

-- ## Whole tables

first-of : (charge : ℕ → ℕ → ℕ) (cat : Catalogue) (block : Block) (shapes : List IndexShape) (config : Config) (s : ℕ) (slot : Option Slot) (source : Table) →
    option_and_then (λ slot. table_at cat slot.table) slot ≡ Some source →
    slice_get (charged_offers_of charge cat block shapes config s slot) 0 ≡ Some ([], table_price cat source)
first-of charge cat block shapes config s (Some slot) source is = rw is refl
first-of charge cat block shapes config s None source is = absurd (cc)

first-offer : (charge : ℕ → ℕ → ℕ) (cat : Catalogue) (block : Block) (shapes : List IndexShape) (config : Config) (s : ℕ) (source : Table) →
    slot_table cat block s ≡ Some source → slice_get (charged_offers charge cat block shapes config s) 0 ≡ Some ([], table_price cat source)
unfolding charged_offers
first-offer charge cat block shapes config s source is = first-of charge cat block shapes config s (slice_get block.slots s) source is

-- a slot of the block has a table
pub slot_table-some : (cat : Catalogue) (block : Block) → NamesBlock cat block → (s : ℕ) → s < length block.slots → (source : Table) × (slot_table cat block s ≡ Some source)
slot_table-some cat block named s within =
    elim (slice_get_cases block.slots s).1 [
      | inl slot ↦
          let there : slot.0.table < length cat.tables = subst (λ (x : Slot). x.table < length cat.tables) slot.3 (named.slots s slot.0 within).table in
          elim (slice_get_cases cat.tables slot.0.table).1 [
            | inl source ↦ (source.0, ap (option_and_then (λ (x : Slot). table_at cat x.table)) slot.2 ∙ source.2)
            | inr past ↦ absurd (omega (arith, there, past.0))
          ]
      | inr past ↦ absurd (omega (arith, within, past.0))
    ]

some-offer : (offers : List Offer) (offer : Offer) → slice_get offers 0 ≡ Some offer → 0 < length offers
some-offer offers offer is = slice_get_within offers 0 offer is

pub tables-charged : (charge : ℕ → ℕ → ℕ) (cat : Catalogue) (block : Block) → NamesBlock cat block → (shapes : List IndexShape) (config : Config) →
    BeginsWithTables cat block (charged_offers charge cat block shapes config)
tables-charged charge cat block named shapes config =
    record {
      some = λ s within.
          let source = slot_table-some cat block named s within in
          some-offer (charged_offers charge cat block shapes config s) ([], table_price cat source.0) (first-offer charge cat block shapes config s source.0 source.1);
      first = first-offer charge cat block shapes config;
    }

pub tables-offered : (cat : Catalogue) (block : Block) → NamesBlock cat block → (shapes : List IndexShape) (config : Config) →
    BeginsWithTables cat block (offers cat block shapes config)
tables-offered cat block named shapes config =
    let free = tables-charged (λ s a. 0) cat block named shapes config in
    record {
      some = λ s within. subst (λ (xs : List Offer). 0 < length xs) (uncharged cat block shapes config s) (free.some s within);
      first = λ s source is. subst (λ (xs : List Offer). slice_get xs 0 ≡ Some ([], table_price cat source)) (uncharged cat block shapes config s) (free.first s source is);
    }
