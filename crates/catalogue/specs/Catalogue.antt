-- The keys of a catalogue with their kinds and ranges, in the order in which they are checked: one line is one key.
use Rattle.std.specs.Prelude.{ℕ, ◌+◌, ◌-◌, Bool, false, not, ◌&&◌, ◌||◌, ◌==◌, nat_eq, nat_lt, int_le, if◌then◌else◌, ℤ, List, [], length, map, sum_by, codes, Result, Ok, Option, Some, None}
use Rattle.std.specs.List.{list_any}
use Rattle.std.specs.Str.{is_utf8}
use Rattle.toml.specs.Data.{Data, Members}
use Rattle.toml.specs.Parse.{parse_document}
use Rattle.adv_base.specs.declared.limits.TheConstants.{MOST_ROWS, MOST_PAGES, MOST_RATE, MOST_WIDTH, MOST_BOUNDS, MOST_TABLES, MOST_COLUMNS, MOST_INDEXES, MOST_KEYS}
use Rattle.adv_base.specs.declared.catalogue.column.Kind.{Kind}
use Rattle.adv_base.specs.declared.catalogue.column.Kind.TheVariants.{Text}
use Rattle.adv_base.specs.Readings.{◌>>=◌, or_fault, where_holds}
use Rattle.adv_base.specs.Shares.{end_at}
use Rattle.catalogue.specs.declared.fault.CatFault.{CatFault}
use Rattle.catalogue.specs.declared.fault.CatFault.TheVariants.{NotToml, OutOfRange, TwoNames, UnknownName}
use Rattle.catalogue.specs.declared.fault.KeyField.{KeyField}
use Rattle.catalogue.specs.declared.fault.KeyField.TheVariants.{Itself, Version, SeqPage, RandPage, RowCpu, SortCpu, MergeCpu, HashCpu, GroupCpu, Name, Rows, Pages, MayCluster, Columns, Indexes, Kind as KindKey, Width, Distinct, Low, High, Bounds, Keys, Unique, Clustered}
use Rattle.catalogue.specs.declared.fault.KeyPath.{KeyPath}
use Rattle.catalogue.specs.Content.{PlainColumn, PlainShape, PlainIndex, PlainTable, PlainRates, PlainCatalogue}
use Rattle.catalogue.specs.Keys.{needed, optional, given_or, number_of}
use Rattle.catalogue.specs.Paths.{whole_path, rates_path, table_path, column_path, bound_path, index_path, key_column_path}
use Rattle.catalogue.specs.Values.{Rule, natural, end_value, text, boolean, keys_of, elements, elements_within, column_kind, folded, new_name, read_each}

-- a rate, or its default
abbrev pub rate : List ℕ → KeyField → ℕ → Members → Result ℕ CatFault
rate key field otherwise keys = given_or otherwise key (rates_path field) (natural 0 MOST_RATE) keys

-- the rates where none are given
abbrev pub default_rates : PlainRates
default_rates = record { seq_page = 1000; rand_page = 4000; row_cpu = 10; sort_cpu = 5; merge_cpu = 5; hash_cpu = 8; group_cpu = 5 }

-- the rates of pages and rows that are given, in place of the defaults
unfoldable pub access_rates : PlainRates → Members → Result PlainRates CatFault
access_rates rates keys = do
  seq_page ← rate (codes "seq_page") SeqPage rates.seq_page keys
  rand_page ← rate (codes "rand_page") RandPage rates.rand_page keys
  row_cpu ← rate (codes "row_cpu") RowCpu rates.row_cpu keys
  Ok (record { seq_page = seq_page; rand_page = rand_page; row_cpu = row_cpu; sort_cpu = rates.sort_cpu; merge_cpu = rates.merge_cpu; hash_cpu = rates.hash_cpu; group_cpu = rates.group_cpu })

-- and those of operators
unfoldable pub operator_rates : PlainRates → Members → Result PlainRates CatFault
operator_rates rates keys = do
  sort_cpu ← rate (codes "sort_cpu") SortCpu rates.sort_cpu keys
  merge_cpu ← rate (codes "merge_cpu") MergeCpu rates.merge_cpu keys
  hash_cpu ← rate (codes "hash_cpu") HashCpu rates.hash_cpu keys
  group_cpu ← rate (codes "group_cpu") GroupCpu rates.group_cpu keys
  Ok (record { seq_page = rates.seq_page; rand_page = rates.rand_page; row_cpu = rates.row_cpu; sort_cpu = sort_cpu; merge_cpu = merge_cpu; hash_cpu = hash_cpu; group_cpu = group_cpu })

unfoldable pub rates_of : Rule PlainRates
rates_of path d = do
  keys ← keys_of path d
  rates ← access_rates default_rates keys
  operator_rates rates keys

-- an end of a column's values, by the column's kind: whatever a column of texts has there is passed over
abbrev pub end_of : Kind → List ℕ → KeyPath → Members → Result (Option ℤ) CatFault
end_of Text key path keys = Ok None
end_of kind key path keys = optional key path (end_value kind) keys

-- the upper end, which isn't below the lower one
abbrev pub not_below : Option ℤ → KeyPath → Option ℤ → Result (Option ℤ) CatFault
not_below (Some low) path (Some high) = where_holds (OutOfRange path) (int_le low high) (Some high)
not_below low path high = Ok high

-- both ends of the values of a column of a kind, at the paths of its keys
unfoldable pub range_of : (KeyField → KeyPath) → Kind → Members → Result (Option ℤ × Option ℤ) CatFault
range_of at kind keys = do
  low ← end_of kind (codes "low") (at Low) keys
  high ← end_of kind (codes "high") (at High) keys
  end ← not_below low (at High) high
  Ok (low, end)

-- an end isn't below the last of the earlier ones
abbrev pub rises : List ℤ → ℤ → Bool
rises earlier z = length earlier == 0 || int_le (end_at earlier (length earlier - 1)) z

-- the end of the histogram of column c of table t behind the earlier ones
abbrev pub next_bound : ℕ → ℕ → Kind → List ℤ → Data → Result ℤ CatFault
next_bound t c kind earlier d =
    let path = bound_path t c (length earlier + 1) in do
      z ← end_value kind path d
      where_holds (OutOfRange path) (rises earlier z) z

abbrev pub bounds_in : ℕ → ℕ → Kind → Rule (List ℤ)
bounds_in t c kind path d = elements_within 2 MOST_BOUNDS path d >>= read_each (next_bound t c kind) []

-- the ends of a column's histogram, by the column's kind: whatever a column of texts has there is passed over
abbrev pub given_bounds : ℕ → ℕ → Kind → Members → Result (List ℤ) CatFault
given_bounds t c Text keys = Ok []
given_bounds t c kind keys = given_or [] (codes "bounds") (column_path t c Bounds) (bounds_in t c kind) keys

-- version 1 has none
abbrev pub bounds_of : ℕ → ℕ → ℕ → Kind → Members → Result (List ℤ) CatFault
bounds_of version t c kind keys = if nat_lt version 2 then Ok [] else given_bounds t c kind keys

-- a column of table t, behind those that have the earlier names
unfoldable pub column_at : ℕ → ℕ → List (List ℕ) → Data → Result PlainColumn CatFault
column_at version t earlier d =
    let c = length earlier + 1 in do
      keys ← keys_of (column_path t c Itself) d
      name ← needed (codes "name") (column_path t c Name) (new_name earlier) keys
      kind ← needed (codes "kind") (column_path t c KindKey) column_kind keys
      width ← needed (codes "width") (column_path t c Width) (natural 1 MOST_WIDTH) keys
      distinct ← optional (codes "distinct") (column_path t c Distinct) (natural 1 MOST_ROWS) keys
      range ← range_of (column_path t c) kind keys
      bounds ← bounds_of version t c kind keys
      Ok (record { name = name; kind = kind; width = width; distinct = distinct; low = range.0; high = range.1; bounds = bounds })

-- the names by which columns are known
abbrev pub column_names : List PlainColumn → List (List ℕ)
column_names columns = map (λ column. folded column.name) columns

-- the column of table t behind the earlier ones
abbrev pub next_column : ℕ → ℕ → List PlainColumn → Data → Result PlainColumn CatFault
next_column version t earlier d = column_at version t (column_names earlier) d

abbrev pub columns_of : ℕ → ℕ → Rule (List PlainColumn)
columns_of version t path d = elements_within 1 MOST_COLUMNS path d >>= read_each (next_column version t) []

-- a key column by its number; one that the table doesn't have can't be an earlier one
abbrev pub key_column : List (List ℕ) → List ℕ → Rule ℕ
key_column columns earlier path d = do
  word ← text path d
  k ← or_fault (UnknownName path) (number_of columns (folded word))
  where_holds (TwoNames path) (not (list_any (λ y. nat_eq y k) earlier)) k

-- the key column of index i of table t behind the earlier ones
abbrev pub next_key : ℕ → ℕ → List (List ℕ) → List ℕ → Data → Result ℕ CatFault
next_key t i columns earlier d = key_column columns earlier (key_column_path t i (length earlier + 1)) d

abbrev pub key_columns_of : ℕ → ℕ → List (List ℕ) → Rule (List ℕ)
key_columns_of t i columns path d = elements_within 1 MOST_KEYS path d >>= read_each (next_key t i columns) []

-- true, false, or false where the key is left out
abbrev pub flag : List ℕ → KeyPath → Members → Result Bool CatFault
flag key path keys = given_or false key path boolean keys

-- the key columns of index i of table t
abbrev pub keys_needed : ℕ → ℕ → List (List ℕ) → Members → Result (List ℕ) CatFault
keys_needed t i columns keys = needed (codes "keys") (index_path t i Keys) (key_columns_of t i columns) keys

-- whether an index is clustered, of which a table has one at most; `taken` says that it has one
abbrev pub clustered : KeyPath → Bool → Members → Result Bool CatFault
clustered path taken keys = do
  holds ← flag (codes "clustered") path keys
  where_holds (OutOfRange path) (not (holds && taken)) holds

-- the keys of an index, of which there are at most 1000 over all tables; `before` counts those before it
abbrev pub index_keys : KeyPath → ℕ → Data → Result Members CatFault
index_keys path before d = do
  keys ← keys_of path d
  where_holds (OutOfRange path) (nat_lt before MOST_INDEXES) keys

-- the shape of index i of table t, which has these columns
unfoldable pub shape_of : ℕ → ℕ → List (List ℕ) → Bool → Members → Result PlainShape CatFault
shape_of t i columns taken keys = do
  key_columns ← keys_needed t i columns keys
  unique ← flag (codes "unique") (index_path t i Unique) keys
  clustered ← clustered (index_path t i Clustered) taken keys
  Ok (record { table = t - 1; keys = key_columns; unique = unique; clustered = clustered })

-- an index of table t, which has these columns, behind those that have the earlier names
unfoldable pub index_at : ℕ → List (List ℕ) → ℕ → List (List ℕ) → Bool → Data → Result PlainIndex CatFault
index_at t columns before earlier taken d =
    let i = length earlier + 1 in do
      keys ← index_keys (index_path t i Itself) before d
      name ← needed (codes "name") (index_path t i Name) (new_name earlier) keys
      shape ← shape_of t i columns taken keys
      Ok (record { name = name; table = shape.table; keys = shape.keys; unique = shape.unique; clustered = shape.clustered })

abbrev pub index_names : List PlainIndex → List (List ℕ)
index_names indexes = map (λ index. folded index.name) indexes

abbrev pub has_clustered : List PlainIndex → Bool
has_clustered indexes = list_any (λ index. index.clustered) indexes

-- the index of table t behind the earlier ones
abbrev pub next_index : ℕ → List (List ℕ) → ℕ → List PlainIndex → Data → Result PlainIndex CatFault
next_index t columns before earlier d = index_at t columns (before + length earlier) (index_names earlier) (has_clustered earlier) d

abbrev pub indexes_of : ℕ → List (List ℕ) → ℕ → Rule (List PlainIndex)
indexes_of t columns before path d = elements path d >>= read_each (next_index t columns before) []

-- the rows and the pages of table t
unfoldable pub size_of : ℕ → Members → Result (ℕ × ℕ) CatFault
size_of t keys = do
  rows ← needed (codes "rows") (table_path t Rows) (natural 0 MOST_ROWS) keys
  pages ← needed (codes "pages") (table_path t Pages) (natural 0 MOST_PAGES) keys
  Ok (rows, pages)

-- whether table t may be clustered anew; version 1 passes the key over
abbrev pub may_cluster_of : ℕ → ℕ → Members → Result Bool CatFault
may_cluster_of version t keys = if nat_lt version 2 then Ok false else flag (codes "may_cluster") (table_path t MayCluster) keys

-- the columns and the indexes of table t, before which there are that many indexes
unfoldable pub parts_of : ℕ → ℕ → ℕ → Members → Result (List PlainColumn × List PlainIndex) CatFault
parts_of version t before keys = do
  columns ← needed (codes "column") (table_path t Columns) (columns_of version t) keys
  indexes ← given_or [] (codes "index") (table_path t Indexes) (indexes_of t (column_names columns) before) keys
  Ok (columns, indexes)

-- a table behind those that have the earlier names, before which there are that many indexes
unfoldable pub table_at : ℕ → ℕ → List (List ℕ) → Data → Result PlainTable CatFault
table_at version before earlier d =
    let t = length earlier + 1 in do
      keys ← keys_of (table_path t Itself) d
      name ← needed (codes "name") (table_path t Name) (new_name earlier) keys
      size ← size_of t keys
      may_cluster ← may_cluster_of version t keys
      parts ← parts_of version t before keys
      Ok (record { name = name; rows = size.0; pages = size.1; may_cluster = may_cluster; columns = parts.0; indexes = parts.1 })

abbrev pub table_names : List PlainTable → List (List ℕ)
table_names tables = map (λ table. folded table.name) tables

-- how many indexes tables have
abbrev pub index_count : List PlainTable → ℕ
index_count tables = sum_by (λ table. length table.indexes) tables

-- the table behind the earlier ones
abbrev pub next_table : ℕ → List PlainTable → Data → Result PlainTable CatFault
next_table version earlier d = table_at version (index_count earlier) (table_names earlier) d

abbrev pub tables_of : ℕ → Rule (List PlainTable)
tables_of version path d = elements_within 0 MOST_TABLES path d >>= read_each (next_table version) []

-- the catalogue of a document
unfoldable pub catalogue_of : Members → Result PlainCatalogue CatFault
catalogue_of keys = do
  version ← needed (codes "version") (whole_path Version) (natural 1 2) keys
  rates ← given_or default_rates (codes "rates") (rates_path Itself) rates_of keys
  tables ← given_or [] (codes "table") (table_path 0 Itself) (tables_of version) keys
  Ok (record { rates = rates; tables = tables })

-- the document that bytes hold, where they are UTF-8 and a document
unfoldable pub document : List ℕ → Option Members
document bytes = if is_utf8 bytes then parse_document bytes else None

-- the catalogue of a file, or its first fault
unfoldable pub catalogue_in : List ℕ → Result PlainCatalogue CatFault
catalogue_in bytes = or_fault NotToml (document bytes) >>= catalogue_of
