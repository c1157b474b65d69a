-- Sizes of indexes, in pages of 8192 bytes. System R's NINDX is `index_pages`.
use Rattle.std.specs.Prelude.{ℕ, ◌+◌, ◌/◌, ◌==◌, if◌then◌else◌, List, sum_by, slice_get}
use Rattle.std.specs.Int.{div_ceil}
use Rattle.std.specs.Option.{option_map_or}
use Rattle.adv_base.specs.declared.catalogue.Catalogue.{Catalogue}
use Rattle.adv_base.specs.declared.catalogue.index.IndexShape.{IndexShape}
use Rattle.adv_base.specs.declared.catalogue.table.Table.{Table}
use Rattle.adv_base.specs.Rows.{table_rows}
use Rattle.adv_base.specs.Lookups.{table_at}

-- the width of a table's column, in bytes
abbrev pub column_width : Table → ℕ → ℕ
column_width table c = option_map_or (λ column. column.width) (slice_get table.columns c) 0

-- an entry has its keys and 12 bytes
abbrev pub entry_bytes : Table → List ℕ → ℕ
entry_bytes table keys = sum_by (column_width table) keys + 12

-- how many entries a page holds
abbrev pub entries_per_page : Table → List ℕ → ℕ
entries_per_page table keys = 8192 / entry_bytes table keys

unfoldable pub leaf_pages : Table → List ℕ → ℕ
leaf_pages table keys = div_ceil (table_rows table) (entries_per_page table keys)

-- the leaves and the pages above them
unfoldable pub index_pages : Table → List ℕ → ℕ
index_pages table keys = leaf_pages table keys + div_ceil (leaf_pages table keys) (entries_per_page table keys)

-- one level where there is one leaf, else two
unfoldable pub index_levels : Table → List ℕ → ℕ
index_levels table keys = if leaf_pages table keys == 1 then 1 else 2

-- the size of an index shape
unfoldable pub shape_pages : Catalogue → IndexShape → ℕ
shape_pages cat shape = option_map_or (λ table. index_pages table shape.keys) (table_at cat shape.table) 0
