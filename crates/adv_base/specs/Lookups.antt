-- What the numbers in a block name.
use Rattle.std.specs.Prelude.{ℕ, Option, length, slice_get, option_and_then}
use Rattle.std.specs.Option.{option_map_or}
use Rattle.adv_base.specs.declared.catalogue.Catalogue.{Catalogue}
use Rattle.adv_base.specs.declared.catalogue.table.Table.{Table}
use Rattle.adv_base.specs.declared.workload.block.Block.{Block}

-- the table of a number
abbrev pub table_at : Catalogue → ℕ → Option Table
table_at cat t = slice_get cat.tables t

-- how many columns the table of a number has
abbrev pub column_count : Catalogue → ℕ → ℕ
column_count cat t = option_map_or (λ table. length table.columns) (table_at cat t) 0

-- the table of a slot
abbrev pub slot_table : Catalogue → Block → ℕ → Option Table
slot_table cat block s = option_and_then (λ slot. table_at cat slot.table) (slice_get block.slots s)

-- how many columns a slot has
abbrev pub slot_columns : Catalogue → Block → ℕ → ℕ
slot_columns cat block s = option_map_or (λ table. length table.columns) (slot_table cat block s) 0

-- the distinct values of a table's column, where their number is known
abbrev pub table_distinct : Table → ℕ → Option ℕ
table_distinct table c = option_and_then (λ column. column.distinct) (slice_get table.columns c)

-- the same of a slot's column
abbrev pub slot_distinct : Catalogue → Block → ℕ → ℕ → Option ℕ
slot_distinct cat block s c = option_and_then (λ table. table_distinct table c) (slot_table cat block s)
