-- Numbers by names: what an index finds, tables and columns.
use Rattle.std.specs.Prelude.{◌≡◌, ℕ, Bool, List, Option, slice_get, option_and_then}
use Rattle.std.specs.Str.{bytes_eq}
use Rattle.std.specs.List.{position_from}
use Rattle.std.specs.Global.{Vec}
use Rattle.indexmap.specs.IndexMap.{get_by}
use Rattle.adv_base.specs.declared.catalogue.table.Table.{Table}
use Rattle.adv_base.specs.declared.catalogue.column.Column.{Column}
use Rattle.binder.specs.declared.index.NameIndex.{NameIndex}
use Rattle.binder.specs.Names.{folded}

-- the number that an index has for a folded name
abbrev pub find_in : NameIndex → List ℕ → Option ℕ
find_in index word = get_by (λ (key : Vec ℕ). bytes_eq word key.items) index.numbers

-- a name is this folded one
abbrev pub goes_by : List ℕ → List ℕ → Bool
goes_by word name = bytes_eq (folded name) word

-- the number of the table of a folded name
abbrev pub table_number : List Table → List ℕ → Option ℕ
table_number tables word = position_from (λ table. goes_by word table.name) 0 tables

-- the number of the column of a folded name
abbrev pub column_number : List Column → List ℕ → Option ℕ
column_number columns word = position_from (λ column. goes_by word column.name) 0 columns

-- the same in the table of a number
unfoldable pub column_of : List Table → ℕ → List ℕ → Option ℕ
column_of tables t word = option_and_then (λ table. column_number table.columns word) (slice_get tables t)

-- an index tells the tables' numbers
abbrev pub IndexesTables : List Table → NameIndex → Type 0
IndexesTables tables index = (word : List ℕ) → find_in index word ≡ table_number tables word

-- an index tells the columns' numbers
abbrev pub IndexesColumns : List Column → NameIndex → Type 0
IndexesColumns columns index = (word : List ℕ) → find_in index word ≡ column_number columns word

-- there is an index for each table, which tells the numbers of its columns
abbrev pub IndexesEach : List Table → List NameIndex → Type 0
IndexesEach tables indexes =
    (t : ℕ) (word : List ℕ) → option_and_then (λ index. find_in index word) (slice_get indexes t) ≡ column_of tables t word
