-- What the names of a rule mean in a catalogue, and which candidates a rule meets. Tables and columns are numbered from 0.
use Rattle.std.specs.Prelude.{ℕ, ◌==◌, Bool, not, ◌&&◌, if◌then◌else◌, List, [], map, position, Option, Result, Ok}
use Rattle.std.specs.Char.{to_ascii_lowercase}
use Rattle.std.specs.List.{list_any}
use Rattle.std.specs.Option.{option_map_or}
use Rattle.std.specs.Str.{bytes_eq}
use Rattle.adv_base.specs.declared.catalogue.Catalogue.{Catalogue}
use Rattle.adv_base.specs.declared.catalogue.column.Column.{Column}
use Rattle.adv_base.specs.declared.catalogue.index.IndexShape.{IndexShape}
use Rattle.adv_base.specs.declared.catalogue.table.Table.{Table}
use Rattle.adv_base.specs.Lookups.{table_at}
use Rattle.adv_base.specs.Readings.{◌>>=◌, or_fault, each}
use Rattle.dba_rules.specs.declared.fault.RuleFault.{RuleFault}
use Rattle.dba_rules.specs.declared.fault.RuleFault.TheVariants.{NoTable, NoColumn}
use Rattle.dba_rules.specs.declared.line.IndexName.{IndexName}
use Rattle.dba_rules.specs.declared.line.Named.{Named}
use Rattle.dba_rules.specs.declared.line.Named.TheVariants as named
use Rattle.dba_rules.specs.declared.names.Target.{Target}
use Rattle.dba_rules.specs.declared.names.Target.TheVariants.{Keys, Whole, Holding}

-- ## Names

-- names are compared with their ASCII letters folded
abbrev pub is_same_name : List ℕ → List ℕ → Bool
is_same_name a b = bytes_eq (map to_ascii_lowercase a) (map to_ascii_lowercase b)

abbrev pub table_number : List Table → List ℕ → Option ℕ
table_number tables name = position (λ table. is_same_name table.name name) tables

abbrev pub column_number : List Column → List ℕ → Option ℕ
column_number columns name = position (λ column. is_same_name column.name name) columns

abbrev pub columns_of : Catalogue → ℕ → List Column
columns_of cat t = option_map_or (λ table. table.columns) (table_at cat t) []

-- the table of a name in a line, or the fault of the line
abbrev pub table_named : Catalogue → ℕ → List ℕ → Result ℕ RuleFault
table_named cat number name = or_fault (NoTable number) (table_number cat.tables name)

abbrev pub column_named : List Column → ℕ → List ℕ → Result ℕ RuleFault
column_named columns number name = or_fault (NoColumn number) (column_number columns name)

abbrev pub keys_named : List Column → ℕ → List (List ℕ) → Result (List ℕ) RuleFault
keys_named columns number names = each (column_named columns number) names

-- ## What a rule is about

-- the table and the keys of an index, the first name without meaning being the fault
unfoldable pub index_target : Catalogue → ℕ → IndexName → Result Target RuleFault
index_target cat number index = do
  table ← table_named cat number index.table
  keys ← keys_named (columns_of cat table) number index.columns
  Ok (Keys table keys index.clustered)

unfoldable pub column_target : Catalogue → ℕ → List ℕ → List ℕ → Result Target RuleFault
column_target cat number table column = do
  t ← table_named cat number table
  c ← column_named (columns_of cat t) number column
  Ok (Holding t c)

abbrev pub target_of : Catalogue → ℕ → Named → Result Target RuleFault
target_of cat number (named.Index index) = index_target cat number index
target_of cat number (named.Table table) = table_named cat number table >>= λ t. Ok (Whole t)
target_of cat number (named.Column table column) = column_target cat number table column

-- ## Which indexes it meets

abbrev pub is_same_list : List ℕ → List ℕ → Bool
is_same_list keys others = bytes_eq keys others

-- the index of these keys on a table, clustered or not; each of a table; each of a table with this key column
abbrev pub meets : Target → IndexShape → Bool
meets (Keys table keys clustered) shape =
    (shape.table == table) && is_same_list shape.keys keys && (if shape.clustered then clustered else not clustered)
meets (Whole table) shape = shape.table == table
meets (Holding table column) shape = (shape.table == table) && list_any (λ key. key == column) shape.keys
