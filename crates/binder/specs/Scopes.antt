-- What names mean among the sources of a statement.
use Rattle.std.specs.Prelude.{ℕ, ◌+◌, ◌==◌, Bool, ◌&&◌, List, [], ◌∷◌, Option, Some, None, option_map, option_and_then, slice_get, Result, Ok, Err}
use Rattle.std.specs.List.{position_from}
use Rattle.adv_base.specs.declared.catalogue.Catalogue.{Catalogue}
use Rattle.adv_base.specs.Readings.{◌>>=◌, or_fault}
use Rattle.sql_tokens.specs.declared.token.Span.{Span}
use Rattle.sql_reader.specs.declared.parsed.NameUse.{NameUse}
use Rattle.binder.specs.declared.gathered.SlotColumn.{SlotColumn}
use Rattle.binder.specs.declared.scope.Visible.{Visible}
use Rattle.binder.specs.declared.fault.BindFault.{BindFault}
use Rattle.binder.specs.declared.fault.BindFault.TheVariants.{NoColumn, Ambiguous}
use Rattle.binder.specs.Names.{word_in, place}
use Rattle.binder.specs.Lookups.{goes_by, column_of}

-- the sources that a statement's names speak of, over a catalogue and a text
pub record Names : Type 0 where
  pub cat : Catalogue
  pub text : List ℕ
  pub sources : List Visible

abbrev pub slot_column : ℕ → ℕ → SlotColumn
slot_column s c = record { slot = s; column = c }

-- the same column of the same slot
abbrev pub is_same : SlotColumn → SlotColumn → Bool
is_same c d = (d.slot == c.slot) && (d.column == c.column)

-- the number of the source that goes by a folded name
abbrev pub source_number : List Visible → List ℕ → Option ℕ
source_number sources word = position_from (λ v. goes_by word v.name) 0 sources

-- the column of a folded name in the slot of a number
abbrev pub column_in : Names → ℕ → List ℕ → Option ℕ
column_in names s word = option_and_then (λ v. column_of names.cat.tables v.table word) (slice_get names.sources s)

-- a slot's column, where it has one of the name, before those of later slots
abbrev pub owner : ℕ → Option ℕ → List SlotColumn → List SlotColumn
owner s None others = others
owner s (Some c) others = slot_column s c ∷ others

-- the columns of a folded name, one of each slot that has it, from slot s on
abbrev pub owners : Catalogue → ℕ → List Visible → List ℕ → List SlotColumn
owners cat s [] word = []
owners cat s (v ∷ vs) word = owner s (column_of cat.tables v.table word) (owners cat (s + 1) vs word)

-- the one column that a name at a place means
abbrev pub the_one : ℕ → List SlotColumn → Result SlotColumn BindFault
the_one at [] = Err (NoColumn at)
the_one at (c ∷ []) = Ok c
the_one at (c ∷ d ∷ more) = Err (Ambiguous at)

-- the source that a name stands for
abbrev pub source_meant : Names → Span → Result ℕ BindFault
source_meant names span = or_fault (NoColumn (place span)) (source_number names.sources (word_in names.text span))

-- the column of a name behind the name of its source
unfoldable pub qualified : Names → Span → Span → Result SlotColumn BindFault
qualified names source name = do
  s ← source_meant names source
  or_fault (NoColumn (place name)) (option_map (slot_column s) (column_in names s (word_in names.text name)))

-- the column of a name that stands alone
unfoldable pub unqualified : Names → Span → Result SlotColumn BindFault
unqualified names name = the_one (place name) (owners names.cat 0 names.sources (word_in names.text name))

abbrev pub by_qualifier : Names → Option Span → Span → Result SlotColumn BindFault
by_qualifier names None name = unqualified names name
by_qualifier names (Some source) name = qualified names source name

-- the column that a name means
abbrev pub meaning : Names → NameUse → Result SlotColumn BindFault
meaning names name_use = by_qualifier names name_use.qualifier name_use.name
