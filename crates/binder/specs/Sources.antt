-- The sources of a statement.
use Rattle.std.specs.Prelude.{ℕ, nat_lt, Bool, not, List, [], ◌∷◌, ◌++◌, length, Option, Some, None, slice_get, unwrap_or, Result}
use Rattle.std.specs.Option.{option_map_or}
use Rattle.std.specs.List.{list_any}
use Rattle.adv_base.specs.declared.limits.TheConstants.{MOST_SLOTS}
use Rattle.adv_base.specs.declared.catalogue.Catalogue.{Catalogue}
use Rattle.adv_base.specs.Readings.{◌>>=◌, or_fault, where_holds, in_turn}
use Rattle.sql_tokens.specs.declared.token.Span.{Span}
use Rattle.sql_reader.specs.declared.parsed.Source.{Source}
use Rattle.binder.specs.declared.scope.Visible.{Visible}
use Rattle.binder.specs.declared.fault.BindFault.{BindFault}
use Rattle.binder.specs.declared.fault.BindFault.TheVariants.{NoTable, TwoAliases, TooManySlots}
use Rattle.binder.specs.Names.{folded, name_in, word_in, place}
use Rattle.binder.specs.Lookups.{goes_by, table_number}

-- the table of a name in a statement
abbrev pub table_meant : Catalogue → List ℕ → Span → Result ℕ BindFault
table_meant cat text span = or_fault (NoTable (place span)) (table_number cat.tables (word_in text span))

-- the name of a table, as the catalogue writes it
abbrev pub table_name : Catalogue → ℕ → List ℕ
table_name cat t = option_map_or (λ table. table.name) (slice_get cat.tables t) []

-- a source goes by its alias, as the statement writes it, or by its table's name
abbrev pub visible_name : Catalogue → List ℕ → Option Span → ℕ → List ℕ
visible_name cat text None t = table_name cat t
visible_name cat text (Some alias) t = name_in text alias

abbrev pub visible : Catalogue → List ℕ → Option Span → ℕ → Visible
visible cat text alias t = record { name = visible_name cat text alias t; table = t }

-- an earlier source goes by the name
abbrev pub is_taken : List Visible → List ℕ → Bool
is_taken sources name = list_any (λ v. goes_by (folded name) v.name) sources

-- a source behind the earlier ones, unless one of these goes by its name
abbrev pub put_source : List Visible → ℕ → Visible → Result (List Visible) BindFault
put_source sources at v = where_holds (TwoAliases at) (not (is_taken sources v.name)) (sources ++ v ∷ [])

-- a source behind the earlier ones: first there has to be room for it, then its table is looked up, and then its name has to be new
unfoldable pub with_source : Catalogue → List ℕ → List Visible → Source → Result (List Visible) BindFault
with_source cat text sources source = do
  room ← where_holds (TooManySlots (place source.table)) (nat_lt (length sources) MOST_SLOTS) sources
  t ← table_meant cat text source.table
  put_source room (place (unwrap_or source.alias source.table)) (visible cat text source.alias t)

abbrev pub sources_of : Catalogue → List ℕ → List Source → Result (List Visible) BindFault
sources_of cat text sources = in_turn (with_source cat text) [] sources
