-- The items of a select list, and their aliases.
use Rattle.std.specs.Prelude.{◌≡◌, ℕ, if◌then◌else◌, ◌==◌, Bool, true, false, List, [], Option, Some, None, slice_get, option_and_then, Result, Ok}
use Rattle.std.specs.List.{position_from}
use Rattle.adv_base.specs.Readings.{◌>>=◌, each}
use Rattle.sql_tokens.specs.declared.token.Span.{Span}
use Rattle.sql_reader.specs.declared.parsed.NameUse.{NameUse}
use Rattle.sql_reader.specs.declared.parsed.ParsedItem.{ParsedItem}
use Rattle.sql_reader.specs.declared.parsed.ParsedItem.TheVariants as parsed
use Rattle.binder.specs.declared.index.NameIndex.{NameIndex}
use Rattle.binder.specs.declared.gathered.SlotColumn.{SlotColumn}
use Rattle.binder.specs.declared.gathered.BoundItem.{BoundItem}
use Rattle.binder.specs.declared.gathered.BoundItem.TheVariants.{Star, SlotStar, Made}
use Rattle.binder.specs.declared.fault.BindFault.{BindFault}
use Rattle.binder.specs.Names.{name_in}
use Rattle.binder.specs.Lookups.{find_in, goes_by}
use Rattle.binder.specs.Scopes.{Names, source_meant, meaning}

-- the columns that names mean, in written order
abbrev pub columns_of : Names → List NameUse → Result (List SlotColumn) BindFault
columns_of names uses = each (meaning names) uses

-- what an item of the select list stands for
unfoldable pub item_of : Names → ParsedItem → Result BoundItem BindFault
item_of names parsed.Star = Ok Star
item_of names (parsed.SlotStar source) = source_meant names source >>= λ s. Ok (SlotStar s)
item_of names (parsed.Made expr alias) = columns_of names expr.uses >>= λ columns. Ok (Made columns expr.plain expr.aggregate)

abbrev pub items_of : Names → List ParsedItem → Result (List BoundItem) BindFault
items_of names items = each (item_of names) items

-- the column that an item is, where it is exactly a column
abbrev pub plain_column : Bool → List SlotColumn → Option SlotColumn
plain_column false columns = None
plain_column true columns = slice_get columns 0

abbrev pub item_column : BoundItem → Option SlotColumn
item_column (Made columns plain aggregate) = plain_column plain columns
item_column item = None

-- the column that the item of a number is, counted from 0
abbrev pub column_at : List BoundItem → ℕ → Option SlotColumn
column_at items n = option_and_then item_column (slice_get items n)

abbrev pub is_plain : BoundItem → Bool
is_plain (Made columns plain aggregate) = plain
is_plain item = false

abbrev pub has_aggregate : BoundItem → Bool
has_aggregate (Made columns plain aggregate) = aggregate
has_aggregate item = false

-- the columns that an item mentions by their names
abbrev pub item_mentions : BoundItem → List SlotColumn
item_mentions (Made columns plain aggregate) = columns
item_mentions item = []

-- an item mentions all columns of a slot
abbrev pub takes_whole : ℕ → BoundItem → Bool
takes_whole slot Star = true
takes_whole slot (SlotStar s) = s == slot
takes_whole slot item = false

-- an item has the folded name as its alias
abbrev pub is_alias : List ℕ → List ℕ → Option Span → Bool
is_alias text word None = false
is_alias text word (Some alias) = goes_by word (name_in text alias)

abbrev pub has_alias : List ℕ → List ℕ → ParsedItem → Bool
has_alias text word (parsed.Made expr alias) = is_alias text word alias
has_alias text word item = false

-- the number of the first item with the alias, counted from 0
abbrev pub aliased : List ℕ → List ParsedItem → List ℕ → Option ℕ
aliased text items word = position_from (has_alias text word) 0 items

-- an index tells which item is the first of an alias
abbrev pub IndexesAliases : List ℕ → List ParsedItem → NameIndex → Type 0
IndexesAliases text items index = (word : List ℕ) → find_in index word ≡ aliased text items word

-- new is old with an item's alias, where it has one
abbrev pub PutsAlias : List ℕ → ParsedItem → ℕ → NameIndex → NameIndex → Type 0
PutsAlias text item number old new = (word : List ℕ) → find_in new word ≡ (if has_alias text word item then Some number else find_in old word)
