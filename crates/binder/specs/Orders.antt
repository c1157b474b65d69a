-- HAVING, ORDER BY and the lists by which a block groups and orders.
use Rattle.std.specs.Prelude.{ℕ, zero, suc, ◌+◌, Bool, true, false, List, [], ◌∷◌, ◌++◌, length, Option, Some, None, slice_get, Result, Ok}
use Rattle.adv_base.specs.declared.workload.parts.Item.{Item}
use Rattle.adv_base.specs.declared.workload.parts.Item.TheVariants.{Up, Down, Made}
use Rattle.adv_base.specs.Readings.{◌>>=◌, in_turn}
use Rattle.sql_tokens.specs.declared.token.Span.{Span}
use Rattle.sql_reader.specs.declared.parsed.Expr.{Expr}
use Rattle.sql_reader.specs.declared.parsed.NameUse.{NameUse}
use Rattle.sql_reader.specs.declared.parsed.ParsedItem.{ParsedItem}
use Rattle.sql_reader.specs.declared.parsed.ParsedOrder.{ParsedOrder}
use Rattle.binder.specs.declared.gathered.SlotColumn.{SlotColumn}
use Rattle.binder.specs.declared.gathered.BoundItem.{BoundItem}
use Rattle.binder.specs.declared.gathered.SortKey.{SortKey}
use Rattle.binder.specs.declared.gathered.SortKeys.{SortKeys}
use Rattle.binder.specs.declared.gathered.Term.{Term}
use Rattle.binder.specs.declared.gathered.Term.TheVariants as terms
use Rattle.binder.specs.declared.fault.BindFault.{BindFault}
use Rattle.binder.specs.Names.{word_in}
use Rattle.binder.specs.Items.{aliased, column_at}
use Rattle.binder.specs.Scopes.{Names, slot_column, meaning}

-- the select list as HAVING and ORDER BY see it: as it is written, and what it stands for
pub record SelectList : Type 0 where
  pub written : List ParsedItem
  pub bound : List BoundItem

-- the item for which a name stands, where it is an alias; a name behind a point is none
abbrev pub alias_meant : List ℕ → SelectList → Option Span → Span → Option ℕ
alias_meant text list None name = aliased text list.written (word_in text name)
alias_meant text list (Some source) name = None

-- an alias wins over a column of its name
abbrev pub alias_or_column : Names → NameUse → Option ℕ → Result Term BindFault
alias_or_column names name_use None = meaning names name_use >>= λ c. Ok (terms.Column c)
alias_or_column names name_use (Some n) = Ok (terms.Alias n)

-- what a name in HAVING or ORDER BY stands for
unfoldable pub term_of : Names → SelectList → NameUse → Result Term BindFault
term_of names list name_use = alias_or_column names name_use (alias_meant names.text list name_use.qualifier name_use.name)

-- an alias mentions no further column
abbrev pub with_mention : List SlotColumn → Term → List SlotColumn
with_mention mentions (terms.Column c) = mentions ++ c ∷ []
with_mention mentions (terms.Alias n) = mentions

-- the columns so far, and the one that a name in HAVING or ORDER BY mentions
abbrev pub mention : Names → SelectList → List SlotColumn → NameUse → Result (List SlotColumn) BindFault
mention names list mentions name_use = term_of names list name_use >>= λ term. Ok (with_mention mentions term)

abbrev pub mentions_from : Names → SelectList → List SlotColumn → List NameUse → Result (List SlotColumn) BindFault
mentions_from names list mentions uses = in_turn (mention names list) mentions uses

-- the column that a name alone stands for
abbrev pub term_column : SelectList → Term → Option SlotColumn
term_column list (terms.Column c) = Some c
term_column list (terms.Alias n) = column_at list.bound n

-- the column for which the number of an item stands, where items count from 1
abbrev pub ordinal_column : SelectList → ℕ → Option SlotColumn
ordinal_column list zero = None
ordinal_column list (suc n) = column_at list.bound n

-- an item that is exactly a name
abbrev pub sorted_by_name : Names → SelectList → List SlotColumn → Option NameUse → Result SortKey BindFault
sorted_by_name names list mentions None = Ok (record { column = None; mentions = mentions })
sorted_by_name names list mentions (Some name_use) =
    term_of names list name_use >>= λ term. Ok (record { column = term_column list term; mentions = with_mention mentions term })

-- an item of any other form
abbrev pub sorted_by_made : Names → SelectList → List SlotColumn → List NameUse → Result SortKey BindFault
sorted_by_made names list mentions uses = mentions_from names list mentions uses >>= λ more. Ok (record { column = None; mentions = more })

-- a number alone is an item's, a column's name or an alias alone is that column, and any other is made
abbrev pub sorted_as : Names → SelectList → List SlotColumn → Option ℕ → Bool → List NameUse → Result SortKey BindFault
sorted_as names list mentions (Some n) plain uses = Ok (record { column = ordinal_column list n; mentions = mentions })
sorted_as names list mentions None true uses = sorted_by_name names list mentions (slice_get uses 0)
sorted_as names list mentions None false uses = sorted_by_made names list mentions uses

unfoldable pub sorted_by : Names → SelectList → List SlotColumn → Expr → Result SortKey BindFault
sorted_by names list mentions expr = sorted_as names list mentions expr.ordinal expr.plain expr.uses

-- an item of an order: the column, or the number of the ORDER BY item, which is made
abbrev pub directed : Bool → SlotColumn → Item
directed true c = Down c.slot c.column
directed false c = Up c.slot c.column

abbrev pub order_item : ℕ → Bool → Option SlotColumn → Item
order_item n down None = Made n
order_item n down (Some c) = directed down c

-- the items of ORDER BY with one more
unfoldable pub with_order : Names → SelectList → SortKeys → ParsedOrder → Result SortKeys BindFault
with_order names list so_far order =
    sorted_by names list so_far.mentions order.expr >>= λ sorted. Ok (record { items = so_far.items ++ order_item (length so_far.items + 1) order.down sorted.column ∷ []; mentions = sorted.mentions })

abbrev pub orders_from : Names → SelectList → List SlotColumn → List ParsedOrder → Result SortKeys BindFault
orders_from names list mentions orders = in_turn (with_order names list) (record { items = []; mentions = mentions }) orders

-- the column of an item that isn't made
abbrev pub column_of_item : Item → Option SlotColumn
column_of_item (Up s c) = Some (slot_column s c)
column_of_item (Down s c) = Some (slot_column s c)
column_of_item (Made n) = None
