-- What the productions of the grammar give.
use Rattle.std.specs.Prelude.{ℕ, ℤ, pos, neg_ℤ, ◌+◌, ◌^◌, Bool, true, false, ◌||◌, nat_lt, nat_abs, if◌then◌else◌, List, [], ◌∷◌, ◌++◌, Option, Some, None}
use Rattle.sql_tokens.specs.declared.token.Span.{Span}
use Rattle.sql_reader.specs.declared.kind.TerminalKind.{TerminalKind}
use Rattle.sql_reader.specs.declared.kind.TerminalKind.TheVariants as kinds
use Rattle.sql_reader.specs.declared.terminal.Terminal.{Terminal}
use Rattle.sql_reader.specs.declared.seen.ExprForm.{ExprForm}
use Rattle.sql_reader.specs.declared.seen.ExprForm.TheVariants as forms
use Rattle.sql_reader.specs.declared.seen.Seen.{Seen}
use Rattle.sql_reader.specs.declared.parsed.NameUse.{NameUse}
use Rattle.sql_reader.specs.declared.parsed.Expr.{Expr}
use Rattle.sql_reader.specs.declared.parsed.ParsedItem.{ParsedItem}
use Rattle.sql_reader.specs.declared.parsed.Source.{Source}
use Rattle.sql_reader.specs.declared.parsed.Literal.{Literal}
use Rattle.sql_reader.specs.declared.parsed.Literal.TheVariants as literals
use Rattle.sql_reader.specs.declared.parsed.Compare.{Compare}
use Rattle.sql_reader.specs.declared.parsed.Compare.TheVariants as compares
use Rattle.sql_reader.specs.declared.parsed.Condition.{Condition}
use Rattle.sql_reader.specs.declared.parsed.ParsedOrder.{ParsedOrder}
use Rattle.sql_reader.specs.declared.parsed.ParsedSelect.{ParsedSelect}
use Rattle.sql_reader.specs.declared.parsed.Body.{Body}
use Rattle.sql_reader.specs.declared.parsed.Body.TheVariants as bodies
use Rattle.sql_reader.specs.declared.parts.InsertParts.{InsertParts}
use Rattle.sql_reader.specs.declared.parts.UpdateParts.{UpdateParts}
use Rattle.sql_reader.specs.declared.parts.Progress.{Progress}

-- names

abbrev pub plain_column : Span → NameUse
plain_column name = record { qualifier = None; name = name }

abbrev pub column_of_source : Span → Span → NameUse
column_of_source source name = record { qualifier = Some source; name = name }

-- literals

-- the day in a text that holds one, or a whole number's number
abbrev pub number_or : ℤ → Option ℤ → ℤ
number_or d None = d
number_or d (Some n) = n

abbrev pub day_literal : Terminal → Literal
day_literal p = literals.Day (number_or (pos 0) p.number)

abbrev pub whole_literal : Option ℤ → Literal
whole_literal None = literals.Other
whole_literal (Some n) = literals.Whole n

-- the literal that one terminal is: a text that holds a date is a text where no DATE stands before it
abbrev pub literal_of_kind : TerminalKind → Terminal → Literal
literal_of_kind kinds.Whole p = whole_literal p.number
literal_of_kind kinds.Text p = literals.Text p.span
literal_of_kind kinds.Day p = literals.Text p.span
literal_of_kind _ p = literals.Other

abbrev pub literal_of : Terminal → Literal
literal_of p = literal_of_kind p.kind p

abbrev pub negative : Literal → Literal
negative (literals.Whole n) = literals.Whole (neg_ℤ n)
negative l = l

-- a number behind a sign
abbrev pub signed : TerminalKind → Terminal → Literal
signed kinds.Minus p = negative (literal_of p)
signed _ p = literal_of p

-- comparisons

abbrev pub compare_of : TerminalKind → Compare
compare_of kinds.Equal = compares.Equal
compare_of kinds.NotEqual = compares.NotEqual
compare_of kinds.Below = compares.Below
compare_of _ = compares.Above

abbrev pub turned : Compare → Compare
turned compares.Equal = compares.Equal
turned compares.NotEqual = compares.NotEqual
turned compares.Below = compares.Above
turned compares.Above = compares.Below

-- expressions

abbrev pub nothing_found : Seen
nothing_found = record { uses = []; stars = 0; aggregate = false; form = forms.Other }

abbrev pub with_form : ExprForm → Seen → Seen
with_form form found = record found { form = form }

-- more than a column or a number alone
abbrev pub not_alone : Seen → Seen
not_alone found = with_form forms.Other found

abbrev pub with_use : Seen → NameUse → Seen
with_use found name = record found { uses = found.uses ++ name ∷ []; form = forms.Column }

abbrev pub with_star : Seen → Seen
with_star found = record found { stars = found.stars + 1 }

abbrev pub is_aggregate : TerminalKind → Bool
is_aggregate kinds.Aggregate = true
is_aggregate _ = false

-- a call of this name begins
abbrev pub called : Seen → TerminalKind → Seen
called found kind = record found { aggregate = found.aggregate || is_aggregate kind }

-- a whole number is an ordinal where it is below 2^32
abbrev pub number_form : Option ℤ → ExprForm
number_form None = forms.Other
number_form (Some n) = if nat_lt (nat_abs n) (2 ^ 32) then forms.Number (nat_abs n) else forms.Other

abbrev pub literal_form : TerminalKind → Option ℤ → ExprForm
literal_form kinds.Whole number = number_form number
literal_form _ number = forms.Other

abbrev pub is_column : ExprForm → Bool
is_column forms.Column = true
is_column _ = false

abbrev pub ordinal_of : ExprForm → Option ℕ
ordinal_of (forms.Number n) = Some n
ordinal_of _ = None

abbrev pub expr_of : Seen → Expr
expr_of found = record { uses = found.uses; stars = found.stars; plain = is_column found.form; aggregate = found.aggregate; ordinal = ordinal_of found.form }

-- statements

abbrev pub empty_select : ParsedSelect
empty_select = record { distinct = false; items = []; sources = []; conditions = []; group = []; having = []; order = [] }

abbrev pub empty_insert : Span → InsertParts
empty_insert table = record { table = table; columns = []; found = nothing_found; rows = 0 }

abbrev pub insert_body : InsertParts → Body
insert_body parts = bodies.Insert parts.table parts.columns parts.found.uses parts.rows

abbrev pub empty_update : Source → UpdateParts
empty_update source = record { source = source; columns = []; found = nothing_found; conditions = [] }

abbrev pub update_body : UpdateParts → Body
update_body parts = bodies.Update parts.source parts.columns parts.found.uses parts.conditions

-- the place of a terminal's first byte, from 1
abbrev pub place_of : Terminal → ℕ
place_of p = p.span.from + 1

-- the weight of the statement that begins with this terminal: that of the last weight comment before it, where that
-- stands behind the first token of the statement before
abbrev pub weight_of : ℕ → Terminal → ℕ
weight_of before p = if nat_lt before p.mark.place then p.mark.weight else 1

abbrev pub with_statement : Progress → Terminal → Body → Progress
with_statement progress p body = record {
  statements = progress.statements ++ (record { place = place_of p; weight = weight_of progress.before p; body = body }) ∷ [];
  before = place_of p;
}

abbrev pub no_statements : Progress
no_statements = record { statements = []; before = 0 }

-- what is known and what was read

abbrev pub beside : {A B : Type 0} → A → B → A × B
beside a b = (a, b)

abbrev pub beside_kind : {A : Type 0} → A → Terminal → A × TerminalKind
beside_kind a p = (a, p.kind)

abbrev pub beside_span : {A : Type 0} → A → Terminal → A × Span
beside_span a p = (a, p.span)

-- the parts of statements

abbrev pub with_distinct : ParsedSelect → ParsedSelect
with_distinct select = record select { distinct = true }

abbrev pub items_of : ParsedSelect → List ParsedItem
items_of select = select.items

abbrev pub with_items : ParsedSelect → List ParsedItem → ParsedSelect
with_items select all = record select { items = all }

abbrev pub with_source : ParsedSelect → Source → ParsedSelect
with_source select x = record select { sources = select.sources ++ x ∷ [] }

abbrev pub conditions_of : ParsedSelect → List Condition
conditions_of select = select.conditions

abbrev pub with_conditions : ParsedSelect → List Condition → ParsedSelect
with_conditions select all = record select { conditions = all }

abbrev pub group_of : ParsedSelect → List NameUse
group_of select = select.group

abbrev pub with_group : ParsedSelect → List NameUse → ParsedSelect
with_group select all = record select { group = all }

abbrev pub with_having : ParsedSelect → List NameUse → ParsedSelect
with_having select all = record select { having = all }

abbrev pub order_of : ParsedSelect → List ParsedOrder
order_of select = select.order

abbrev pub with_order : ParsedSelect → List ParsedOrder → ParsedSelect
with_order select all = record select { order = all }

abbrev pub insert_columns_of : InsertParts → List NameUse
insert_columns_of parts = parts.columns

abbrev pub with_insert_columns : InsertParts → List NameUse → InsertParts
with_insert_columns parts all = record parts { columns = all }

abbrev pub values_of : InsertParts → Seen
values_of parts = parts.found

abbrev pub with_values : InsertParts → Seen → InsertParts
with_values parts found = record parts { found = found }

abbrev pub with_row : InsertParts → InsertParts
with_row parts = record parts { rows = parts.rows + 1 }

abbrev pub set_columns_of : UpdateParts → List NameUse
set_columns_of parts = parts.columns

abbrev pub with_set_columns : UpdateParts → List NameUse → UpdateParts
with_set_columns parts all = record parts { columns = all }

abbrev pub set_values_of : UpdateParts → Seen
set_values_of parts = parts.found

abbrev pub with_set_values : UpdateParts → Seen → UpdateParts
with_set_values parts found = record parts { found = found }

abbrev pub update_conditions_of : UpdateParts → List Condition
update_conditions_of parts = parts.conditions

abbrev pub with_update_conditions : UpdateParts → List Condition → UpdateParts
with_update_conditions parts all = record parts { conditions = all }
