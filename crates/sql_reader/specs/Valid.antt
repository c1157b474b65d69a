-- What the statements of a text keep: their places lie in the text, and their numbers are within the limits.
use Rattle.std.specs.Prelude.{ℕ, ◌^◌, Bool, true, ◌&&◌, ◌==◌, nat_le, nat_lt, List, length, Option, Some, None, if◌then◌else◌}
use Rattle.std.specs.List.{list_all}
use Rattle.sql_tokens.specs.declared.token.Span.{Span}
use Rattle.sql_reader.specs.declared.parsed.NameUse.{NameUse}
use Rattle.sql_reader.specs.declared.parsed.Expr.{Expr}
use Rattle.sql_reader.specs.declared.parsed.ParsedItem.{ParsedItem}
use Rattle.sql_reader.specs.declared.parsed.ParsedItem.TheVariants as items
use Rattle.sql_reader.specs.declared.parsed.Source.{Source}
use Rattle.sql_reader.specs.declared.parsed.Literal.{Literal}
use Rattle.sql_reader.specs.declared.parsed.Literal.TheVariants as literals
use Rattle.sql_reader.specs.declared.parsed.Condition.{Condition}
use Rattle.sql_reader.specs.declared.parsed.Condition.TheVariants.{Compared, Tied, Between, OneOf, Like, IsNull, NotNull}
use Rattle.sql_reader.specs.declared.parsed.ParsedOrder.{ParsedOrder}
use Rattle.sql_reader.specs.declared.parsed.ParsedSelect.{ParsedSelect}
use Rattle.sql_reader.specs.declared.parsed.Body.{Body}
use Rattle.sql_reader.specs.declared.parsed.Body.TheVariants as bodies
use Rattle.sql_reader.specs.declared.parsed.ParsedStatement.{ParsedStatement}

-- the span lies in a text of n bytes
abbrev pub span_in : ℕ → Span → Bool
span_in n s = nat_le s.from s.to && nat_le s.to n

abbrev pub option_in : ℕ → Option Span → Bool
option_in n None = true
option_in n (Some s) = span_in n s

abbrev pub name_in : ℕ → NameUse → Bool
name_in n u = option_in n u.qualifier && span_in n u.name

abbrev pub source_in : ℕ → Source → Bool
source_in n s = span_in n s.table && option_in n s.alias

abbrev pub literal_in : ℕ → Literal → Bool
literal_in n (literals.Text s) = span_in n s
literal_in n _ = true

-- an IN has at least one item
abbrev pub condition_in : ℕ → Condition → Bool
condition_in n (Compared u c l) = name_in n u && literal_in n l
condition_in n (Tied u v) = name_in n u && name_in n v
condition_in n (Between u l m) = name_in n u && (literal_in n l && literal_in n m)
condition_in n (OneOf u count) = name_in n u && nat_le 1 count
condition_in n (Like u) = name_in n u
condition_in n (IsNull u) = name_in n u
condition_in n (NotNull u) = name_in n u

-- fewer than 2^32
abbrev pub are_few : ℕ → Bool
are_few count = nat_lt count (2 ^ 32)

abbrev pub names_in : ℕ → List NameUse → Bool
names_in n us = are_few (length us) && list_all (name_in n) us

abbrev pub conditions_in : ℕ → List Condition → Bool
conditions_in n cs = are_few (length cs) && list_all (condition_in n) cs

-- exactly a column has one use
abbrev pub one_if_plain : Bool → ℕ → Bool
one_if_plain plain count = if plain then count == 1 else true

abbrev pub expr_in : ℕ → Expr → Bool
expr_in n e = names_in n e.uses && one_if_plain e.plain (length e.uses)

abbrev pub item_in : ℕ → ParsedItem → Bool
item_in n items.Star = true
item_in n (items.SlotStar s) = span_in n s
item_in n (items.Made e alias) = expr_in n e && option_in n alias

abbrev pub items_in : ℕ → List ParsedItem → Bool
items_in n xs = are_few (length xs) && list_all (item_in n) xs

-- at least one source
abbrev pub sources_in : ℕ → List Source → Bool
sources_in n xs = nat_le 1 (length xs) && (are_few (length xs) && list_all (source_in n) xs)

abbrev pub order_item_in : ℕ → ParsedOrder → Bool
order_item_in n o = expr_in n o.expr

abbrev pub order_in : ℕ → List ParsedOrder → Bool
order_in n xs = are_few (length xs) && list_all (order_item_in n) xs

abbrev pub select_in : ℕ → ParsedSelect → Bool
select_in n s =
    items_in n s.items && (sources_in n s.sources && (conditions_in n s.conditions && (names_in n s.group && (names_in n s.having && order_in n s.order))))

-- 1 to 2^32 - 1 rows
abbrev pub rows_in : ℕ → Bool
rows_in rows = nat_le 1 rows && are_few rows

abbrev pub body_in : ℕ → Body → Bool
body_in n (bodies.Select s) = select_in n s
body_in n (bodies.Insert table columns uses rows) = span_in n table && (names_in n columns && (names_in n uses && rows_in rows))
body_in n (bodies.Update source columns uses conditions) =
    source_in n source && (names_in n columns && (names_in n uses && conditions_in n conditions))
body_in n (bodies.Delete source conditions) = source_in n source && conditions_in n conditions

-- a weight is 1 to 10^6
abbrev pub statement_in : ℕ → ParsedStatement → Bool
statement_in n s = nat_le 1 s.weight && (nat_le s.weight 1000000 && body_in n s.body)

-- at most 1000 statements
abbrev pub statements_in : ℕ → List ParsedStatement → Bool
statements_in n xs = nat_le (length xs) 1000 && list_all (statement_in n) xs
