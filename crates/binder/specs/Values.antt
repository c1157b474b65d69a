-- The values that columns are compared with.
use Rattle.std.specs.Prelude.{ℕ, ℤ, List, Option, Some, None}
use Rattle.adv_base.specs.declared.catalogue.column.Kind.{Kind}
use Rattle.adv_base.specs.declared.catalogue.column.Kind.TheVariants as kinds
use Rattle.adv_base.specs.declared.workload.predicate.Value.{Value}
use Rattle.adv_base.specs.declared.workload.predicate.Value.TheVariants.{Number, Plain}
use Rattle.adv_base.specs.Days.{day_number}
use Rattle.sql_reader.specs.declared.parsed.Literal.{Literal}
use Rattle.sql_reader.specs.declared.parsed.Literal.TheVariants.{Whole, Day, Text}
use Rattle.binder.specs.Names.{text_in}

-- a day's number, where there is a day
abbrev pub day_value : Option ℤ → Value
day_value None = Plain
day_value (Some day) = Number day

-- a whole number has a place among numbers
abbrev pub int_value : Literal → Value
int_value (Whole n) = Number n
int_value literal = Plain

-- a day has a place among days, and so has a text that reads as one
abbrev pub date_value : List ℕ → Literal → Value
date_value text (Day day) = Number day
date_value text (Text span) = day_value (day_number (text_in text span))
date_value text literal = Plain

-- the value that a literal is for a column of a kind; every other is plain
abbrev pub value_of : List ℕ → Kind → Literal → Value
value_of text kinds.Int literal = int_value literal
value_of text kinds.Date literal = date_value text literal
value_of text kinds.Text literal = Plain
