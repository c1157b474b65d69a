-- Which kind each token is of.
use Rattle.std.specs.Prelude.{ℕ, ℤ, pos, neg_ℤ, ◌-◌, ◌^◌, Bool, ◌&&◌, ◌==◌, nat_le, int_lt, List, [], ◌∷◌, length, drop, slice_range, codes, Option, Some, None, option_and_then, if◌then◌else◌}
use Rattle.std.specs.Char.{is_ascii_digit}
use Rattle.std.specs.List.{list_all, suffix_len}
use Rattle.std.specs.Str.Parse.{digits_value}
use Rattle.std.specs.Str.{str_eq_ignore_ascii_case}
use Rattle.adv_base.specs.Days.{day_number}
use Rattle.sql_reader.specs.declared.kind.TerminalKind.{TerminalKind}
use Rattle.sql_reader.specs.declared.kind.TerminalKind.TheVariants as kinds
use Rattle.sql_reader.specs.declared.words.Word.{Word}

-- a word that the grammar knows, and its kind
abbrev pub Entry : Type 0
Entry = List ℕ × TerminalKind

-- the kind of the first of these words that the bytes are, in any case of letters
abbrev pub kind_in : List Entry → List ℕ → Option TerminalKind
kind_in [] bytes = None
kind_in (w ∷ ws) bytes = if str_eq_ignore_ascii_case bytes w.0 then Some w.1 else kind_in ws bytes

-- the words that the grammar knows: the reserved ones, the aggregates and DATE
abbrev pub known : List Entry
known =
    (codes "ALL", kinds.All) ∷ (codes "AND", kinds.And) ∷ (codes "AS", kinds.As) ∷ (codes "ASC", kinds.Asc) ∷ (codes "BETWEEN", kinds.Between)
    ∷ (codes "BY", kinds.By) ∷ (codes "CASE", kinds.LeftOut) ∷ (codes "CROSS", kinds.LeftOut) ∷ (codes "DELETE", kinds.Delete) ∷ (codes "DESC", kinds.Desc)
    ∷ (codes "DISTINCT", kinds.Distinct) ∷ (codes "EXCEPT", kinds.LeftOut) ∷ (codes "EXISTS", kinds.LeftOut) ∷ (codes "FROM", kinds.From) ∷ (codes "FULL", kinds.LeftOut)
    ∷ (codes "GROUP", kinds.Group) ∷ (codes "HAVING", kinds.Having) ∷ (codes "IN", kinds.In) ∷ (codes "INNER", kinds.Inner) ∷ (codes "INSERT", kinds.Insert)
    ∷ (codes "INTERSECT", kinds.LeftOut) ∷ (codes "INTO", kinds.Into) ∷ (codes "IS", kinds.Is) ∷ (codes "JOIN", kinds.Join) ∷ (codes "LEFT", kinds.LeftOut)
    ∷ (codes "LIKE", kinds.Like) ∷ (codes "LIMIT", kinds.Limit) ∷ (codes "NATURAL", kinds.LeftOut) ∷ (codes "NOT", kinds.Not) ∷ (codes "NULL", kinds.Null)
    ∷ (codes "OFFSET", kinds.Offset) ∷ (codes "ON", kinds.On) ∷ (codes "OR", kinds.LeftOut) ∷ (codes "ORDER", kinds.Order) ∷ (codes "OUTER", kinds.LeftOut)
    ∷ (codes "OVER", kinds.LeftOut) ∷ (codes "RETURNING", kinds.LeftOut) ∷ (codes "RIGHT", kinds.LeftOut) ∷ (codes "SELECT", kinds.Select) ∷ (codes "SET", kinds.Set)
    ∷ (codes "UNION", kinds.LeftOut) ∷ (codes "UPDATE", kinds.Update) ∷ (codes "USING", kinds.LeftOut) ∷ (codes "VALUES", kinds.Values) ∷ (codes "WHERE", kinds.Where)
    ∷ (codes "WITH", kinds.LeftOut) ∷ (codes "COUNT", kinds.Aggregate) ∷ (codes "SUM", kinds.Aggregate) ∷ (codes "MIN", kinds.Aggregate) ∷ (codes "MAX", kinds.Aggregate)
    ∷ (codes "AVG", kinds.Aggregate) ∷ (codes "DATE", kinds.Date) ∷ []

-- the same of the code's table
abbrev pub entries : List Word → List Entry
entries [] = []
entries (w ∷ ws) = (w.0.now, w.1) ∷ entries ws

abbrev pub kind_or : TerminalKind → Option TerminalKind → TerminalKind
kind_or other None = other
kind_or other (Some k) = k

-- a word: one that the grammar knows, or a name
unfoldable pub word_kind : List ℕ → TerminalKind
word_kind bytes = kind_or kinds.Name (kind_in known bytes)

-- the bytes between the quotes
abbrev pub inside : List ℕ → List ℕ
inside bytes = slice_range bytes 1 (length bytes - 1)

-- a name that is an aggregate or not
abbrev pub aggregate_or_name : Option TerminalKind → TerminalKind
aggregate_or_name (Some kinds.Aggregate) = kinds.Aggregate
aggregate_or_name _ = kinds.Name

-- a quoted name: an aggregate, or another name
unfoldable pub quoted_kind : List ℕ → TerminalKind
quoted_kind bytes = aggregate_or_name (kind_in known (inside bytes))

-- a symbol, by its first byte and, for `<`, its second
unfoldable pub symbol_kind : ℕ → ℕ → TerminalKind
symbol_kind first second =
    if first == 40 then kinds.Open
    else (if first == 41 then kinds.Close
    else (if first == 44 then kinds.Comma
    else (if first == 46 then kinds.Point
    else (if first == 59 then kinds.Semicolon
    else (if first == 42 then kinds.Star
    else (if first == 43 then kinds.Plus
    else (if first == 45 then kinds.Minus
    else (if first == 61 then kinds.Equal
    else (if first == 60 then (if second == 62 then kinds.NotEqual else kinds.Below)
    else (if first == 33 then kinds.NotEqual
    else (if first == 62 then kinds.Above
    else (if first == 63 then kinds.Question
    else (if first == 36 then kinds.Question
    else kinds.Operator)))))))))))))

-- the number of at most 18 digits
unfoldable pub whole_number : List ℕ → Option ℤ
whole_number bytes = if nat_le (length bytes) 18 && list_all is_ascii_digit bytes then Some (pos (digits_value 10 bytes)) else None

-- a number that holds what 18 digits can write; every day of the calendar does
abbrev pub has_18_digits : ℤ → Bool
has_18_digits n = int_lt (neg_ℤ (pos (10 ^ 18))) n && int_lt n (pos (10 ^ 18))

abbrev pub if_18_digits : ℤ → Option ℤ
if_18_digits n = if has_18_digits n then Some n else None

-- the day in a text
unfoldable pub text_day : List ℕ → Option ℤ
text_day bytes = option_and_then if_18_digits (day_number (inside bytes))

-- the digits behind the last byte that is none
abbrev pub last_digits : List ℕ → List ℕ
last_digits bytes = drop (length bytes - suffix_len is_ascii_digit bytes) bytes

-- a weight is 1 to 10^6
abbrev pub is_good_weight : ℕ → Bool
is_good_weight n = nat_le 1 n && nat_le n 1000000

-- the weight of a weight comment: the number that its last digits write, where that is a weight
unfoldable pub comment_weight : List ℕ → Option ℕ
comment_weight bytes = if is_good_weight (digits_value 10 (last_digits bytes)) then Some (digits_value 10 (last_digits bytes)) else None
