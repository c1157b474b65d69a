-- Sets of kinds, as lists.
use Rattle.std.specs.Prelude.{ℕ, Bool, true, ◌&&◌, not, ◌==◌, List, [], ◌∷◌}
use Rattle.std.specs.List.{list_any}
use Rattle.sql_reader.specs.declared.kind.TerminalKind.{TerminalKind}
use Rattle.sql_reader.specs.declared.kind.TerminalKind.TheVariants as kinds

-- the number of a kind
abbrev pub code_of : TerminalKind → ℕ
code_of kinds.All = 0
code_of kinds.And = 1
code_of kinds.As = 2
code_of kinds.Asc = 3
code_of kinds.Between = 4
code_of kinds.By = 5
code_of kinds.Delete = 6
code_of kinds.Desc = 7
code_of kinds.Distinct = 8
code_of kinds.From = 9
code_of kinds.Group = 10
code_of kinds.Having = 11
code_of kinds.In = 12
code_of kinds.Inner = 13
code_of kinds.Insert = 14
code_of kinds.Into = 15
code_of kinds.Is = 16
code_of kinds.Join = 17
code_of kinds.Like = 18
code_of kinds.Limit = 19
code_of kinds.Not = 20
code_of kinds.Null = 21
code_of kinds.Offset = 22
code_of kinds.On = 23
code_of kinds.Order = 24
code_of kinds.Select = 25
code_of kinds.Set = 26
code_of kinds.Update = 27
code_of kinds.Values = 28
code_of kinds.Where = 29
code_of kinds.LeftOut = 30
code_of kinds.Open = 31
code_of kinds.Close = 32
code_of kinds.Comma = 33
code_of kinds.Point = 34
code_of kinds.Semicolon = 35
code_of kinds.Star = 36
code_of kinds.Plus = 37
code_of kinds.Minus = 38
code_of kinds.Operator = 39
code_of kinds.Equal = 40
code_of kinds.NotEqual = 41
code_of kinds.Below = 42
code_of kinds.Above = 43
code_of kinds.Question = 44
code_of kinds.Name = 45
code_of kinds.Aggregate = 46
code_of kinds.Date = 47
code_of kinds.Whole = 48
code_of kinds.Decimal = 49
code_of kinds.Text = 50
code_of kinds.Day = 51

-- the kind is one of these
abbrev pub has : List TerminalKind → TerminalKind → Bool
has js k = list_any (λ j. code_of j == code_of k) js

-- no kind is in both
abbrev pub apart : List TerminalKind → List TerminalKind → Bool
apart [] ks = true
apart (j ∷ js) ks = not (has ks j) && apart js ks

-- each of these kinds is among the others
abbrev pub within : List TerminalKind → List TerminalKind → Bool
within [] ks = true
within (j ∷ js) ks = has ks j && within js ks
