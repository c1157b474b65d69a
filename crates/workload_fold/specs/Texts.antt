-- The text of a folded workload.
use Rattle.std.specs.Prelude.{ℕ, ◌-◌, ◌==◌, Bool, true, false, ◌&&◌, if◌then◌else◌, List, [], ◌∷◌, ◌++◌, codes, decimal, slice_get, slice_index}
use Rattle.std.specs.List.{flat_map}
use Rattle.std.specs.Option.{option_map_or}
use Rattle.sql_tokens.specs.Ahead.{ahead}
use Rattle.sql_tokens.specs.declared.token.Token.{Token}
use Rattle.sql_tokens.specs.declared.token.TokenKind.{TokenKind}
use Rattle.sql_tokens.specs.declared.token.TokenKind.TheVariants as kind
use Rattle.sql_reader.specs.Terminals.{bytes_of, is_weight}
use Rattle.sql_reader.specs.declared.parsed.ParsedStatement.{ParsedStatement}

abbrev pub is_symbol : TokenKind → Bool
is_symbol kind.Symbol = true
is_symbol _ = false

-- the token `;`
abbrev pub is_semicolon : List ℕ → Token → Bool
is_semicolon text t = is_symbol t.kind && slice_index text t.span.from == 59

-- the tokens up to the first `;`, without those of weights
abbrev pub own_tokens : List ℕ → List Token → List Token
own_tokens text [] = []
own_tokens text (t ∷ ts) = if is_weight t.kind then own_tokens text ts else if is_semicolon text t then [] else t ∷ own_tokens text ts

-- the tokens of the statement that begins at a place, from 1
unfoldable pub statement_tokens : List ℕ → ℕ → List Token
statement_tokens text place = own_tokens text (ahead text (place - 1)).tokens

-- tokens, a space behind each
abbrev pub spaced : List ℕ → List Token → List ℕ
spaced text tokens = flat_map (λ t. bytes_of text t ++ 32 ∷ []) tokens

-- the line `-- weight W`
abbrev pub weight_line : ℕ → List ℕ
weight_line weight = codes "-- weight " ++ decimal weight ++ 10 ∷ []

-- a group: the line of its weight, and the tokens of its first statement, which begins at a place, with a space between each
-- two, ` ;` and a line feed
unfoldable pub group_text : List ℕ → ℕ → ℕ → List ℕ
group_text text place weight = weight_line weight ++ (spaced text (statement_tokens text place) ++ 59 ∷ 10 ∷ [])

-- where the statement of a number, from 1, begins
abbrev pub place_of_number : List ParsedStatement → ℕ → ℕ
place_of_number statements n = option_map_or (λ s. s.place) (slice_get statements (n - 1)) 0

-- all groups, by the numbers of their first statements and their weights
abbrev pub folded_text : List ℕ → List ParsedStatement → List ℕ → List ℕ → List ℕ
folded_text text statements [] weights = []
folded_text text statements (n ∷ ns) [] = []
folded_text text statements (n ∷ ns) (w ∷ ws) =
    group_text text (place_of_number statements n) w ++ folded_text text statements ns ws
