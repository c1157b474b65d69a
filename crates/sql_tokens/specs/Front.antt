-- The lexeme at the front of a text, as a function of the text. The reading of a text as its longest
-- lexemes is Cut's; this is how it is computed.
use Rattle.std.specs.Prelude.{ℕ, ◌+◌, Bool, ◌&&◌, ◌==◌, List, [], ◌∷◌, drop, if◌then◌else◌, Option, Some, None, Result, Ok, Err}
use Rattle.std.specs.List.{prefix_len}
use Rattle.sql_tokens.specs.Byte.{begins, class_of, is_letter, is_word_byte, is_digit, is_line_byte, is_name_byte, is_mark, is_pair, ends_comment}
use Rattle.sql_tokens.specs.declared.byte.Class.{Class}
use Rattle.sql_tokens.specs.declared.byte.Class.TheVariants as class
use Rattle.sql_tokens.specs.declared.token.TokenKind.{TokenKind}
use Rattle.sql_tokens.specs.declared.token.TokenKind.TheVariants as kind
use Rattle.sql_tokens.specs.declared.lexeme.Form.{Form}
use Rattle.sql_tokens.specs.declared.lexeme.Form.TheVariants as form
use Rattle.sql_tokens.specs.declared.lexeme.Lexeme.{Lexeme}
use Rattle.sql_tokens.specs.declared.lexeme.NoLexeme.{NoLexeme}
use Rattle.sql_tokens.specs.declared.lexeme.NoLexeme.TheVariants as stop

-- a lexeme of so many bytes
abbrev pub lexeme : Form → ℕ → Lexeme
lexeme f n = record { form = f; length = n }

-- a token of so many bytes
abbrev pub token : TokenKind → ℕ → Result Lexeme NoLexeme
token k n = Ok (lexeme (form.Token k) n)

-- a length that is counted from further left, if there is one
abbrev pub further : ℕ → Option ℕ → Option ℕ
further n None = None
further n (Some m) = Some (n + m)

-- a length that is counted from further left, or else another
abbrev pub further_or : ℕ → ℕ → Option ℕ → ℕ
further_or k n None = k
further_or k n (Some m) = n + m

-- a point and a digit
abbrev pub begins_fraction : List ℕ → Bool
begins_fraction bytes = begins (λ b. b == 46) bytes && begins is_digit (drop 1 bytes)

-- digits, and where a point and a digit follow, the point and its digits
abbrev pub number_behind : ℕ → List ℕ → Lexeme
number_behind whole behind =
    if begins_fraction behind then lexeme (form.Token kind.Decimal) (whole + (1 + prefix_len is_digit (drop 1 behind)))
    else lexeme (form.Token kind.Whole) whole

-- the number at the front, whatever follows it
unfoldable pub number_lexeme : List ℕ → Lexeme
number_lexeme bytes = number_behind (prefix_len is_digit bytes) (drop (prefix_len is_digit bytes) bytes)

-- a number that no letter follows directly
abbrev pub apart : Lexeme → List ℕ → Result Lexeme NoLexeme
apart p bytes = if begins is_letter (drop p.length bytes) then Err (stop.BadByte p.length) else Ok p

-- the number at the front, or the letter directly behind it
unfoldable pub number : List ℕ → Result Lexeme NoLexeme
number bytes = apart (number_lexeme bytes) bytes

-- behind a double quote: a name and a double quote
abbrev pub quoted_behind : ℕ → List ℕ → Result Lexeme NoLexeme
quoted_behind name behind =
    if begins (λ b. b == 34) behind
    then (if name == 0 then Err (stop.BadByte 1) else token kind.Quoted (name + 2))
    else Err stop.OpenText

-- the quoted name whose first quote stands before these bytes
unfoldable pub quoted : List ℕ → Result Lexeme NoLexeme
quoted behind = quoted_behind (prefix_len is_name_byte behind) (drop (prefix_len is_name_byte behind) behind)

-- behind a quote: how many bytes end the text, the most there are
abbrev pub closing : List ℕ → Option ℕ
closing [] = None
closing (b ∷ []) = if b == 39 then Some 1 else None
closing (b ∷ c ∷ bs) =
    if b == 39
    then (if c == 39 then Some (further_or 1 2 (closing bs)) else Some 1)
    else further 1 (closing (c ∷ bs))

-- a text, by where it ends behind its first quote
abbrev pub text_lexeme : Option ℕ → Result Lexeme NoLexeme
text_lexeme None = Err stop.OpenText
text_lexeme (Some n) = token kind.Text (1 + n)

-- behind `/*`: how many bytes end the comment
abbrev pub comment_end : List ℕ → Option ℕ
comment_end [] = None
comment_end (b ∷ []) = None
comment_end (b ∷ c ∷ bs) = if ends_comment b c then Some 2 else further 1 (comment_end (c ∷ bs))

-- a block comment, by where it ends behind its `/*`
abbrev pub comment_lexeme : Option ℕ → Result Lexeme NoLexeme
comment_lexeme None = Err stop.OpenText
comment_lexeme (Some n) = Ok (lexeme form.BlockComment (2 + n))

-- a symbol: two bytes, one byte, or `$` and digits
unfoldable pub symbol : ℕ → List ℕ → Result Lexeme NoLexeme
symbol b bs =
    if begins (is_pair b) bs then token kind.Symbol 2
    else (if is_mark b then token kind.Symbol 1
    else (if b == 36 && begins is_digit bs then token kind.Symbol (1 + prefix_len is_digit bs)
    else Err (stop.BadByte 0)))

-- the lexeme at the front of b ∷ bs, by what b can begin
abbrev pub front_by : Class → ℕ → List ℕ → Result Lexeme NoLexeme
front_by class.Blank b bs = Ok (lexeme form.Blank 1)
front_by class.Letter b bs = token kind.Word (1 + prefix_len is_word_byte bs)
front_by class.Digit b bs = number (b ∷ bs)
front_by class.Point b bs = if begins is_digit bs then number (b ∷ bs) else token kind.Symbol 1
front_by class.Quote b bs = quoted bs
front_by class.Apostrophe b bs = text_lexeme (closing bs)
front_by class.Minus b bs =
    if begins (λ c. c == 45) bs then Ok (lexeme form.LineComment (1 + prefix_len is_line_byte bs)) else token kind.Symbol 1
front_by class.Slash b bs =
    if begins (λ c. c == 42) bs then comment_lexeme (comment_end (drop 1 bs)) else token kind.Symbol 1
front_by class.Other b bs = symbol b bs

-- the lexeme at the front of a text, or why there is none
abbrev pub front : List ℕ → Result Lexeme NoLexeme
front [] = Err stop.OpenText
front (b ∷ bs) = front_by (class_of b) b bs
