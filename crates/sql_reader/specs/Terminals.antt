-- The terminals of a text, and its faults beside those of the grammar.
use Rattle.std.specs.Prelude.{◌≡◌, ℕ, ℤ, zero, suc, ◌+◌, Bool, true, false, List, [], ◌∷◌, slice_index, slice_range, Option, Some, None, if◌then◌else◌}
use Rattle.sql_tokens.specs.declared.token.Token.{Token}
use Rattle.sql_tokens.specs.declared.token.TokenKind.{TokenKind}
use Rattle.sql_tokens.specs.declared.token.TokenKind.TheVariants as token
use Rattle.sql_reader.specs.declared.kind.TerminalKind.{TerminalKind}
use Rattle.sql_reader.specs.declared.kind.TerminalKind.TheVariants as kinds
use Rattle.sql_reader.specs.declared.terminal.Terminal.{Terminal}
use Rattle.sql_reader.specs.declared.terminal.Mark.{Mark}
use Rattle.sql_reader.specs.declared.parsed.ParsedStatement.{ParsedStatement}
use Rattle.sql_reader.specs.Kinds.{has}
use Rattle.sql_reader.specs.Grammar.{starts}
use Rattle.sql_reader.specs.Values.{place_of}
use Rattle.sql_reader.specs.Words.{word_kind, quoted_kind, symbol_kind, whole_number, text_day, comment_weight}

-- the bytes of a token
abbrev pub bytes_of : List ℕ → Token → List ℕ
bytes_of text t = slice_range text t.span.from t.span.to

abbrev pub kind_of_text : Option ℤ → TerminalKind
kind_of_text None = kinds.Text
kind_of_text (Some day) = kinds.Day

-- the kind of a token with these bytes; a weight comment is no terminal
abbrev pub kind_of : TokenKind → List ℕ → TerminalKind
kind_of token.Word bytes = word_kind bytes
kind_of token.Quoted bytes = quoted_kind bytes
kind_of token.Whole bytes = kinds.Whole
kind_of token.Decimal bytes = kinds.Decimal
kind_of token.Text bytes = kind_of_text (text_day bytes)
kind_of token.Symbol bytes = symbol_kind (slice_index bytes 0) (slice_index bytes 1)
kind_of token.Weight bytes = kinds.LeftOut

abbrev pub number_of : TokenKind → List ℕ → Option ℤ
number_of token.Whole bytes = whole_number bytes
number_of token.Text bytes = text_day bytes
number_of _ bytes = None

-- the terminal that a token is, behind the weight comment that the mark names
pub record IsTerminal (text : List ℕ) (mark : Mark) (t : Token) (p : Terminal) : Type 0 where
  pub kind : p.kind ≡ kind_of t.kind (bytes_of text t)
  pub span : p.span ≡ t.span
  pub number : p.number ≡ number_of t.kind (bytes_of text t)
  pub mark_is : p.mark ≡ mark

abbrev pub no_mark : Mark
no_mark = record { place = 0; weight = 1 }

-- the mark behind a weight comment: it gives one where it has a weight
abbrev pub mark_or : Mark → ℕ → Option ℕ → Mark
mark_or mark place None = mark
mark_or mark place (Some n) = record { place = place; weight = n }

abbrev pub mark_behind : List ℕ → Token → Mark → Mark
mark_behind text t mark = mark_or mark (t.span.from + 1) (comment_weight (bytes_of text t))

abbrev pub is_weight : TokenKind → Bool
is_weight token.Weight = true
is_weight _ = false

-- one token more: a weight comment is the mark of the tokens behind it, every other token is a terminal
abbrev pub WithToken : List ℕ → Mark → Token → (Mark → List Terminal → Type 0) → Bool → List Terminal → Type 0
WithToken text mark t behind true terminals = behind (mark_behind text t mark) terminals
WithToken text mark t behind false terminals = (p : Terminal) × (rest : List Terminal) × (terminals ≡ p ∷ rest) × IsTerminal text mark t p × behind mark rest

-- the tokens are these terminals and weight comments, behind the weight comment that the mark names
abbrev pub AreTerminals : List ℕ → List Token → Mark → List Terminal → Type 0
AreTerminals text [] mark terminals = terminals ≡ []
AreTerminals text (t ∷ ts) mark terminals = WithToken text mark t (AreTerminals text ts) (is_weight t.kind) terminals

-- a weight comment without a weight
abbrev pub lacks_weight : TokenKind → Option ℕ → Bool
lacks_weight token.Weight None = true
lacks_weight _ _ = false

abbrev pub is_bad_weight : List ℕ → Token → Bool
is_bad_weight text t = lacks_weight t.kind (comment_weight (bytes_of text t))

-- the place of the first weight comment whose number isn't 1 to 10^6
abbrev pub bad_weight : List ℕ → List Token → Option ℕ
bad_weight text [] = None
bad_weight text (t ∷ ts) = if is_bad_weight text t then Some (t.span.from + 1) else bad_weight text ts

-- the places of the words with which statements begin
abbrev pub starts_in : List Terminal → List ℕ
starts_in [] = []
starts_in (p ∷ terminals) = if has starts p.kind then place_of p ∷ starts_in terminals else starts_in terminals

-- the places at which statements begin
abbrev pub places_of : List ParsedStatement → List ℕ
places_of [] = []
places_of (s ∷ statements) = s.place ∷ places_of statements

-- the place of the first word with which statements begin that stands behind n others
abbrev pub start_behind : ℕ → List Terminal → Option ℕ
start_behind n [] = None
start_behind zero (p ∷ terminals) = if has starts p.kind then Some (place_of p) else start_behind zero terminals
start_behind (suc n) (p ∷ terminals) = if has starts p.kind then start_behind n terminals else start_behind (suc n) terminals
