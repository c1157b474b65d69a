-- A text cut into its longest lexemes, its tokens, and the first fault of a text that has none.
use Rattle.std.specs.Prelude.{◌≡◌, ◌≢◌, ℕ, ◌+◌, ◌≤◌, true, false, ◌==◌, ◌⊎◌, List, [], ◌∷◌, ◌++◌, length, Option, Some, None}
use Rattle.sql_tokens.specs.Byte.{is_letter, begins}
use Rattle.sql_tokens.specs.Form.{IsForm, IsText, IsQuoted, IsBlockComment, IsWhole, IsDecimal}
use Rattle.sql_tokens.specs.Weight.{weight_length}
use Rattle.sql_tokens.specs.declared.token.TokenKind.{TokenKind}
use Rattle.sql_tokens.specs.declared.token.TokenKind.TheVariants as kind
use Rattle.sql_tokens.specs.declared.token.Token.{Token}
use Rattle.sql_tokens.specs.declared.token_list.TokenFault.{TokenFault}
use Rattle.sql_tokens.specs.declared.token_list.TokenFault.TheVariants as fault
use Rattle.sql_tokens.specs.declared.lexeme.NoLexeme.{NoLexeme}
use Rattle.sql_tokens.specs.declared.lexeme.NoLexeme.TheVariants as stop
use Rattle.sql_tokens.specs.declared.lexeme.Form.{Form}
use Rattle.sql_tokens.specs.declared.lexeme.Form.TheVariants as form

-- no front of the text is one
abbrev pub NoFront : (List ℕ → Type 0) → List ℕ → Type 0
NoFront P text = (front rest : List ℕ) → text ≡ front ++ rest → P front → ⊥

-- no front of the text that is a lexeme is longer
abbrev pub IsLongest : List ℕ → List ℕ → Type 0
IsLongest bytes text = (f : Form) (front rest : List ℕ) → text ≡ front ++ rest → IsForm f front → length front ≤ length bytes

-- a quote stands first, and no text
abbrev pub OpensText : List ℕ → Type 0
OpensText [] = ⊥
OpensText (b ∷ bs) = (b ≡ 39) × NoFront IsText (b ∷ bs)

-- a double quote stands first and no other directly behind it, and no quoted name
abbrev pub OpensName : List ℕ → Type 0
OpensName [] = ⊥
OpensName (b ∷ bs) = (b ≡ 34) × (begins (λ c. c == 34) bs ≡ false) × NoFront IsQuoted (b ∷ bs)

-- `/*` stands first, and no comment
abbrev pub OpensComment : List ℕ → Type 0
OpensComment [] = ⊥
OpensComment (b ∷ []) = ⊥
OpensComment (b ∷ c ∷ bs) = (b ≡ 47) × (c ≡ 42) × NoFront IsBlockComment (b ∷ c ∷ bs)

-- a text, a quoted name or a block comment begins here that has no end
abbrev pub IsOpen : List ℕ → Type 0
IsOpen text = OpensText text ⊎ (OpensName text ⊎ OpensComment text)

-- the second quote of an empty quoted name
abbrev pub EmptyName : List ℕ → ℕ → Type 0
EmptyName [] n = ⊥
EmptyName (b ∷ bs) n = (b ≡ 34) × (begins (λ c. c == 34) bs ≡ true) × (n ≡ 1)

-- a letter directly behind a number
pub record LetterBehind (text : List ℕ) (n : ℕ) : Type 0 where
  pub number : List ℕ
  pub rest : List ℕ
  pub spelled : text ≡ number ++ rest
  pub is_number : IsWhole number ⊎ IsDecimal number
  pub letter : begins is_letter rest ≡ true
  pub place : n ≡ length number

-- the first byte is no quote, and no front is a lexeme
abbrev pub BeginsNothing : List ℕ → ℕ → Type 0
BeginsNothing [] n = ⊥
BeginsNothing (b ∷ bs) n = (b ≢ 39) × (b ≢ 34) × ((f : Form) → NoFront (IsForm f) (b ∷ bs)) × (n ≡ 0)

-- the byte behind n others begins no token, and continues none that begins here
abbrev pub IsBad : List ℕ → ℕ → Type 0
IsBad text n = EmptyName text n ⊎ (LetterBehind text n ⊎ BeginsNothing text n)

-- the bytes are the longest lexeme that stands at the front of bytes ++ rest, and no fault stands there
pub record Stands (f : Form) (bytes rest : List ℕ) : Type 0 where
  pub is_form : IsForm f bytes
  pub longest : IsLongest bytes (bytes ++ rest)
  pub closed : IsOpen (bytes ++ rest) → ⊥
  pub good : (n : ℕ) → IsBad (bytes ++ rest) n → ⊥

-- one lexeme of a text
pub record Part : Type 0 where
  pub form : Form
  pub bytes : List ℕ

-- the text is cut into these lexemes from the left, and the rest is left
abbrev pub IsCut : List Part → List ℕ → List ℕ → Type 0
IsCut [] text rest = text ≡ rest
IsCut (p ∷ ps) text rest =
    (behind : List ℕ) × (text ≡ p.bytes ++ behind) × Stands p.form p.bytes behind × IsCut ps behind rest

-- a token of so many bytes behind so many others
abbrev pub token_at : TokenKind → ℕ → ℕ → Token
token_at k at n = record { kind = k; span = record { from = at; to = at + n } }

-- the token of a weight that ends behind so many bytes of its comment, if there is one
abbrev pub weight_token : ℕ → Option ℕ → List Token
weight_token at None = []
weight_token at (Some n) = token_at kind.Weight at n ∷ []

-- the tokens of one lexeme behind so many bytes: a token is itself, a line comment may give a weight
abbrev pub tokens_of_lexeme : ℕ → Form → List ℕ → List Token
tokens_of_lexeme at form.Blank bytes = []
tokens_of_lexeme at form.LineComment bytes = weight_token at (weight_length bytes)
tokens_of_lexeme at form.BlockComment bytes = []
tokens_of_lexeme at (form.Token k) bytes = token_at k at (length bytes) ∷ []

-- the tokens of lexemes behind so many bytes
abbrev pub tokens_of : ℕ → List Part → List Token
tokens_of at [] = []
tokens_of at (p ∷ ps) = tokens_of_lexeme at p.form p.bytes ++ tokens_of (at + length p.bytes) ps

-- the text has these tokens
pub record AreTokens (text : List ℕ) (list : List Token) : Type 0 where
  pub parts : List Part
  pub cut : IsCut parts text []
  pub tokens : list ≡ tokens_of 0 parts

-- The text is cut from the left up to a rest where a byte is bad. Places count from 1.
pub record HasBadByte (text : List ℕ) (place : ℕ) : Type 0 where
  pub parts : List Part
  pub rest : List ℕ
  pub behind : ℕ
  pub cut : IsCut parts text rest
  pub bad : IsBad rest behind
  pub counted : place + length rest ≡ length text + behind + 1

-- the text is cut from the left up to a rest at whose front something begins that has no end
pub record HasOpenText (text : List ℕ) (place : ℕ) : Type 0 where
  pub parts : List Part
  pub rest : List ℕ
  pub cut : IsCut parts text rest
  pub open_text : IsOpen rest
  pub counted : place + length rest ≡ length text + 1

-- the fault is the first of the text; want of memory is none of the text's
abbrev pub HasFault : List ℕ → TokenFault → Type 0
HasFault text fault.Memory = ⊥
HasFault text (fault.BadByte place) = HasBadByte text place
HasFault text (fault.OpenText place) = HasOpenText text place

-- the tokens of the lexemes before the fault
abbrev pub tokens_before : (text : List ℕ) (e : TokenFault) → HasFault text e → List Token
tokens_before text fault.Memory has = absurd has
tokens_before text (fault.BadByte place) has = tokens_of 0 has.parts
tokens_before text (fault.OpenText place) has = tokens_of 0 has.parts

-- how many bytes stand between a rest and the byte that is no good
abbrev pub stop_length : NoLexeme → ℕ
stop_length (stop.BadByte behind) = behind
stop_length stop.OpenText = 0

-- the fault behind so many bytes
abbrev pub fault_at : ℕ → NoLexeme → TokenFault
fault_at at (stop.BadByte behind) = fault.BadByte (at + behind + 1)
fault_at at stop.OpenText = fault.OpenText (at + 1)
