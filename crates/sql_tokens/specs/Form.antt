-- The forms of lexemes. Each is a test of all the bytes of a lexeme.
use Rattle.std.specs.Prelude.{◌≡◌, ℕ, ◌<◌, Bool, false, ◌||◌, ◌⊎◌, if◌then◌else◌, ◌==◌, List, [], ◌∷◌, ◌++◌, length, IsTrue}
use Rattle.std.specs.List.{list_all}
use Rattle.sql_tokens.specs.Byte.{is_letter, is_word_byte, is_digit, is_blank, is_line_byte, is_name_byte, is_mark, is_pair, ends_comment}
use Rattle.sql_tokens.specs.declared.token.TokenKind.{TokenKind}
use Rattle.sql_tokens.specs.declared.token.TokenKind.TheVariants as kind
use Rattle.sql_tokens.specs.declared.lexeme.Form.{Form}
use Rattle.sql_tokens.specs.declared.lexeme.Form.TheVariants as form

-- a letter or `_`, then letters, digits and `_`
abbrev pub IsWord : List ℕ → Type 0
IsWord [] = ⊥
IsWord (b ∷ bs) = IsTrue (is_letter b) × IsTrue (list_all is_word_byte bs)

-- one or more digits
abbrev pub IsWhole : List ℕ → Type 0
IsWhole bytes = (0 < length bytes) × IsTrue (list_all is_digit bytes)

-- digits or none, a point, and one or more digits
pub record IsDecimal (bytes : List ℕ) : Type 0 where
  pub whole : List ℕ
  pub fraction : List ℕ
  pub spelled : bytes ≡ whole ++ 46 ∷ fraction
  pub whole_digits : IsTrue (list_all is_digit whole)
  pub fraction_digits : IsWhole fraction

-- a name of one or more bytes other than `"` and line feed, in double quotes
pub record IsQuoted (bytes : List ℕ) : Type 0 where
  pub name : List ℕ
  pub spelled : bytes ≡ 34 ∷ (name ++ 34 ∷ [])
  pub some : 0 < length name
  pub name_bytes : IsTrue (list_all is_name_byte name)

-- the bytes with each quote written twice
abbrev pub doubled : List ℕ → List ℕ
doubled [] = []
doubled (b ∷ bs) = if b == 39 then 39 ∷ 39 ∷ doubled bs else b ∷ doubled bs

-- any bytes with each quote written twice, in quotes
pub record IsText (bytes : List ℕ) : Type 0 where
  pub content : List ℕ
  pub spelled : bytes ≡ 39 ∷ (doubled content ++ 39 ∷ [])

-- `$` and one or more digits
abbrev pub IsParameter : List ℕ → Type 0
IsParameter [] = ⊥
IsParameter (b ∷ bs) = (b ≡ 36) × IsWhole bs

-- one of the symbols of two bytes or of one byte, or a numbered parameter
abbrev pub IsSymbol : List ℕ → Type 0
IsSymbol [] = ⊥
IsSymbol (a ∷ []) = IsTrue (is_mark a)
IsSymbol (a ∷ b ∷ []) = IsTrue (is_pair a b) ⊎ IsParameter (a ∷ b ∷ [])
IsSymbol (a ∷ b ∷ c ∷ bs) = IsParameter (a ∷ b ∷ c ∷ bs)

-- a space, tab, line feed or carriage return
abbrev pub IsBlank : List ℕ → Type 0
IsBlank [] = ⊥
IsBlank (b ∷ []) = IsTrue (is_blank b)
IsBlank (b ∷ c ∷ bs) = ⊥

-- `--` and bytes other than line feed
abbrev pub IsLineComment : List ℕ → Type 0
IsLineComment [] = ⊥
IsLineComment (b ∷ []) = ⊥
IsLineComment (b ∷ c ∷ bs) = (b ≡ 45) × (c ≡ 45) × IsTrue (list_all is_line_byte bs)

-- whether `*/` stands somewhere in the bytes
abbrev pub holds_end : List ℕ → Bool
holds_end [] = false
holds_end (b ∷ []) = false
holds_end (b ∷ c ∷ bs) = ends_comment b c || holds_end (c ∷ bs)

-- `/*`, bytes that don't end it, `*/`; the star of the end is no part of an earlier end
pub record IsBlockComment (bytes : List ℕ) : Type 0 where
  pub inside : List ℕ
  pub spelled : bytes ≡ 47 ∷ 42 ∷ (inside ++ 42 ∷ 47 ∷ [])
  pub first_end : holds_end (inside ++ 42 ∷ []) ≡ false

-- the bytes are a token of the kind; a weight is a comment first
abbrev pub IsToken : TokenKind → List ℕ → Type 0
IsToken kind.Word bytes = IsWord bytes
IsToken kind.Quoted bytes = IsQuoted bytes
IsToken kind.Whole bytes = IsWhole bytes
IsToken kind.Decimal bytes = IsDecimal bytes
IsToken kind.Text bytes = IsText bytes
IsToken kind.Symbol bytes = IsSymbol bytes
IsToken kind.Weight bytes = ⊥

-- the bytes are a lexeme of the form
abbrev pub IsForm : Form → List ℕ → Type 0
IsForm form.Blank bytes = IsBlank bytes
IsForm form.LineComment bytes = IsLineComment bytes
IsForm form.BlockComment bytes = IsBlockComment bytes
IsForm (form.Token k) bytes = IsToken k bytes
