-- Numbers and lines of texts.
use Rattle.std.specs.Prelude.{◌≡◌, ◌≢◌, ℕ, ◌≤◌, ◌==◌, nat_lt, Bool, ◌&&◌, ◌||◌, List, ◌∷◌, ◌++◌, length, slice_index, All, decimal}

-- a text is a number from `least` to `most` where it is the number's decimal digits
pub record IsNumber (least most : ℕ) (text : List ℕ) (n : ℕ) : Type 0 where
  pub digits : text ≡ decimal n
  pub low : least ≤ n
  pub high : n ≤ most

-- bytes begin with a line, which a line feed ends, and go on with the rest
pub record BeginsWithLine (bytes line rest : List ℕ) : Type 0 where
  pub parts : bytes ≡ line ++ 10 ∷ rest
  pub whole : All (λ byte. byte ≢ 10) line

-- the first byte is a digit above zero, or is a zero that stands alone
abbrev pub is_plain : List ℕ → Bool
is_plain text = nat_lt 48 (slice_index text 0) || (slice_index text 0 == 48 && length text == 1)
