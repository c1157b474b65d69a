-- Numbers in lines, a space before each.
use Rattle.std.specs.Prelude.{◌≡◌, ℕ, ◌≤◌, List, ◌∷◌, ◌++◌, decimal}
use Rattle.adv_base.specs.declared.limits.TheConstants.{MOST_PAGE_PRICE}
use Rattle.certificate.specs.Texts.{set_line}
use Rattle.std.specs.List.{slice_index_or}

-- bytes begin with a number within limits, and a space or nothing follows it
pub record BeginsWithNumber (least most : ℕ) (text : List ℕ) (n : ℕ) (rest : List ℕ) : Type 0 where
  pub parts : text ≡ decimal n ++ rest
  pub low : least ≤ n
  pub high : n ≤ most
  pub end : slice_index_or rest 0 32 ≡ 32

-- the same behind a space
pub record GoesOnWithNumber (least most : ℕ) (text : List ℕ) (n : ℕ) (rest : List ℕ) : Type 0 where
  pub parts : text ≡ 32 ∷ decimal n ++ rest
  pub low : least ≤ n
  pub high : n ≤ most
  pub end : slice_index_or rest 0 32 ≡ 32

-- bytes are a space and a number within limits
pub record IsSpacedNumber (least most : ℕ) (text : List ℕ) (n : ℕ) : Type 0 where
  pub parts : text ≡ 32 ∷ decimal n
  pub low : least ≤ n
  pub high : n ≤ most

-- a line is a word, a space and a number within limits
pub record IsNumberLine (front : List ℕ) (least most : ℕ) (line : List ℕ) (n : ℕ) : Type 0 where
  pub parts : line ≡ front ++ 32 ∷ decimal n
  pub low : least ≤ n
  pub high : n ≤ most

-- a line begins a set of so many entries at most
pub record IsSetLine (most : ℕ) (line : List ℕ) (mu count : ℕ) : Type 0 where
  pub text : line ≡ set_line mu count
  pub price : mu ≤ MOST_PAGE_PRICE
  pub few : count ≤ most
