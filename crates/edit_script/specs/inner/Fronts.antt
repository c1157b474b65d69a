-- Edits and numbers at the front of bytes.
use Rattle.std.specs.Prelude.{◌≡◌, ℕ, ◌≤◌, List, ◌∷◌, ◌++◌, decimal}
use Rattle.edit_script.specs.Scripts.{TheEdit, edit_text, IsInRange, IsEdit}

-- a line, without its line feed, is an edit
pub record SaysEdit (line : List ℕ) (edit : TheEdit) : Type 0 where
  pub text : line ≡ edit_text edit
  pub range : IsInRange edit

-- bytes begin with the line of an edit
pub record BeginsWithEdit (bytes : List ℕ) (edit : TheEdit) (rest : List ℕ) : Type 0 where
  pub text : bytes ≡ edit_text edit ++ 10 ∷ rest
  pub is : IsEdit edit

-- bytes begin with a number within limits and a space
pub record BeginsWithNumber (most : ℕ) (bytes : List ℕ) (n : ℕ) (rest : List ℕ) : Type 0 where
  pub text : bytes ≡ decimal n ++ 32 ∷ rest
  pub low : 1 ≤ n
  pub high : n ≤ most
