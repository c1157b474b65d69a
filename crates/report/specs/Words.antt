-- Words with numbers, and lines of them.
use Rattle.std.specs.Fmt.{signed_decimal}
use Rattle.std.specs.Prelude.{ℕ, ℤ, List, [], ◌∷◌, ◌++◌, decimal}

-- what stands before a number, and the number
abbrev pub numbered : List ℕ → ℕ → List ℕ
numbered words n = words ++ decimal n

-- what stands before a number that may be negative, and the number
abbrev pub signed : List ℕ → ℤ → List ℕ
signed words z = words ++ signed_decimal z

abbrev pub line : List ℕ → List ℕ
line text = text ++ 10 ∷ []
