-- What a shelf holds, and what its calls do to that.
use Rattle.std.specs.Prelude.{◌≡◌, ℕ, ◌⊎◌, List, [], take, drop, Option, Some, IfSome, IsSomeAnd, option_map}
use Rattle.std.specs.Ordering.{nat_cmp}
use Rattle.std.specs.Cmp.Lexicographic.{slice_cmp}
use Rattle.std.specs.FinMap.{FinMap, get, insert}

-- files: from the bytes of a name to the bytes of the file
abbrev pub Files : Type 0
Files = FinMap (slice_cmp nat_cmp) (List ℕ)

-- where the shelf tells its files, there is one of this name, and its bytes have P
abbrev pub HasFile : Option Files → List ℕ → (List ℕ → Type 0) → Type 0
HasFile files name P = IfSome files (λ m. IsSomeAnd (get m name) P)

-- where the shelf tells its files, these bytes are the file of this name
abbrev pub IsFile : Option Files → List ℕ → List ℕ → Type 0
IsFile files name bytes = IfSome files (λ m. get m name ≡ Some bytes)

-- the files, with these bytes as the file of this name
abbrev pub put_file : Option Files → List ℕ → List ℕ → Option Files
put_file files name bytes = option_map (λ m. insert m name bytes) files

-- a put that failed: the file holds its old bytes or a prefix of the new ones, and all others are as they were
abbrev pub IsPutInPart : Option Files → Option Files → List ℕ → List ℕ → Type 0
IsPutInPart old new name bytes = (new ≡ old) ⊎ ((n : ℕ) × (new ≡ put_file old name (take n bytes)))

-- a read of n bytes of a file from a place on: they are the file's, and none come only at its end
pub record IsRead (file : List ℕ) (from n : ℕ) (buf : List ℕ) : Type 0 where
  pub bytes : take n buf ≡ take n (drop from file)
  pub none_at_end : n ≡ 0 → drop from file ≡ []
