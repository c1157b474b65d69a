-- A configuration file: numbers of candidates, one a line, strictly rising.
use Rattle.std.specs.Prelude.{◌≡◌, ◌≢◌, ℕ, ◌+◌, ◌-◌, ◌<◌, ◌≤◌, Bool, true, false, List, [], ◌∷◌, ◌++◌, length, replicate, slice_set, decimal}
use Rattle.adv_base.specs.declared.limits.TheConstants.{MOST_CANDIDATES}
use Rattle.adv_base.specs.declared.setting.Config.{Config}

-- the lines of numbers, each ended by a line feed
abbrev pub lines_of : List ℕ → List ℕ
lines_of [] = []
lines_of (n ∷ ns) = decimal n ++ 10 ∷ lines_of ns

-- they rise from above the last number to at most the count of candidates
abbrev pub Rise : ℕ → ℕ → List ℕ → Type 0
Rise count last [] = Unit {0}
Rise count last (n ∷ ns) = (last < n) × ((n ≤ count) × Rise count n ns)

-- the last of them
abbrev pub last_of : ℕ → List ℕ → ℕ
last_of last [] = last
last_of last (n ∷ ns) = last_of n ns

-- the flags behind those so far, with those of these candidates on
abbrev pub flags_with : List Bool → List ℕ → List Bool
flags_with flags [] = flags
flags_with flags (n ∷ ns) = flags_with (slice_set flags (n - 1) true) ns

-- the bytes are the lines of rising numbers, and these candidates and no others are on
pub record IsConf (count : ℕ) (bytes : List ℕ) (config : Config) : Type 0 where
  pub numbers : List ℕ
  pub text : bytes ≡ lines_of numbers
  pub rise : Rise count 0 numbers
  pub flags : config.on ≡ flags_with (replicate MOST_CANDIDATES false) numbers

-- no line of a number above the last one comes first
abbrev pub NoLine : ℕ → ℕ → List ℕ → Type 0
NoLine count last bytes = (n : ℕ) (more : List ℕ) → last < n → n ≤ count → bytes ≢ decimal n ++ 10 ∷ more

-- lines of rising numbers come before the line of that number, which is none that goes on
pub record IsConfFault (count : ℕ) (bytes : List ℕ) (line : ℕ) : Type 0 where
  pub numbers : List ℕ
  pub rest : List ℕ
  pub text : bytes ≡ lines_of numbers ++ rest
  pub rise : Rise count 0 numbers
  pub line_is : line ≡ length numbers + 1
  pub some : rest ≢ []
  pub no_line : NoLine count (last_of 0 numbers) rest
