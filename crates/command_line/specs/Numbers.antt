-- The number that a word is.
use Rattle.std.specs.Prelude.{ℕ, nat_le, bytes_eq, ◌&&◌, if◌then◌else◌, List, Option, Some, None, decimal}
use Rattle.std.specs.Str.Parse.{digits_value}

-- the value of a word's digits, where it lies in the range and the word is its decimal digits
unfoldable pub number_within : ℕ → ℕ → List ℕ → Option ℕ
number_within least most word =
    if bytes_eq word (decimal (digits_value 10 word)) && (nat_le least (digits_value 10 word) && nat_le (digits_value 10 word) most)
    then Some (digits_value 10 word) else None
