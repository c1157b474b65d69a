-- The sums of the cost model.
use Rattle.std.specs.Prelude.{ℕ, zero, suc, ◌*◌, ◌^◌, min, max, nat_lt, if◌then◌else◌, ℤ, pos, negsuc, ◌-ℤ◌}
use Rattle.std.specs.Int.{div_ceil}
use Rattle.adv_base.specs.declared.limits.TheConstants.{MOST_ROWS, WHOLE}

-- a number taken through a part of 10^9, rounded up
unfoldable pub times_part : ℕ → ℕ → ℕ
times_part n part = div_ceil (n * part) WHOLE

-- a quotient as a part of 10^9, rounded up and then kept between 1 and 10^9
unfoldable pub clamped_part : ℕ → ℕ → ℕ
clamped_part n d = max 1 (min WHOLE (div_ceil n d))

-- at most 10^12
abbrev pub capped : ℕ → ℕ
capped n = min MOST_ROWS n

-- the binary digits of a number below 2 ^ k: the least number of digits that hold it
unfoldable pub digits_within : ℕ → ℕ → ℕ
digits_within zero n = 0
digits_within (suc k) n = if nat_lt n (2 ^ k) then digits_within k n else suc k

unfoldable pub binary_digits : ℕ → ℕ
binary_digits n = digits_within 64 n

-- a number above zero as it is, any other as 0
abbrev pub positive_part : ℤ → ℕ
positive_part (pos n) = n
positive_part (negsuc n) = 0

-- how far a is above b, and 0 where it isn't
unfoldable pub height : ℤ → ℤ → ℕ
height a b = positive_part (a -ℤ b)
