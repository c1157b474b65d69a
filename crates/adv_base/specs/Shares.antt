-- Equi-depth histograms of columns: ends that part the rows into buckets of as many rows each. A value that fills buckets stands as an end more than once.
use Rattle.std.specs.Prelude.{ℕ, zero, suc, ◌+◌, ◌-◌, ◌*◌, ◌/◌, if◌then◌else◌, List, length, slice_index_or, ℤ, pos, int_le}
use Rattle.adv_base.specs.declared.limits.TheConstants.{WHOLE}
use Rattle.adv_base.specs.Sums.{height}

-- the end of a number, from 0
abbrev pub end_at : List ℤ → ℕ → ℤ
end_at ends i = slice_index_or ends i (pos 0)

-- of the ends up to number `last` the greatest number of one that is at most v
unfoldable pub bucket : List ℤ → ℤ → ℕ → ℕ
bucket ends v zero = 0
bucket ends v (suc last) = if int_le (end_at ends (suc last)) v then suc last else bucket ends v last

-- how far the ends of bucket i are apart
abbrev pub bucket_width : List ℤ → ℕ → ℕ
bucket_width ends i = height (end_at ends (suc i)) (end_at ends i)

-- the share of the rows at most v where v lies in bucket i, whose values lie evenly: the buckets before it, and its own up to v
abbrev pub share_in : List ℤ → ℤ → ℕ → ℕ
share_in ends v i = WHOLE * (i * bucket_width ends i + height v (end_at ends i)) / ((length ends - 1) * bucket_width ends i)

-- the share of the rows at most v, in parts of 10^9, rounded down
unfoldable pub share : List ℤ → ℤ → ℕ
share ends v =
    if int_le v (end_at ends 0) then 0 else
    if int_le (end_at ends (length ends - 1)) v then WHOLE else
    share_in ends v (bucket ends v (length ends - 1))
