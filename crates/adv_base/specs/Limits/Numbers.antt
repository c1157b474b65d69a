-- Limits of plain numbers.
use Rattle.std.specs.Prelude.{◌≢◌, ℕ, suc, ◌<◌, ◌≤◌, ℤ, pos, neg_ℤ, ◌≤ℤ◌, List, length, slice_index, All, Option}
use Rattle.std.specs.Option.{ForSome}
use Rattle.adv_base.specs.declared.limits.TheConstants.{MOST_ROWS, MOST_RATE, MOST_WIDTH, MOST_BOUNDS, MOST_KEYS}
use Rattle.adv_base.specs.Shares.{end_at}

-- each rate is at most a million thousandths of a page read
pub record RatesLimits (seq_page rand_page row_cpu sort_cpu merge_cpu hash_cpu group_cpu : ℕ) : Type 0 where
  pub seq_page_most : seq_page ≤ MOST_RATE
  pub rand_page_most : rand_page ≤ MOST_RATE
  pub row_cpu_most : row_cpu ≤ MOST_RATE
  pub sort_cpu_most : sort_cpu ≤ MOST_RATE
  pub merge_cpu_most : merge_cpu ≤ MOST_RATE
  pub hash_cpu_most : hash_cpu ≤ MOST_RATE
  pub group_cpu_most : group_cpu ≤ MOST_RATE

-- an end of a column's values lies between -10^18 and 10^18
pub record EndLimits (z : ℤ) : Type 0 where
  pub low : neg_ℤ (pos 1000000000000000000) ≤ℤ z
  pub high : z ≤ℤ pos 1000000000000000000

-- the ends of a histogram's buckets: none, or 2 to 257, none below the one before
pub record BoundsLimits (bounds : List ℤ) : Type 0 where
  pub some : 1 ≤ length bounds → 2 ≤ length bounds
  pub few : length bounds ≤ MOST_BOUNDS
  pub rising : (i : ℕ) → suc i < length bounds → end_at bounds i ≤ℤ end_at bounds (suc i)
  pub ends : All EndLimits bounds

pub record ColumnLimits (width : ℕ) (distinct : Option ℕ) (low high : Option ℤ) (bounds : List ℤ) : Type 0 where
  pub width_least : 1 ≤ width
  pub width_most : width ≤ MOST_WIDTH
  pub distinct_least : ForSome distinct (λ d. 1 ≤ d)
  pub distinct_most : ForSome distinct (λ d. d ≤ MOST_ROWS)
  pub low_end : ForSome low EndLimits
  pub high_end : ForSome high EndLimits
  pub histogram : BoundsLimits bounds

-- 1 to 8 keys, none twice
pub record KeyLimits (keys : List ℕ) : Type 0 where
  pub some : 1 ≤ length keys
  pub few : length keys ≤ MOST_KEYS
  pub apart : (i j : ℕ) → i < j → j < length keys → slice_index keys i ≢ slice_index keys j
