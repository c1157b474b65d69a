-- The range of a column's values.
use Rattle.std.specs.Prelude.{ℕ, ◌*◌, ℤ, Option, Some, None}
use Rattle.adv_base.specs.declared.limits.TheConstants.{WHOLE}
use Rattle.adv_base.specs.Sums.{clamped_part, height}
use Rattle.cardinality.specs.declared.range.Range.{Range}

-- the share of a range that a length is, where the range is known
abbrev pub share_or : Option Range → (ℤ → ℤ → ℕ) → ℕ → ℕ
share_or (Some range) share unknown = clamped_part (WHOLE * share range.low range.high) (height range.high range.low)
share_or None share unknown = unknown
