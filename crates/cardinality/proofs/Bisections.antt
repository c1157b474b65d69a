-- What bisection finds in the ends of a histogram, and what shares are made of.
use Rattle.std.proofs.Common.{◌≡◌, inl, inr, ℕ, ◌+◌, ◌-◌, ◌*◌, ◌<◌, ◌≤◌, sym, subst, arith}
use Rattle.std.specs.Prelude.{true, false, ◌/◌, List, length, slice_index_or, ℤ, pos, ◌≤ℤ◌, ◌<ℤ◌, int_le}
use Rattle.std.specs.List.Sorted.{IsPartitionedBy, IsPartitionPoint}
use Rattle.std.proofs.lemmas.Bool.{cases_lt}
use Rattle.std.proofs.lemmas.Int.{ints}
use Rattle.std.proofs.lemmas.List.{get_or_default}
use Rattle.adv_base.specs.declared.limits.TheConstants.{WHOLE}
use Rattle.adv_base.specs.Limits.Numbers.{BoundsLimits}
use Rattle.adv_base.specs.Shares.{end_at, bucket, bucket_width, share}
use Rattle.adv_base.specs.Sums.{height}
use Rattle.adv_base.proofs.ShareLaws.{IsBucket, bucket-one, bucket-is, ends-rise, IsInside, inside-is, some-width, share-inside}

-- no end at most v comes after one above it
pub is_partitioned : (ends : List ℤ) (v : ℤ) → BoundsLimits ends → IsPartitionedBy (λ e. int_le e v) ends
is_partitioned ends v limits i j d before within low =
    let first : slice_index_or ends i d ≡ end_at ends i = get_or_default ends i d (pos 0) (omega arith) in
    let last : slice_index_or ends j d ≡ end_at ends j = get_or_default ends j d (pos 0) within in
    let at : i + (j - i) ≡ j = omega arith in
    let rise : end_at ends i ≤ℤ end_at ends j = subst (λ k. end_at ends i ≤ℤ end_at ends k) at (ends-rise ends limits i (j - i) (omega arith)) in
    let low' : int_le (end_at ends j) v ≡ true = subst (λ e. int_le e v ≡ true) last low in
    let low'' : end_at ends j ≤ℤ v = grind (arith, ints) in
    let lower : end_at ends i ≤ℤ v = omega (arith, ints, rise, low'') in
    let lower' : int_le (end_at ends i) v ≡ true = grind (arith, ints) in
    subst (λ e. int_le e v ≡ true) (sym first) lower'

-- the ends at most v are counted
record IsCount (ends : List ℤ) (v : ℤ) (r : ℕ) : Type 0 where
  low : (k : ℕ) → k < r → end_at ends k ≤ℤ v
  high : (k : ℕ) → r ≤ k → k < length ends → v <ℤ end_at ends k
  within : r ≤ length ends

count-is : (ends : List ℤ) (v : ℤ) (r : ℕ) → IsPartitionPoint (λ e. int_le e v ≡ true) (λ e. int_le e v ≡ false) ends r → r ≤ length ends → IsCount ends v r
count-is ends v r point within = record {
  low = λ k under. let test : int_le (end_at ends k) v ≡ true = point.0 k (pos 0) (omega arith) under in grind (arith, ints);
  high = λ k over inside. let test : int_le (end_at ends k) v ≡ false = point.1 k (pos 0) over inside in grind (arith, ints);
  within = within;
}

-- the last of them is the bucket
pub point-is : (ends : List ℤ) (v : ℤ) (r : ℕ) → end_at ends 0 <ℤ v → v <ℤ end_at ends (length ends - 1) →
    IsPartitionPoint (λ e. int_le e v ≡ true) (λ e. int_le e v ≡ false) ends r → r ≤ length ends →
    (1 ≤ r) × (r < length ends) × (r - 1 ≡ bucket ends v (length ends - 1))
point-is ends v r above below point most =
    let n : ℕ = length ends - 1 in
    let is : IsCount ends v r = count-is ends v r point most in
    let some : 1 ≤ r = elim (cases_lt 0 r) [
      | inl more ↦ more
      | inr none ↦ elim (cases_lt 0 (length ends)) [
        | inl ample ↦ let first : v <ℤ end_at ends 0 = is.high 0 none ample in absurd (omega (arith, ints, first, above))
        | inr empty ↦ let at : n ≡ 0 = omega arith in
            let last : v <ℤ end_at ends 0 = subst (λ k. v <ℤ end_at ends k) at below in
            absurd (omega (arith, ints, last, above))
      ]
    ] in
    let inner : r < length ends = elim (cases_lt r (length ends)) [
      | inl less ↦ less
      | inr whole ↦ let last : end_at ends n ≤ℤ v = is.low n (omega arith) in absurd (omega (arith, ints, last, below))
    ] in
    let found : IsBucket ends v n (r - 1) = record {
      within = omega arith;
      low = is.low (r - 1) (omega arith);
      high = λ j over inside. is.high j (omega arith) (omega arith);
    } in
    (some, inner, bucket-one ends v n (r - 1) (bucket ends v n) found (bucket-is ends v n (omega (arith, ints, above))))

-- the numbers of a share, by the names that code gives them
pub share-made : (ends : List ℤ) (v : ℤ) (i w h : ℕ) → end_at ends 0 <ℤ v → v <ℤ end_at ends (length ends - 1) →
    i ≡ bucket ends v (length ends - 1) → w ≡ bucket_width ends i → h ≡ height v (end_at ends i) →
    (0 < (length ends - 1) * w) × (WHOLE * (i * w + h) / ((length ends - 1) * w) ≡ share ends v)
share-made ends v i w h above below is wide high =
    let inside : IsInside ends v (bucket ends v (length ends - 1)) = inside-is ends v above below in
    rw (wide, high, is) (some-width (length ends - 1) _ _ _ inside.inner inside.less, sym (share-inside ends v above below))
