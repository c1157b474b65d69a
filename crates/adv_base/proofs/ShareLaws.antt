-- Laws of histograms: the bucket of a value, and that shares are parts that rise with the value.
use Rattle.std.proofs.Common.{◌≡◌, inl, inr, ℕ, zero, suc, ◌+◌, ◌-◌, ◌*◌, ◌<◌, ◌≤◌, refl, sym, subst, arith}
use Rattle.std.specs.Prelude.{true, false, ◌/◌, List, length, ℤ, pos, negsuc, ◌-ℤ◌, ◌≤ℤ◌, ◌<ℤ◌, int_le}
use Rattle.std.proofs.Math.Nat.{mul-le-mul_right, div-mul-le_self, le_of_mul-le-mul_right}
use Rattle.std.proofs.lemmas.Bool.{cases_lt, cases_order}
use Rattle.std.proofs.lemmas.Int.{ints, by_lt_z}
use Rattle.std.proofs.lemmas.Nat.{le-div, div_below}
use Rattle.adv_base.specs.declared.limits.TheConstants.{WHOLE}
use Rattle.adv_base.specs.Limits.Numbers.{BoundsLimits}
use Rattle.adv_base.specs.Shares.{end_at, bucket, bucket_width, share_in, share}
use Rattle.adv_base.specs.Sums.{positive_part, height}

-- ## Buckets

bucket-here : (ends : List ℤ) (v : ℤ) (n : ℕ) → end_at ends (suc n) ≤ℤ v → bucket ends v (suc n) ≡ suc n
unfolding bucket
bucket-here ends v n low = let test : int_le (end_at ends (suc n)) v ≡ true = grind (arith, ints) in rw test refl

bucket-before : (ends : List ℤ) (v : ℤ) (n : ℕ) → v <ℤ end_at ends (suc n) → bucket ends v (suc n) ≡ bucket ends v n
unfolding bucket
bucket-before ends v n high = let test : int_le (end_at ends (suc n)) v ≡ false = grind (arith, ints) in rw test refl

-- the greatest number of an end that is at most v
pub record IsBucket (ends : List ℤ) (v : ℤ) (n i : ℕ) : Type 0 where
  pub within : i ≤ n
  pub low : end_at ends i ≤ℤ v
  pub high : (j : ℕ) → i < j → j ≤ n → v <ℤ end_at ends j

bucket-below : (ends : List ℤ) (v : ℤ) (n : ℕ) → IsBucket ends v n (bucket ends v n) → v <ℤ end_at ends (suc n) → IsBucket ends v (suc n) (bucket ends v (suc n))
bucket-below ends v n is high = rw (bucket-before ends v n high) (record {
  within = omega (arith, is.within);
  low = is.low;
  high = λ j over within. elim (cases_lt j (suc n)) [
    | inl less ↦ is.high j over (omega arith)
    | inr most ↦ let at : suc n ≡ j = omega arith in subst (λ k. v <ℤ end_at ends k) at high
  ];
})

bucket-last : (ends : List ℤ) (v : ℤ) (n : ℕ) → end_at ends (suc n) ≤ℤ v → IsBucket ends v (suc n) (bucket ends v (suc n))
bucket-last ends v n here = rw (bucket-here ends v n here) (record { within = omega arith; low = here; high = λ j over within. absurd (omega arith) })

pub bucket-is : (ends : List ℤ) (v : ℤ) (n : ℕ) → end_at ends 0 ≤ℤ v → IsBucket ends v n (bucket ends v n)
unfolding bucket
bucket-is ends v zero low = record { within = omega arith; low = low; high = λ j above within. absurd (omega arith) }
bucket-is ends v (suc n) low = by_lt_z v (end_at ends (suc n)) (bucket-below ends v n (bucket-is ends v n low)) (bucket-last ends v n)

-- there is one such number
pub bucket-one : (ends : List ℤ) (v : ℤ) (n i j : ℕ) → IsBucket ends v n i → IsBucket ends v n j → i ≡ j
bucket-one ends v n i j is js =
    elim (cases_order i j) [
      | inl same ↦ same
      | inr (inl less) ↦ let high = is.high j less js.within in let low = js.low in absurd (omega (arith, ints))
      | inr (inr more) ↦ let high = js.high i more is.within in let low = is.low in absurd (omega (arith, ints))
    ]

-- of a value that is no less the bucket is no lower
pub bucket-rises : (ends : List ℤ) (v w : ℤ) (n i j : ℕ) → v ≤ℤ w → IsBucket ends v n i → IsBucket ends w n j → i ≤ j
bucket-rises ends v w n i j rise is js =
    elim (cases_lt j i) [
      | inl less ↦ let high = js.high i less is.within in let low = is.low in absurd (omega (arith, ints))
      | inr most ↦ most
    ]

-- ends that rise step by step
pub ends-rise : (ends : List ℤ) → BoundsLimits ends → (i n : ℕ) → i + n < length ends → end_at ends i ≤ℤ end_at ends (i + n)
ends-rise ends limits i zero within = let at : i ≡ i + 0 = omega arith in subst (λ k. end_at ends i ≤ℤ end_at ends k) at (omega (arith, ints))
ends-rise ends limits i (suc n) within =
    let before : end_at ends i ≤ℤ end_at ends (i + n) = ends-rise ends limits i n (omega arith) in
    let step : end_at ends (i + n) ≤ℤ end_at ends (suc (i + n)) = limits.rising (i + n) (omega arith) in
    let at : suc (i + n) ≡ i + suc n = omega arith in
    subst (λ k. end_at ends i ≤ℤ end_at ends k) at (omega (arith, ints, before, step))

-- ## Heights

part-rises : (x y : ℤ) → x ≤ℤ y → positive_part x ≤ positive_part y
part-rises (pos m) (pos n) le = omega (arith, ints, le)
part-rises (pos m) (negsuc n) le = absurd (omega (arith, ints, le))
part-rises (negsuc m) (pos n) le = omega arith
part-rises (negsuc m) (negsuc n) le = omega arith

part-grows : (x y : ℤ) → pos 0 ≤ℤ x → x <ℤ y → positive_part x < positive_part y
part-grows (pos m) (pos n) least lt = omega (arith, ints, lt)
part-grows (pos m) (negsuc n) least lt = absurd (omega (arith, ints, lt))
part-grows (negsuc m) (pos n) least lt = absurd (omega (arith, ints, least))
part-grows (negsuc m) (negsuc n) least lt = absurd (omega (arith, ints, least))

height-rises : (a b bottom : ℤ) → a ≤ℤ b → height a bottom ≤ height b bottom
unfolding height
height-rises a b bottom le = part-rises (a -ℤ bottom) (b -ℤ bottom) (omega (arith, ints, le))

height-grows : (a b bottom : ℤ) → bottom ≤ℤ a → a <ℤ b → height a bottom < height b bottom
unfolding height
height-grows a b bottom least lt = part-grows (a -ℤ bottom) (b -ℤ bottom) (omega (arith, ints, least)) (omega (arith, ints, lt))

-- ## Shares

-- a value in a bucket that it doesn't fill
pub record IsInside (ends : List ℤ) (v : ℤ) (i : ℕ) : Type 0 where
  pub is : IsBucket ends v (length ends - 1) i
  pub inner : i < length ends - 1
  pub less : height v (end_at ends i) < bucket_width ends i

pub inside-is : (ends : List ℤ) (v : ℤ) → end_at ends 0 <ℤ v → v <ℤ end_at ends (length ends - 1) → IsInside ends v (bucket ends v (length ends - 1))
inside-is ends v above below =
    let n : ℕ = length ends - 1 in
    let i : ℕ = bucket ends v n in
    let is : IsBucket ends v n i = bucket-is ends v n (omega (arith, ints)) in
    let inner : i < n = elim (cases_lt i n) [
      | inl less ↦ less
      | inr most ↦ let at : i ≡ n = omega (arith, is.within) in
          let low : end_at ends n ≤ℤ v = subst (λ k. end_at ends k ≤ℤ v) at is.low in
          absurd (omega (arith, ints, low, below))
    ] in
    let next : v <ℤ end_at ends (suc i) = is.high (suc i) (omega arith) (omega arith) in
    record { is = is; inner = inner; less = height-grows v (end_at ends (suc i)) (end_at ends i) is.low next }

-- h into the bucket i of n that are w wide
inner-most : (n i w h : ℕ) → i < n → h < w → i * w + h < n * w
inner-most n i w h inner less =
    let most : suc i * w ≤ n * w = mul-le-mul_right w inner in
    let step : suc i * w ≡ i * w + w = omega arith in
    omega arith

pub some-width : (n i w h : ℕ) → i < n → h < w → 0 < n * w
some-width n i w h inner less = let most : i * w + h < n * w = inner-most n i w h inner less in omega arith

share_in-most : (ends : List ℤ) (v : ℤ) (i : ℕ) → IsInside ends v i → share_in ends v i ≤ WHOLE
share_in-most ends v i inside =
    let n : ℕ = length ends - 1 in
    let w : ℕ = bucket_width ends i in
    let h : ℕ = height v (end_at ends i) in
    let most : i * w + h < n * w = inner-most n i w h inside.inner inside.less in
    let below : share_in ends v i < WHOLE = div_below (WHOLE * (i * w + h)) (n * w) WHOLE (some-width n i w h inside.inner inside.less) (omega (arith, most)) in
    omega (arith, below)

-- in one bucket the share rises with the height
quotient-rises : (a b d : ℕ) → 0 < d → a ≤ b → a / d ≤ b / d
quotient-rises a b d some le = let part : a / d * d ≤ a = div-mul-le_self a d in le-div (a / d) b d some (omega arith)

-- from a bucket to a later one it rises too, since what lies between is whole buckets
bucket-crossed : (n i w h j x y : ℕ) → i < j → h < w → 0 < n * w → 0 < n * x →
    WHOLE * (i * w + h) / (n * w) ≤ WHOLE * (j * x + y) / (n * x)
bucket-crossed n i w h j x y before less some some' =
    let q : ℕ = WHOLE * (i * w + h) / (n * w) in
    let part : q * (n * w) ≤ WHOLE * (i * w + h) = div-mul-le_self (WHOLE * (i * w + h)) (n * w) in
    let full : (q * n) * w ≤ (WHOLE * suc i) * w = omega (arith, part, less) in
    let ends : q * n ≤ WHOLE * suc i = le_of_mul-le-mul_right full (omega arith) in
    let later : q * n ≤ WHOLE * j = omega (arith, ends, before) in
    let scaled : (q * n) * x ≤ (WHOLE * j) * x = mul-le-mul_right x later in
    le-div q (WHOLE * (j * x + y)) (n * x) some' (omega (arith, scaled))

share_in-rises : (ends : List ℤ) (v w : ℤ) (i j : ℕ) → v ≤ℤ w → IsInside ends v i → IsInside ends w j → share_in ends v i ≤ share_in ends w j
share_in-rises ends v w i j rise inside inside' =
    let n : ℕ = length ends - 1 in
    let low : ℕ = height v (end_at ends i) in
    let high : ℕ = height w (end_at ends j) in
    let some : 0 < n * bucket_width ends i = some-width n i (bucket_width ends i) low inside.inner inside.less in
    let some' : 0 < n * bucket_width ends j = some-width n j (bucket_width ends j) high inside'.inner inside'.less in
    elim (cases_lt i j) [
      | inl before ↦ bucket-crossed n i (bucket_width ends i) low j (bucket_width ends j) high before inside.less some some'
      | inr past ↦
          let least : i ≤ j = bucket-rises ends v w n i j rise inside.is inside'.is in
          let same : i ≡ j = omega arith in
          let heights : height v (end_at ends i) ≤ height w (end_at ends i) = height-rises v w (end_at ends i) rise in
          let one : share_in ends v i ≤ share_in ends w i =
          quotient-rises (WHOLE * (i * bucket_width ends i + low)) (WHOLE * (i * bucket_width ends i + height w (end_at ends i))) (n * bucket_width ends i) some (omega (arith, heights)) in
          subst (λ k. share_in ends v i ≤ share_in ends w k) same one
    ]

-- the three cases of a share
pub share-below : (ends : List ℤ) (v : ℤ) → v ≤ℤ end_at ends 0 → share ends v ≡ 0
unfolding share
share-below ends v low = let test : int_le v (end_at ends 0) ≡ true = grind (arith, ints) in rw test refl

pub share-above : (ends : List ℤ) (v : ℤ) → end_at ends 0 <ℤ v → end_at ends (length ends - 1) ≤ℤ v → share ends v ≡ WHOLE
unfolding share
share-above ends v above high =
    let test : int_le v (end_at ends 0) ≡ false = grind (arith, ints) in
    let test' : int_le (end_at ends (length ends - 1)) v ≡ true = grind (arith, ints) in
    rw (test, test') refl

pub share-inside : (ends : List ℤ) (v : ℤ) → end_at ends 0 <ℤ v → v <ℤ end_at ends (length ends - 1) → share ends v ≡ share_in ends v (bucket ends v (length ends - 1))
unfolding share
share-inside ends v above below =
    let test : int_le v (end_at ends 0) ≡ false = grind (arith, ints) in
    let test' : int_le (end_at ends (length ends - 1)) v ≡ false = grind (arith, ints) in
    rw (test, test') refl

-- at most the whole
pub share-most : (ends : List ℤ) (v : ℤ) → share ends v ≤ WHOLE
share-most ends v =
    by_lt_z (end_at ends 0) v
    (λ above. by_lt_z v (end_at ends (length ends - 1))
    (λ below. subst (λ s. s ≤ WHOLE) (sym (share-inside ends v above below)) (share_in-most ends v _ (inside-is ends v above below)))
    (λ high. let is = share-above ends v above high in omega (arith, is)))
    (λ low. let is = share-below ends v low in omega (arith, is))

-- no less for a value that is no less
pub share-rises : (ends : List ℤ) (v w : ℤ) → v ≤ℤ w → share ends v ≤ share ends w
share-rises ends v w rise =
    by_lt_z (end_at ends 0) v
    (λ above. let above' : end_at ends 0 <ℤ w = omega (arith, ints, above, rise) in
    by_lt_z w (end_at ends (length ends - 1))
    (λ below. let below' : v <ℤ end_at ends (length ends - 1) = omega (arith, ints, below, rise) in
    let one = share-inside ends v above below' in
    let other = share-inside ends w above' below in
    let inner = share_in-rises ends v w _ _ rise (inside-is ends v above below') (inside-is ends w above' below) in
    omega (arith, one, other, inner))
    (λ high. let is = share-above ends w above' high in omega (arith, is, share-most ends v)))
    (λ low. let is = share-below ends v low in omega (arith, is))
