-- Laws of the sums.
use Rattle.std.proofs.Common.{◌≡◌, inl, inr, ℕ, zero, suc, ◌-◌, ◌*◌, ◌^◌, ◌<◌, ◌≤◌, refl, sym, arith, ◌∙◌, ap}
use Rattle.std.proofs.Math.Nat.{one-le-pow, mul-le-mul_left, mul-le-mul}
use Rattle.std.proofs.Math.Pow.{pow_mono}
use Rattle.std.proofs.lemmas.Bool.{cases_lt}
use Rattle.std.proofs.lemmas.Bool.Decides.{nat_tests}
use Rattle.std.proofs.lemmas.Grind.{div_ceil_times}
use Rattle.std.specs.Int.Count.{count_leading_zeros, leading_of_zero}
use Rattle.std.proofs.lemmas.Nat.{leading_top}
use Rattle.adv_base.specs.Sums.{digits_within, binary_digits, times_part}

digits_within-below : (k n : ℕ) → n < 2 ^ k → digits_within (suc k) n ≡ digits_within k n
unfolding digits_within
digits_within-below k n h = grind (arith, nat_tests)

digits_within-above : (k n : ℕ) → 2 ^ k ≤ n → digits_within (suc k) n ≡ suc k
unfolding digits_within
digits_within-above k n h = grind (arith, nat_tests)

-- a number of suc j digits
pub digits_within-of : (k j n : ℕ) → suc j ≤ k → 2 ^ j ≤ n → n < 2 ^ suc j → digits_within k n ≡ suc j
digits_within-of zero j n h low high = absurd (omega arith)
digits_within-of (suc k) j n h low high =
    elim (cases_lt j k) [
      | inl below ↦
          let fits : 2 ^ suc j ≤ 2 ^ k = pow_mono below in
          digits_within-below k n (omega arith) ∙ digits_within-of k j n below low high
      | inr above ↦
          let same : j ≡ k = omega arith in
          let low' : 2 ^ k ≤ n = rw (← same) low in
          digits_within-above k n low' ∙ ap suc (sym same)
    ]

pub digits_within-zero : (k : ℕ) → digits_within k 0 ≡ 0
unfolding digits_within
digits_within-zero zero = refl
digits_within-zero (suc k) = digits_within-below k 0 (one-le-pow k 2 (omega arith)) ∙ digits_within-zero k

-- counting leading zeros tells the binary digits
pub leading-digits : (n : ℕ) → n < 2 ^ 64 → (64 - count_leading_zeros 64 n ≡ binary_digits n) × (n < 2 ^ (64 - count_leading_zeros 64 n)) × (0 < n → 2 ^ (64 - count_leading_zeros 64 n - 1) ≤ n)
unfolding binary_digits
leading-digits zero h =
    let none = leading_of_zero 64 in
    (ap (λ (z : ℕ). 64 - z) none ∙ sym (digits_within-zero 64), rw none (omega arith), λ some. absurd (omega arith))
leading-digits (suc n) h =
    let top = leading_top 64 (suc n) (omega arith) h in
    let j : ℕ = top.0 in
    let count : 64 - count_leading_zeros 64 (suc n) ≡ suc j = omega (arith, top.1) in
    let less : 64 - count_leading_zeros 64 (suc n) - 1 ≡ j = omega (arith, top.1) in
    (count ∙ sym (digits_within-of 64 j (suc n) (omega (arith, top.1)) top.2 top.3), rw count top.3, λ some. rw less top.2)

-- what a number of at least 1 is taken through stays between 1 and that number
pub times_part-bounds : (n part : ℕ) → 1 ≤ n → 1 ≤ part → part ≤ 1000000000 → (1 ≤ times_part n part) × (times_part n part ≤ n)
unfolding times_part
times_part-bounds n part some part_some part_most =
    let whole : n * part ≤ n * 1000000000 = mul-le-mul_left n part_most in
    let least : 1 * 1 ≤ n * part = mul-le-mul some part_some in
    let bounds = div_ceil_times (n * part) 1000000000 (omega arith) in
    (omega (arith, bounds.0, least), omega (arith, bounds.1, whole))
