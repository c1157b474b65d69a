-- The parts of a set, one below the other. A part of a set shares no digit with the rest.
use Rattle.std.proofs.Common.{◌≡◌, ℕ, zero, suc, ◌+◌, ◌-◌, ◌*◌, ◌/◌, ◌%◌, ◌<◌, ◌≤◌, inl, inr, bit_and, bit_or, sym, ap, ◌∙◌, arith}
use Rattle.std.proofs.lemmas.Bool.{cases_lt}
use Rattle.std.proofs.lemmas.Nat.{and_block, and_comm, and_le_l, and_le_r, and_mask, and_or_self, or_disjoint, div-add-mod', mod_below}

-- a number is twice its half and its last digit
halves : (n : ℕ) → n ≡ n / 2 * 2 + n % 2
halves n = sym (div-add-mod' n 2)

digit : (n : ℕ) → n % 2 < 2
digit n = mod_below n 2 (omega arith)

and_halves : (a b : ℕ) → bit_and a b ≡ bit_and (a / 2) (b / 2) * 2 + bit_and (a % 2) (b % 2)
and_halves a b =
    ap (λ t. bit_and t b) (halves a) ∙ ap (bit_and (a / 2 * 2 + a % 2)) (halves b) ∙ and_block 1 (a / 2) (b / 2) (a % 2) (b % 2) (digit a) (digit b)

-- digits k of t and the rest of t aren't both one
digits_apart : (k t : ℕ) → k ≤ t → t < 2 → bit_and k (t - k) ≡ 0
digits_apart k t h g = omega (arith, and_le_l k (t - k), and_le_r k (t - k))

-- what a mask leaves of a set is a part of it
masked : (w n s : ℕ) → s ≤ w → bit_and (bit_and n s) (s - bit_and n s) ≡ 0
masked zero n s small = omega (arith, and_le_l (bit_and n s) (s - bit_and n s), and_le_r n s)
masked (suc w) n s small =
    let r : ℕ = bit_and (n / 2) (s / 2) in
    let k : ℕ = bit_and (n % 2) (s % 2) in
    let is : bit_and n s ≡ r * 2 + k = and_halves n s in
    let some : r ≤ s / 2 = and_le_r (n / 2) (s / 2) in
    let last : k ≤ s % 2 = and_le_r (n % 2) (s % 2) in
    let whole = halves s in
    let small_digit = digit s in
    let rest : s - bit_and n s ≡ (s / 2 - r) * 2 + (s % 2 - k) = omega arith in
    let before : bit_and r (s / 2 - r) ≡ 0 = masked w (n / 2) (s / 2) (omega arith) in
    let here : bit_and k (s % 2 - k) ≡ 0 = digits_apart k (s % 2) last small_digit in
    let joined : bit_and (r * 2 + k) ((s / 2 - r) * 2 + (s % 2 - k)) ≡ bit_and r (s / 2 - r) * 2 + bit_and k (s % 2 - k) = and_block 1 r (s / 2 - r) k (s % 2 - k) (omega arith) (omega arith) in
    ap (λ t. bit_and t (s - bit_and n s)) is ∙ ap (bit_and (r * 2 + k)) rest ∙ joined ∙ omega arith

-- a part is what it leaves of the set
part_masks : (x s : ℕ) → x ≤ s → bit_and x (s - x) ≡ 0 → bit_and x s ≡ x
part_masks x s within apart =
    let union : bit_or (s - x) x ≡ s = or_disjoint (s - x) x (and_comm (s - x) x ∙ apart) ∙ omega arith in
    and_comm x s ∙ ap (λ t. bit_and t x) (sym union) ∙ and_or_self x (s - x)

-- likewise each half
half_masks : (x s : ℕ) → bit_and x s ≡ x → (bit_and (x / 2) (s / 2) ≡ x / 2) × (bit_and (x % 2) (s % 2) ≡ x % 2)
half_masks x s h =
    let is = and_halves x s in
    let whole = halves x in
    let few = digit x in
    let last = and_le_l (x % 2) (s % 2) in
    (omega arith, omega arith)

-- a part below another one is at most what the number before that leaves of the set
below_masked : (w p x s : ℕ) → p ≤ w → bit_and p s ≡ p → bit_and x s ≡ x → x < p → x ≤ bit_and (p - 1) s
below_masked zero p x s small of_p of_x less = absurd (omega arith)
below_masked (suc w) p x s small of_p of_x less =
    let p_whole = halves p in
    let x_whole = halves x in
    let s_whole = halves s in
    let p_digit = digit p in
    let x_digit = digit x in
    let s_digit = digit s in
    let p_half = half_masks p s of_p in
    let x_half = half_masks x s of_x in
    elim (cases_lt 0 (p % 2)) [
      | inl odd ↦
          let before : p - 1 ≡ p / 2 * 2 + 0 = omega arith in
          let is : bit_and (p - 1) s ≡ bit_and (p / 2) (s / 2) * 2 + bit_and 0 (s % 2) = ap (λ t. bit_and t s) before ∙ ap (bit_and (p / 2 * 2 + 0)) s_whole ∙ and_block 1 (p / 2) (s / 2) 0 (s % 2) (omega arith) s_digit in
          omega (arith, is, p_half.0)
      | inr even ↦
          let before : p - 1 ≡ (p / 2 - 1) * 2 + 1 = omega arith in
          let is : bit_and (p - 1) s ≡ bit_and (p / 2 - 1) (s / 2) * 2 + bit_and 1 (s % 2) = ap (λ t. bit_and t s) before ∙ ap (bit_and ((p / 2 - 1) * 2 + 1)) s_whole ∙ and_block 1 (p / 2 - 1) (s / 2) 1 (s % 2) (omega arith) s_digit in
          let one : bit_and 1 (s % 2) ≡ s % 2 % 2 = and_comm 1 (s % 2) ∙ and_mask (s % 2) 1 in
          let digit_in = and_le_r (x % 2) (s % 2) in
          let high = below_masked w (p / 2) (x / 2) (s / 2) (omega arith) p_half.0 x_half.0 (omega arith) in
          omega (arith, is, one, digit_in, high, x_half.1)
    ]

-- the part that the number before a part leaves
module _ (s p : ℕ) where
  pub below_apart : bit_and (bit_and (p - 1) s) (s - bit_and (p - 1) s) ≡ 0
  below_apart = masked s (p - 1) s (omega arith)

  pub none_between : p ≤ s → bit_and p (s - p) ≡ 0 → (x : ℕ) → bit_and (p - 1) s < x → x < p → ¬ (bit_and x (s - x) ≡ 0)
  none_between within apart x above less of_x =
      absurd (omega (arith, below_masked p p x s (omega arith) (part_masks p s within apart) (part_masks x s (omega arith) of_x) less))
