-- Two sets of slots that make a whole: each slot is in exactly one of them.
use Rattle.std.proofs.Common.{◌≡◌, ℕ, zero, suc, ◌+◌, ◌-◌, ◌*◌, ◌/◌, ◌%◌, ◌^◌, ◌<◌, ◌≤◌, ◌∙◌, arith, inl, inr, ◌⊎◌}
use Rattle.std.specs.Int.{bit_at}
use Rattle.std.proofs.Math.Nat.{pow-suc}
use Rattle.std.proofs.lemmas.Nat.{pow_pos}
use Rattle.std.proofs.lemmas.Nat.Bits.{bit_at_lowest, bit_at-suc}

-- twice a power of two
pub double : (n : ℕ) → (2 ^ suc n ≡ 2 * 2 ^ n) × (1 ≤ 2 ^ n)
double n = (let p = pow-suc 2 n in omega arith, let q : 0 < 2 ^ n = pow_pos n in omega arith)

-- two numbers whose sum is all ones have opposite bits
pub bits_opposite : (n a b i : ℕ) → a + b ≡ 2 ^ n - 1 → i < n → bit_at a i + bit_at b i ≡ 1
bits_opposite zero a b i e lt = absurd (omega arith)
bits_opposite (suc n) a b zero e lt =
    let d = double n in
    rw (bit_at_lowest a, bit_at_lowest b) (omega arith)
bits_opposite (suc n) a b (suc i) e lt =
    let d = double n in
    rw (bit_at-suc a i, bit_at-suc b i) (bits_opposite n (a / 2) (b / 2) i (omega arith) (omega arith))

-- a number that isn't 0 has a bit
pub some_bit : (n a : ℕ) → 0 < a → a ≤ 2 ^ n - 1 → (i : ℕ) × (i < n) × (bit_at a i ≡ 1)
some_bit zero a some le = absurd (omega arith)
some_bit (suc n) a some le =
    let d = double n in
    let parts : (a % 2 ≡ 1) ⊎ ((0 < a / 2) × (a / 2 ≤ 2 ^ n - 1)) = grind arith in
    elim parts [
      | inl odd ↦ (0, omega arith, bit_at_lowest a ∙ odd)
      | inr half ↦ let deep = some_bit n (a / 2) half.0 half.1 in (suc deep.0, omega arith, bit_at-suc a deep.0 ∙ deep.2)
    ]
