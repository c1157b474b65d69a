-- Sets of slots as numbers, slot by slot, and sums over them.
use Rattle.std.proofs.Common.{◌≡◌, ◌≢◌, inl, inr, ℕ, zero, suc, ◌+◌, ◌*◌, ◌^◌, ◌<◌, ◌≤◌, ◌==◌, Bool, true, false, cond, not, bit_and, min, max, refl, sym, ap, ◌∙◌, arith}
use Rattle.std.proofs.Math.Nat.{one-le-pow}
use Rattle.std.proofs.lemmas.Bool.{cases_Bool, cases_lt, eqb-true, false≢true}
use Rattle.std.proofs.lemmas.Nat.{or_disjoint}
use Rattle.std.proofs.lemmas.Nat.Bits.{and_pow, bit_at_and, bit_at_or, bit_at-lt, bit_at-zero, bit_at-pow_same, bit_at-pow_other, bit_at_ones, bit_at_above}
use Rattle.std.specs.Int.{bit_at}
use Rattle.adv_base.specs.Sets.{all_slots, has_slot}
use Rattle.plan_model.specs.Exchange.{sum_over, sum_below}

-- ## A slot of a set is a binary digit of its number

bit-none : (set slot : ℕ) → bit_at set slot ≡ 0 → has_slot set slot ≡ false
bit-none set slot e =
    let none : bit_and set (2 ^ slot) ≡ 0 = and_pow set slot ∙ ap (λ t. t * 2 ^ slot) e ∙ omega arith in
    ap (λ (t : ℕ). not (t == 0)) none

bit-some : (set slot : ℕ) → bit_at set slot ≡ 1 → has_slot set slot ≡ true
bit-some set slot e =
    let some : bit_and set (2 ^ slot) ≡ 2 ^ slot = and_pow set slot ∙ ap (λ t. t * 2 ^ slot) e ∙ omega arith in
    let positive : 0 < 2 ^ slot = one-le-pow slot 2 (omega arith) in
    elim (cases_Bool (bit_and set (2 ^ slot) == 0)) [
      | inl none ↦ let zero_is : bit_and set (2 ^ slot) ≡ 0 = eqb-true (bit_and set (2 ^ slot)) 0 none in absurd (omega (arith, some, positive, zero_is))
      | inr other ↦ ap not other
    ]

pub has-bit : (set slot : ℕ) → has_slot set slot ≡ true → bit_at set slot ≡ 1
has-bit set slot h =
    elim (cases_lt 0 (bit_at set slot)) [
      | inl some ↦ omega (arith, some, bit_at-lt set slot)
      | inr none ↦ absurd (false≢true (sym (bit-none set slot (omega (arith, none))) ∙ h))
    ]

pub lacks-bit : (set slot : ℕ) → has_slot set slot ≡ false → bit_at set slot ≡ 0
lacks-bit set slot h =
    elim (cases_lt 0 (bit_at set slot)) [
      | inl some ↦ absurd (false≢true (sym h ∙ bit-some set slot (omega (arith, some, bit_at-lt set slot))))
      | inr none ↦ omega (arith, none)
    ]

pub bit-sum : (a b i : ℕ) → bit_and a b ≡ 0 → bit_at (a + b) i ≡ bit_at a i + bit_at b i
bit-sum a b i apart =
    let both : min (bit_at a i) (bit_at b i) ≡ 0 = sym (bit_at_and a b i) ∙ (ap (λ n. bit_at n i) apart ∙ bit_at-zero i) in
    let union : bit_at (a + b) i ≡ max (bit_at a i) (bit_at b i) = ap (λ n. bit_at n i) (sym (or_disjoint a b apart)) ∙ bit_at_or a b i in
    omega (arith, both, union)

-- ## Slots of the union of disjoint sets, of one slot, of all slots

pub has-left : (a b slot : ℕ) → bit_and a b ≡ 0 → has_slot a slot ≡ true → has_slot (a + b) slot ≡ true
has-left a b slot apart h =
    bit-some (a + b) slot (omega (arith, bit-sum a b slot apart, has-bit a slot h, bit_at-lt (a + b) slot))

pub has-right : (a b slot : ℕ) → bit_and a b ≡ 0 → has_slot b slot ≡ true → has_slot (a + b) slot ≡ true
has-right a b slot apart h =
    bit-some (a + b) slot (omega (arith, bit-sum a b slot apart, has-bit b slot h, bit_at-lt (a + b) slot))

pub has-neither : (a b slot : ℕ) → bit_and a b ≡ 0 → has_slot a slot ≡ false → has_slot b slot ≡ false → has_slot (a + b) slot ≡ false
has-neither a b slot apart h g =
    bit-none (a + b) slot (omega (arith, bit-sum a b slot apart, lacks-bit a slot h, lacks-bit b slot g))

-- a slot of the one isn't of the other
pub has-apart : (a b slot : ℕ) → bit_and a b ≡ 0 → has_slot a slot ≡ true → has_slot b slot ≡ false
has-apart a b slot apart h =
    elim (cases_Bool (has_slot b slot)) [
      | inl both ↦ absurd (omega (arith, bit-sum a b slot apart, has-bit a slot h, has-bit b slot both, bit_at-lt (a + b) slot))
      | inr other ↦ other
    ]

-- a slot of the union that isn't of the one is of the other
pub has-right-where : (a b slot : ℕ) → bit_and a b ≡ 0 → has_slot (a + b) slot ≡ true → has_slot a slot ≡ false → has_slot b slot ≡ true
has-right-where a b slot apart has other =
    bit-some b slot (omega (arith, bit-sum a b slot apart, has-bit (a + b) slot has, lacks-bit a slot other))

-- likewise the other way round
pub has-apart_right : (a b slot : ℕ) → bit_and a b ≡ 0 → has_slot b slot ≡ true → has_slot a slot ≡ false
has-apart_right a b slot apart h =
    elim (cases_Bool (has_slot a slot)) [
      | inl both ↦ absurd (omega (arith, bit-sum a b slot apart, has-bit a slot both, has-bit b slot h, bit_at-lt (a + b) slot))
      | inr other ↦ other
    ]

pub has-single : (slot : ℕ) → has_slot (2 ^ slot) slot ≡ true
has-single slot = bit-some (2 ^ slot) slot (bit_at-pow_same slot)

pub has-other : (slot other : ℕ) → other ≢ slot → has_slot (2 ^ slot) other ≡ false
has-other slot other h = bit-none (2 ^ slot) other (bit_at-pow_other slot other h)

pub has-all : (n slot : ℕ) → slot < n → has_slot (all_slots n) slot ≡ true
has-all n slot below = bit-some (all_slots n) slot (bit_at_ones n slot below)

-- the slots of a set below 2^n are below n
pub has-below : (set n slot : ℕ) → set < 2 ^ n → has_slot set slot ≡ true → slot < n
has-below set n slot small h =
    elim (cases_lt slot n) [
      | inl below ↦ below
      | inr above ↦ let none = bit_at_above set n slot small above in absurd (omega (arith, none, has-bit set slot h))
    ]

-- ## Sums over sets

part-joined : (here there whole : Bool) (f : ℕ → ℕ) (x y : ℕ) → (here ≡ true → whole ≡ true) → (there ≡ true → whole ≡ true) → (here ≡ true → there ≡ false) → (here ≡ false → there ≡ false → whole ≡ false) → cond whole (f (cond here x y)) 0 ≡ cond here (f x) 0 + cond there (f y) 0
part-joined true true whole f x y left right apart neither = absurd (false≢true (sym (apart refl)))
part-joined true false whole f x y left right apart neither = ap (λ t. cond t (f x) 0) (left refl) ∙ omega arith
part-joined false true whole f x y left right apart neither = ap (λ t. cond t (f y) 0) (right refl) ∙ omega arith
part-joined false false whole f x y left right apart neither = ap (λ t. cond t (f y) 0) (neither refl refl) ∙ omega arith

-- the sum over a union of disjoint sets, where a function goes by the set that has the slot
pub sum_over-joined : (a b : ℕ) (f : ℕ → ℕ → ℕ) (x y : ℕ → ℕ) (n : ℕ) → bit_and a b ≡ 0 → sum_over (a + b) (λ slot. f slot (cond (has_slot a slot) (x slot) (y slot))) n ≡ sum_over a (λ slot. f slot (x slot)) n + sum_over b (λ slot. f slot (y slot)) n
sum_over-joined a b f x y zero apart = refl
sum_over-joined a b f x y (suc n) apart =
    let before : sum_over (a + b) (λ slot. f slot (cond (has_slot a slot) (x slot) (y slot))) n ≡ sum_over a (λ slot. f slot (x slot)) n + sum_over b (λ slot. f slot (y slot)) n = sum_over-joined a b f x y n apart in
    let here : cond (has_slot (a + b) n) (f n (cond (has_slot a n) (x n) (y n))) 0 ≡ cond (has_slot a n) (f n (x n)) 0 + cond (has_slot b n) (f n (y n)) 0 =
    part-joined (has_slot a n) (has_slot b n) (has_slot (a + b) n) (f n) (x n) (y n) (has-left a b n apart) (has-right a b n apart) (has-apart a b n apart) (has-neither a b n apart) in
    omega (arith, before, here)

sum_over-none : (slot : ℕ) (f : ℕ → ℕ) (n : ℕ) → n ≤ slot → sum_over (2 ^ slot) f n ≡ 0
sum_over-none slot f zero below = refl
sum_over-none slot f (suc n) below =
    let before : sum_over (2 ^ slot) f n ≡ 0 = sum_over-none slot f n (omega arith) in
    let here : cond (has_slot (2 ^ slot) n) (f n) 0 ≡ 0 = ap (λ t. cond t (f n) 0) (has-other slot n (omega arith)) in
    omega (arith, before, here)

-- the sum over one slot
pub sum_over-single : (slot : ℕ) (f : ℕ → ℕ) (n : ℕ) → slot < n → sum_over (2 ^ slot) f n ≡ f slot
sum_over-single slot f zero below = absurd (omega arith)
sum_over-single slot f (suc n) below =
    elim (cases_lt slot n) [
      | inl less ↦
          let before : sum_over (2 ^ slot) f n ≡ f slot = sum_over-single slot f n less in
          let here : cond (has_slot (2 ^ slot) n) (f n) 0 ≡ 0 = ap (λ t. cond t (f n) 0) (has-other slot n (omega arith)) in
          omega (arith, before, here)
      | inr last ↦
          let same : n ≡ slot = omega arith in
          let before : sum_over (2 ^ slot) f n ≡ 0 = sum_over-none slot f n last in
          let here : cond (has_slot (2 ^ slot) n) (f n) 0 ≡ f slot = ap (λ t. cond (has_slot (2 ^ slot) t) (f t) 0) same ∙ ap (λ t. cond t (f slot) 0) (has-single slot) in
          omega (arith, before, here)
    ]

-- the sum over a set that has each slot below n
pub sum_over-all : (set : ℕ) (f : ℕ → ℕ) (n : ℕ) → ((slot : ℕ) → slot < n → has_slot set slot ≡ true) → sum_over set f n ≡ sum_below f n
sum_over-all set f zero h = refl
sum_over-all set f (suc n) h =
    let before : sum_over set f n ≡ sum_below f n = sum_over-all set f n (λ slot below. h slot (omega (arith, below))) in
    let here : cond (has_slot set n) (f n) 0 ≡ f n = ap (λ t. cond t (f n) 0) (h n (omega arith)) in
    omega (arith, before, here)

pub sum_below-same : (f g : ℕ → ℕ) (n : ℕ) → ((slot : ℕ) → slot < n → f slot ≡ g slot) → sum_below f n ≡ sum_below g n
sum_below-same f g zero h = refl
sum_below-same f g (suc n) h =
    let before : sum_below f n ≡ sum_below g n = sum_below-same f g n (λ slot below. h slot (omega (arith, below))) in
    let here : f n ≡ g n = h n (omega arith) in
    omega (arith, before, here)

pub sum_below-le : (f g : ℕ → ℕ) (n : ℕ) → ((slot : ℕ) → slot < n → f slot ≤ g slot) → sum_below f n ≤ sum_below g n
sum_below-le f g zero h = omega arith
sum_below-le f g (suc n) h =
    let before : sum_below f n ≤ sum_below g n = sum_below-le f g n (λ slot below. h slot (omega (arith, below))) in
    let here : f n ≤ g n = h n (omega arith) in
    omega (arith, before, here)

pub sum_below-add : (f g : ℕ → ℕ) (n : ℕ) → sum_below (λ slot. f slot + g slot) n ≡ sum_below f n + sum_below g n
sum_below-add f g zero = refl
sum_below-add f g (suc n) =
    let before : sum_below (λ slot. f slot + g slot) n ≡ sum_below f n + sum_below g n = sum_below-add f g n in
    omega (arith, before)
