-- The first line of bytes.
use Rattle.std.proofs.Common.{◌≡◌, ◌≢◌, ◌∙◌, ◌⊎◌, inl, inr, ℕ, zero, suc, ◌+◌, ◌<◌, List, [], ◌∷◌, ◌++◌, length, get_or, take, drop, sym, ap, subst, refl, arith, length-append}
use Rattle.adv_base.specs.Numbers.{BeginsWithLine}

-- bytes from a place on, with the byte there
cut-at : (xs : List ℕ) (k x : ℕ) → k < length xs → get_or xs k 0 ≡ x → xs ≡ take k xs ++ x ∷ drop (suc k) xs
cut-at [] k x h e = absurd (omega arith)
cut-at (y ∷ ys) zero x h e = ap (λ (z : ℕ). z ∷ ys) e
cut-at (y ∷ ys) (suc k) x h e = ap (λ (zs : List ℕ). y ∷ zs) (cut-at ys k x (omega arith) e)

get-before : (xs ys : List ℕ) (k d : ℕ) → k < length xs → get_or (xs ++ ys) k d ≡ get_or xs k d
get-before [] ys k d h = absurd (omega arith)
get-before (x ∷ xs) ys zero d h = refl
get-before (x ∷ xs) ys (suc k) d h = get-before xs ys k d (omega arith)

get-at : (xs ys : List ℕ) (y d : ℕ) → get_or (xs ++ y ∷ ys) (length xs) d ≡ y
get-at [] ys y d = refl
get-at (x ∷ xs) ys y d = get-at xs ys y d

take-front : (xs ys : List ℕ) → take (length xs) (xs ++ ys) ≡ xs
take-front [] ys = refl
take-front (x ∷ xs) ys = ap (λ (zs : List ℕ). x ∷ zs) (take-front xs ys)

drop-front : (xs ys : List ℕ) (y : ℕ) → drop (suc (length xs)) (xs ++ y ∷ ys) ≡ ys
drop-front [] ys y = refl
drop-front (x ∷ xs) ys y = drop-front xs ys y

-- a byte of a line
line-byte : (bytes line rest : List ℕ) → BeginsWithLine bytes line rest → (k : ℕ) → k < length line → get_or bytes k 0 ≢ 10
line-byte bytes line rest h k within e =
    let at : get_or (line ++ 10 ∷ rest) k 0 ≡ 10 = subst (λ (b : List ℕ). get_or b k 0 ≡ 10) h.parts e in
    h.whole k 0 within (sym (get-before line (10 ∷ rest) k 0 within) ∙ at)

line-end : (bytes line rest : List ℕ) → BeginsWithLine bytes line rest → (get_or bytes (length line) 0 ≡ 10) × (length line < length bytes)
line-end bytes line rest h =
    let long : length bytes ≡ length line + length (10 ∷ rest) = ap length h.parts ∙ length-append line (10 ∷ rest) in
    (ap (λ (b : List ℕ). get_or b (length line) 0) h.parts ∙ get-at line rest 10 0, omega arith)

line-length : (bytes line rest : List ℕ) (len : ℕ) → BeginsWithLine bytes line rest → ((k : ℕ) → k < len → get_or bytes k 0 ≢ 10) → get_or bytes len 0 ≡ 10 → len ≡ length line
line-length bytes line rest len h before at =
    elim (order len (length line)) [
      | inl same ↦ same
      | inr apart ↦
          elim apart [
            | inl short ↦ absurd (line-byte bytes line rest h len short at)
            | inr long ↦ absurd (before (length line) long (line-end bytes line rest h).0)
          ]
    ]
  where
    order : (m n : ℕ) → (m ≡ n) ⊎ ((m < n) ⊎ (n < m))
    order zero zero = inl refl
    order zero (suc n) = inr (inl (omega arith))
    order (suc m) zero = inr (inr (omega arith))
    order (suc m) (suc n) =
        elim (order m n) [
          | inl same ↦ inl (ap suc same)
          | inr apart ↦ elim apart [ inl less ↦ inr (inl (omega arith)) | inr more ↦ inr (inr (omega arith)) ]
        ]

-- and no other bytes are the first line
pub line-only : (bytes line rest : List ℕ) (len : ℕ) → BeginsWithLine bytes line rest → ((k : ℕ) → k < len → get_or bytes k 0 ≢ 10) → get_or bytes len 0 ≡ 10 →
    (take len bytes ≡ line) × (drop (len + 1) bytes ≡ rest)
line-only bytes line rest len h before at =
    let same : len ≡ length line = line-length bytes line rest len h before at in
    let next : len + 1 ≡ suc (length line) = omega arith in (
      ap (λ (n : ℕ). take n bytes) same ∙ ap (take (length line)) h.parts ∙ take-front line (10 ∷ rest),
      ap (λ (n : ℕ). drop n bytes) next ∙ ap (drop (suc (length line))) h.parts ∙ drop-front line rest 10,
    )

-- without a line feed there is no line
pub line-none : (bytes line rest : List ℕ) → ((k : ℕ) → k < length bytes → get_or bytes k 0 ≢ 10) → BeginsWithLine bytes line rest → ⊥
line-none bytes line rest none h =
    let end = line-end bytes line rest h in none (length line) end.1 end.0

-- a text has at most one first line
pub one_line : (bytes line rest other more : List ℕ) → BeginsWithLine bytes line rest → BeginsWithLine bytes other more → (line ≡ other) × (rest ≡ more)
one_line bytes line rest other more h g =
    let one = line-only bytes line rest (length line) h (line-byte bytes line rest h) (line-end bytes line rest h).0 in
    let two = line-only bytes other more (length line) g (line-byte bytes line rest h) (line-end bytes line rest h).0 in
    (sym one.0 ∙ two.0, sym one.1 ∙ two.1)
