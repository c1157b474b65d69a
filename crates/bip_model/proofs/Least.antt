-- Laws of the least of what a list gives.
use Rattle.std.proofs.Common.{◌≡◌, ◌∙◌, ◌⊎◌, inl, inr, ℕ, zero, suc, ◌≤◌, Bool, true, false, List, [], ◌∷◌, fold, map, min, refl, ap, arith}
use Rattle.std.specs.Prelude.{Option, Some, None, if◌then◌else◌, slice_get, filter}
use Rattle.std.proofs.lemmas.Bool.{cases_lt}
use Rattle.bip_model.specs.Values.{lesser}

pub lesser-none : (a : Option ℕ) → lesser a None ≡ a
lesser-none None = refl
lesser-none (Some a) = refl

-- a number with a fact
pub record IsSome (P : ℕ → Type 0) (a : Option ℕ) : Type 0 where
  pub number : ℕ
  pub is : a ≡ Some number
  pub holds : P number

lesser-made : (a b : Option ℕ) (p : ℕ) → lesser a b ≡ Some p → (a ≡ Some p) ⊎ (b ≡ Some p)
lesser-made None b p e = inr e
lesser-made (Some a) None p e = inl e
lesser-made (Some a) (Some b) p e =
    let same : min a b ≡ p = cc in
    elim (cases_lt a b) [
      | inl less ↦ let is : a ≡ p = omega (arith, less, same) in inl (ap Some is)
      | inr more ↦ let is : b ≡ p = omega (arith, more, same) in inr (ap Some is)
    ]

lesser-left : (a b : Option ℕ) (p : ℕ) → a ≡ Some p → IsSome (λ n. n ≤ p) (lesser a b)
lesser-left None b p e = cc
lesser-left (Some a) None p e = let same : a ≡ p = cc in record { number = a; is = refl; holds = omega (arith, same) }
lesser-left (Some a) (Some b) p e = let same : a ≡ p = cc in record { number = min a b; is = refl; holds = omega (arith, same) }

lesser-right : (a b : Option ℕ) (p : ℕ) → b ≡ Some p → IsSome (λ n. n ≤ p) (lesser a b)
lesser-right None b p e = record { number = p; is = e; holds = omega arith }
lesser-right (Some a) None p e = cc
lesser-right (Some a) (Some b) p e = let same : b ≡ p = cc in record { number = min a b; is = refl; holds = omega (arith, same) }

-- an element of a list that gives a number
pub record IsMade {X : Type 0} (f : X → Option ℕ) (xs : List X) (p : ℕ) : Type 0 where
  pub number : ℕ
  pub element : X
  pub found : slice_get xs number ≡ Some element
  pub gives : f element ≡ Some p

-- the least is the one to begin with, or an element gives it
pub least-made : {X : Type 0} (f : X → Option ℕ) (best : Option ℕ) (xs : List X) (p : ℕ) → fold (λ b x. lesser b (f x)) best xs ≡ Some p → (best ≡ Some p) ⊎ IsMade f xs p
least-made f best [] p e = inl e
least-made f best (x ∷ xs) p e =
    elim (least-made f (lesser best (f x)) xs p e) [
      | inl here ↦
          elim (lesser-made best (f x) p here) [
            | inl start ↦ inl start
            | inr first ↦ inr (record { number = 0; element = x; found = refl; gives = first })
          ]
      | inr later ↦ inr (record { number = suc later.number; element = later.element; found = later.found; gives = later.gives })
    ]

-- it is at most the one to begin with
pub least-start : {X : Type 0} (f : X → Option ℕ) (best : Option ℕ) (xs : List X) (p : ℕ) → best ≡ Some p → IsSome (λ n. n ≤ p) (fold (λ b x. lesser b (f x)) best xs)
least-start f best [] p e = record { number = p; is = e; holds = omega arith }
least-start f best (x ∷ xs) p e =
    let here = lesser-left best (f x) p e in
    let rest = least-start f (lesser best (f x)) xs here.number here.is in
    record { number = rest.number; is = rest.is; holds = omega (arith, rest.holds, here.holds) }

-- and at most what an element gives
pub least-most : {X : Type 0} (f : X → Option ℕ) (best : Option ℕ) (xs : List X) (i : ℕ) (x : X) (p : ℕ) → slice_get xs i ≡ Some x → f x ≡ Some p → IsSome (λ n. n ≤ p) (fold (λ b x. lesser b (f x)) best xs)
least-most f best [] i x p found gives = absurd (cc)
least-most f best (y ∷ ys) zero x p found gives =
    let same : y ≡ x = cc in
    let here = lesser-right best (f y) p (ap f same ∙ gives) in
    let rest = least-start f (lesser best (f y)) ys here.number here.is in
    record { number = rest.number; is = rest.is; holds = omega (arith, rest.holds, here.holds) }
least-most f best (y ∷ ys) (suc i) x p found gives = least-most f (lesser best (f y)) ys i x p found gives

-- what fails a test gives nothing
pub least-filter : {X : Type 0} (test : X → Bool) (f : X → Option ℕ) (best : Option ℕ) (xs : List X) →
    fold (λ b x. lesser b (if test x then f x else None)) best xs ≡ fold (λ b x. lesser b (f x)) best (filter test xs)
least-filter test f best [] = refl
least-filter test f best (x ∷ xs) = choose (test x) (λ b. least-filter test f b xs)
  where
    choose : (b : Bool) → ((a : Option ℕ) → fold (λ b x. lesser b (if test x then f x else None)) a xs ≡ fold (λ b x. lesser b (f x)) a (filter test xs)) →
        fold (λ b x. lesser b (if test x then f x else None)) (lesser best (if b then f x else None)) xs ≡ fold (λ b x. lesser b (f x)) best (if b then x ∷ filter test xs else filter test xs)
    choose true rest = rest (lesser best (f x))
    choose false rest = ap (λ (a : Option ℕ). fold (λ b x. lesser b (if test x then f x else None)) a xs) (lesser-none best) ∙ rest best

pub least-map : {X Y : Type 0} (g : X → Y) (f : Y → Option ℕ) (best : Option ℕ) (xs : List X) → fold (λ b x. lesser b (f (g x))) best xs ≡ fold (λ b y. lesser b (f y)) best (map g xs)
least-map g f best [] = refl
least-map g f best (x ∷ xs) = least-map g f (lesser best (f (g x))) xs
