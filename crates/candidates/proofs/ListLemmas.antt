-- Laws of lists of columns.
use Rattle.std.proofs.Common.{◌≡◌, ℕ, zero, suc, ◌+◌, ◌-◌, ◌<◌, ◌≤◌, List, [], ◌∷◌, ◌++◌, length, map, drop, get_or, sym, ap, ◌∙◌, arith, inl, inr}
use Rattle.std.proofs.lemmas.Bool.{cases_lt}
use Rattle.std.proofs.lemmas.List.{length-map, length-drop, get_or-drop, get_or-map, take_more, take_all}
use Rattle.std.specs.Prelude.{min, take, slice_get, Some}

-- an element that is there, by its place
pub slice_get-there : {A : Type 0} (xs : List A) (i : ℕ) (y : A) → slice_get xs i ≡ Some y → (i < length xs) × ((d : A) → get_or xs i d ≡ y)
slice_get-there [] i y h = absurd (cc)
slice_get-there (x ∷ xs) zero y h = (omega arith, λ d. (let e : x ≡ y = cc in e))
slice_get-there (x ∷ xs) (suc i) y h = let rest = slice_get-there xs i y h in (omega (arith, rest.0), λ d. rest.1 d)

-- an element of what is left from a place on
pub drop-map_at : {A B : Type 0} (f : A → B) (xs : List A) (from at : ℕ) (x : A) → from ≤ at → slice_get xs at ≡ Some x
    → (at - from < length (drop from (map f xs))) × (get_or (drop from (map f xs)) (at - from) (f x) ≡ f x)
drop-map_at f xs from at x low is =
    let there = slice_get-there xs at x is in
    let whole : from + (at - from) ≡ at = omega arith in
    let long = length-map xs f in
    let rest = length-drop from (map f xs) in
    let within : at - from < length (drop from (map f xs)) = omega (arith, there.0, long, rest) in
    (within, get_or-drop from (map f xs) (at - from) (f x) ∙ ap (λ (n : ℕ). get_or (map f xs) n (f x)) whole ∙ get_or-map f xs at x (f x) there.0 ∙ ap f (there.1 x))

-- one element more of what is left from a place on
pub take-map_more : {A B : Type 0} (f : A → B) (xs : List A) (from at : ℕ) (x : A) → from ≤ at → slice_get xs at ≡ Some x
    → take (at + 1 - from) (drop from (map f xs)) ≡ take (at - from) (drop from (map f xs)) ++ f x ∷ []
take-map_more {A} {B} f xs from at x low is =
    let there = drop-map_at f xs from at x low is in
    let next : at + 1 - from ≡ at - from + 1 = omega arith in
    ap (λ (n : ℕ). take n (drop from (map f xs))) next
    ∙ take_more (drop from (map f xs)) (at - from) (f x) there.0
    ∙ ap (λ (y : B). take (at - from) (drop from (map f xs)) ++ y ∷ []) there.1

-- as many as there are, or fewer
pub take-least : {A : Type 0} (xs : List A) (k n : ℕ) → k ≡ min (length xs) n → take k xs ≡ take n xs
take-least {A} xs k n least =
    elim (cases_lt (length xs) n) [
      | inl less ↦
          let all : k ≡ length xs = omega arith in
          take_all k xs (omega arith) ∙ sym (take_all n xs (omega arith))
      | inr more ↦
          let same : k ≡ n = omega arith in
          ap (λ (m : ℕ). take m xs) same
    ]
