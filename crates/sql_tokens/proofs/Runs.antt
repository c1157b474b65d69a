-- Runs of bytes, and what the class of a byte tells.
use Rattle.std.proofs.Common.{◌≡◌, ◌≢◌, ℕ, suc, ◌+◌, Bool, true, false, eqb, cond, List, [], ◌∷◌, ◌++◌, length, take, drop, refl, arith}
use Rattle.std.specs.List.{prefix_len, list_all}
use Rattle.std.proofs.lemmas.Bool.{and_parts}
use Rattle.std.proofs.lemmas.Bool.Decides.{nat_tests}
use Rattle.sql_tokens.specs.Byte.{class_of, is_blank, is_letter, is_digit}
use Rattle.sql_tokens.specs.declared.byte.Class.{Class}
use Rattle.sql_tokens.specs.declared.byte.Class.TheVariants as class

list_all-run_more : (p : ℕ → Bool) (x n : ℕ) (xs : List ℕ) → p x ≡ true → list_all p (take n xs) ≡ true → list_all p (take (1 + n) (x ∷ xs)) ≡ true
list_all-run_more p x n xs e h = let s : 1 + n ≡ suc n = omega arith in rw s (rw e h)

-- the run itself is in the set
pub list_all-run : (p : ℕ → Bool) (xs : List ℕ) → list_all p (take (prefix_len p xs) xs) ≡ true
list_all-run p [] = refl
list_all-run p (x ∷ xs) =
    let i : list_all p (take (prefix_len p xs) xs) ≡ true = list_all-run p xs in
    let here : (v : Bool) → p x ≡ v → list_all p (take (cond v (1 + prefix_len p xs) 0) (x ∷ xs)) ≡ true =
    λ v. elim v as (λ v. p x ≡ v → list_all p (take (cond v (1 + prefix_len p xs) 0) (x ∷ xs)) ≡ true) [
      | true ↦ λ e. list_all-run_more p x (prefix_len p xs) xs e i
      | false ↦ λ e. refl
    ] in
    here (p x) refl

-- bytes of the set, and the run behind them
pub run-append : (p : ℕ → Bool) (xs ys : List ℕ) → list_all p xs ≡ true → prefix_len p (xs ++ ys) ≡ length xs + prefix_len p ys
run-append p [] ys h = omega arith
run-append p (x ∷ xs) ys h =
    let both = and_parts (p x) (list_all p xs) h in
    let e : p x ≡ true = both.0 in
    let i : prefix_len p (xs ++ ys) ≡ length xs + prefix_len p ys = run-append p xs ys both.1 in
    rw e (omega (arith, i))

-- a run that a byte outside the set ends
pub run-stops : (p : ℕ → Bool) (xs : List ℕ) (y : ℕ) (ys : List ℕ) → list_all p xs ≡ true → p y ≡ false → prefix_len p (xs ++ y ∷ ys) ≡ length xs
run-stops p xs y ys h e =
    let i : prefix_len p (xs ++ y ∷ ys) ≡ length xs + prefix_len p (y ∷ ys) = run-append p xs (y ∷ ys) h in
    let z : prefix_len p (y ∷ ys) ≡ 0 = rw e refl in
    omega (arith, i, z)

pub drop-front : (xs ys : List ℕ) → drop (length xs) (xs ++ ys) ≡ ys
drop-front [] ys = refl
drop-front (x ∷ xs) ys = drop-front xs ys

-- what the class of a byte tells of it
abbrev pub IsOfClass : Class → ℕ → Type 0
IsOfClass class.Blank b = is_blank b ≡ true
IsOfClass class.Letter b = is_letter b ≡ true
IsOfClass class.Digit b = is_digit b ≡ true
IsOfClass class.Point b = b ≡ 46
IsOfClass class.Quote b = b ≡ 34
IsOfClass class.Apostrophe b = b ≡ 39
IsOfClass class.Minus b = b ≡ 45
IsOfClass class.Slash b = b ≡ 47
IsOfClass class.Other b = (b ≢ 39) × (b ≢ 34)

class_if : (t : Bool) (k m : Class) (b : ℕ) → (t ≡ true → IsOfClass k b) → (t ≡ false → IsOfClass m b) → IsOfClass (cond t k m) b
class_if true k m b f g = f refl
class_if false k m b f g = g refl

is_not : (b n : ℕ) → b ≡ n → eqb b n ≡ false → ⊥
is_not b n q e = grind (arith, nat_tests)

pub class_tells : (b : ℕ) → IsOfClass (class_of b) b
class_tells b =
    class_if (is_blank b) class.Blank _ b (λ e. e) (λ e1.
    class_if (is_letter b) class.Letter _ b (λ e. e) (λ e2.
    class_if (is_digit b) class.Digit _ b (λ e. e) (λ e3.
    class_if (eqb b 46) class.Point _ b (λ e. grind (arith, nat_tests)) (λ e4.
    class_if (eqb b 34) class.Quote _ b (λ e. grind (arith, nat_tests)) (λ e5.
    class_if (eqb b 39) class.Apostrophe _ b (λ e. grind (arith, nat_tests)) (λ e6.
    class_if (eqb b 45) class.Minus _ b (λ e. grind (arith, nat_tests)) (λ e7.
    class_if (eqb b 47) class.Slash class.Other b (λ e. grind (arith, nat_tests)) (λ e8.
    (λ q. absurd (is_not b 39 q e6), λ q. absurd (is_not b 34 q e5))))))))))

pub class_of-letter : (b : ℕ) → is_letter b ≡ true → class_of b ≡ class.Letter
class_of-letter b e = grind (arith, nat_tests)

pub class_of-digit : (b : ℕ) → is_digit b ≡ true → class_of b ≡ class.Digit
class_of-digit b e = grind (arith, nat_tests)

pub class_of-blank : (b : ℕ) → is_blank b ≡ true → class_of b ≡ class.Blank
class_of-blank b e = rw e refl
