-- Elements of lists, and lists with one element written.
use Rattle.std.proofs.Common.{◌≡◌, ◌∙◌, ◌⊎◌, inl, inr, ℕ, zero, suc, ◌+◌, ◌<◌, Bool, true, false, List, [], ◌∷◌, ◌++◌, length, map, All, refl, sym, ap, subst, arith}
use Rattle.std.specs.Prelude.{Some, slice_get, slice_index_or, slice_set}
use Rattle.std.specs.List.{list_any}
use Rattle.std.specs.Option.{option_map_or}
use Rattle.std.proofs.lemmas.Bool.{false≢true, or_cases}
use Rattle.std.proofs.lemmas.Option.{slice_get_cases}
use Rattle.bip_model.specs.StandsFor.{AreEach}

-- ## Two lists in one

pub front-of : {X : Type 0} (xs ys : List X) (i : ℕ) (x : X) → slice_get xs i ≡ Some x → slice_get (xs ++ ys) i ≡ Some x
front-of [] ys i x found = absurd (cc)
front-of (z ∷ xs) ys zero x found = found
front-of (z ∷ xs) ys (suc i) x found = front-of xs ys i x found

pub back-of : {X : Type 0} (xs ys : List X) (i : ℕ) (x : X) → slice_get ys i ≡ Some x → slice_get (xs ++ ys) (length xs + i) ≡ Some x
back-of [] ys i x found = let same : 0 + i ≡ i = omega arith in ap (slice_get ys) same ∙ found
back-of (z ∷ xs) ys i x found =
    let same : length (z ∷ xs) + i ≡ suc (length xs + i) = omega arith in
    ap (slice_get (z ∷ xs ++ ys)) same ∙ back-of xs ys i x found

-- an element of the second list
pub record IsBehind {X : Type 0} (xs ys : List X) (i : ℕ) (x : X) : Type 0 where
  pub number : ℕ
  pub place : i ≡ length xs + number
  pub found : slice_get ys number ≡ Some x

pub either-of : {X : Type 0} (xs ys : List X) (i : ℕ) (x : X) → slice_get (xs ++ ys) i ≡ Some x → (slice_get xs i ≡ Some x) ⊎ IsBehind xs ys i x
either-of [] ys i x found = inr (record { number = i; place = omega arith; found = found })
either-of (z ∷ xs) ys zero x found = inl found
either-of (z ∷ xs) ys (suc i) x found =
    elim (either-of xs ys i x found) [
      | inl front ↦ inl front
      | inr back ↦ inr (record { number = back.number; place = omega (arith, back.place); found = back.found })
    ]

-- ## One element written

pub map-set : {X Y : Type 0} (f : X → Y) (xs : List X) (i : ℕ) (x : X) → map f (slice_set xs i x) ≡ slice_set (map f xs) i (f x)
map-set f [] i x = refl
map-set f (y ∷ ys) zero x = refl
map-set f (y ∷ ys) (suc i) x = ap (λ (zs : List _). f y ∷ zs) (map-set f ys i x)

pub set-same : (flags : List Bool) (i : ℕ) → slice_index_or flags i false ≡ false → slice_set flags i false ≡ flags
set-same [] i off = refl
set-same (flag ∷ flags) zero off = ap (λ (b : Bool). b ∷ flags) (sym off)
set-same (flag ∷ flags) (suc i) off = ap (λ (bs : List Bool). flag ∷ bs) (set-same flags i off)

-- what was overwritten, and is written back
pub set-back : {X : Type 0} (xs : List X) (i : ℕ) (x y : X) → slice_get xs i ≡ Some x → slice_set (slice_set xs i y) i x ≡ xs
set-back [] i x y found = refl
set-back (z ∷ zs) zero x y found = let same : x ≡ z = cc in ap (λ w. w ∷ zs) same
set-back (z ∷ zs) (suc i) x y found = ap (λ ws. z ∷ ws) (set-back zs i x y found)

pub set-there : (flags : List Bool) (i : ℕ) → i < length flags → slice_index_or (slice_set flags i true) i false ≡ true
set-there [] i within = absurd (omega (arith, within))
set-there (flag ∷ flags) zero within = refl
set-there (flag ∷ flags) (suc i) within = set-there flags i (omega (arith, within))

pub on-get : (flags : List Bool) (i : ℕ) → slice_get flags i ≡ Some true → slice_index_or flags i false ≡ true
on-get [] i found = absurd (cc)
on-get (flag ∷ flags) zero found = cc
on-get (flag ∷ flags) (suc i) found = on-get flags i found

pub map-or : {X : Type 0} (f : X → ℕ) (xs : List X) (i : ℕ) → option_map_or f (slice_get xs i) 0 ≡ slice_index_or (map f xs) i 0
map-or f [] i = refl
map-or f (x ∷ xs) zero = refl
map-or f (x ∷ xs) (suc i) = map-or f xs i

-- ## Some element

-- an element of a list that passes a test
pub record IsFound {X : Type 0} (test : X → Bool) (xs : List X) : Type 0 where
  pub number : ℕ
  pub element : X
  pub found : slice_get xs number ≡ Some element
  pub passes : test element ≡ true

pub any-found : {X : Type 0} (test : X → Bool) (xs : List X) → list_any test xs ≡ true → IsFound test xs
any-found test [] e = absurd (false≢true e)
any-found test (x ∷ xs) e =
    elim (or_cases (test x) (list_any test xs) e) [
      | inl here ↦ record { number = 0; element = x; found = refl; passes = here }
      | inr later ↦
          let rest = any-found test xs later in
          record { number = suc rest.number; element = rest.element; found = rest.found; passes = rest.passes }
    ]

-- ## All elements

pub map-same : {A B C : Type 0} (f : A → B) (g : B → C) (h : A → C) → ((x : A) → g (f x) ≡ h x) → (xs : List A) → map g (map f xs) ≡ map h xs
map-same f g h same [] = refl
map-same f g h same (x ∷ xs) = ap (λ (y : _). y ∷ map g (map f xs)) (same x) ∙ ap (λ (ys : List _). h x ∷ ys) (map-same f g h same xs)

pub All-some : {X : Type 0} (P : X → Type 0) (xs : List X) (i : ℕ) (x : X) → All P xs → slice_get xs i ≡ Some x → P x
All-some P xs i x all found =
    elim (slice_get_cases xs i).1 [
      | inl there ↦ let same : there.0 ≡ x = cc in subst P (there.3 ∙ same) (all i there.0 there.1)
      | inr past ↦ absurd (cc)
    ]

pub append-none : {A : Type 0} (xs ys : List A) → ys ≡ [] → xs ++ ys ≡ xs
append-none [] ys none = none
append-none (x ∷ xs) ys none = ap (λ (zs : List _). x ∷ zs) (append-none xs ys none)

-- ## Elements in pairs

-- one pair more
pub each-more : {A B : Type 0} (P : A → B → Type 0) (xs : List A) (ys : List B) (x : A) (y : B) → AreEach P xs ys → P x y → AreEach P (xs ++ x ∷ []) (ys ++ y ∷ [])
each-more P [] [] x y are one = (one, tt)
each-more P [] (b ∷ ys) x y are one = absurd are
each-more P (a ∷ xs) [] x y are one = absurd are
each-more P (a ∷ xs) (b ∷ ys) x y are one = (are.0, each-more P xs ys x y are.1 one)

-- as many pairs as elements
pub each-length : {A B : Type 0} (P : A → B → Type 0) (xs : List A) (ys : List B) → AreEach P xs ys → length ys ≡ length xs
each-length P [] [] are = refl
each-length P [] (b ∷ ys) are = absurd are
each-length P (a ∷ xs) [] are = absurd are
each-length P (a ∷ xs) (b ∷ ys) are = ap suc (each-length P xs ys are.1)

pub each-map : {A B : Type 0} (P Q : A → B → Type 0) → ((x : A) (y : B) → P x y → Q x y) → (xs : List A) (ys : List B) → AreEach P xs ys → AreEach Q xs ys
each-map P Q more [] [] are = tt
each-map P Q more [] (y ∷ ys) are = absurd are
each-map P Q more (x ∷ xs) [] are = absurd are
each-map P Q more (x ∷ xs) (y ∷ ys) are = (more x y are.0, each-map P Q more xs ys are.1)
