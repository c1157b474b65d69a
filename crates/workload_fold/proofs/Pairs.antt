-- Lists whose elements are related, each to the one at its place.
use Rattle.std.proofs.Common.{◌≡◌, ℕ, zero, suc, ◌+◌, Bool, true, false, cond, List, [], ◌∷◌, ◌++◌, length, map, Option, Some, None, refl, sym, ap, ◌∙◌, arith}
use Rattle.std.specs.Prelude.{filter, fold, slice_get}
use Rattle.std.specs.List.{list_any, flat_map, filter_map, cons_option, enumerate_from}
use Rattle.std.specs.Cmp.Lexicographic.{pointwise}
use Rattle.std.proofs.lemmas.Bool.{and_parts, false≢true}
pub use Rattle.workload_fold.specs.Pairs.{Pairs}

-- by a test of which pairs are related
pub pairs_from : {X Y : Type 0} (R : X → Y → Type 0) (e : X → Y → Bool) → ((x : X) (y : Y) → e x y ≡ true → R x y) → (xs : List X) (ys : List Y) → pointwise e xs ys ≡ true → Pairs R xs ys
pairs_from R e tells [] [] h = tt
pairs_from R e tells [] (y ∷ ys) h = absurd (false≢true h)
pairs_from R e tells (x ∷ xs) [] h = absurd (false≢true h)
pairs_from R e tells (x ∷ xs) (y ∷ ys) h =
    let p = and_parts (e x y) (pointwise e xs ys) h in
    (tells x y p.0, pairs_from R e tells xs ys p.1)

-- turned round
pub pairs_turned : {X Y : Type 0} (R : X → Y → Type 0) (S : Y → X → Type 0) → ((x : X) (y : Y) → R x y → S y x) → (xs : List X) (ys : List Y) → Pairs R xs ys → Pairs S ys xs
pairs_turned R S turn [] [] h = tt
pairs_turned R S turn [] (y ∷ ys) h = absurd h
pairs_turned R S turn (x ∷ xs) [] h = absurd h
pairs_turned R S turn (x ∷ xs) (y ∷ ys) h = (turn x y h.0, pairs_turned R S turn xs ys h.1)

pub pairs_long : {X Y : Type 0} (R : X → Y → Type 0) (xs : List X) (ys : List Y) → Pairs R xs ys → length xs ≡ length ys
pairs_long R [] [] h = refl
pairs_long R [] (y ∷ ys) h = absurd h
pairs_long R (x ∷ xs) [] h = absurd h
pairs_long R (x ∷ xs) (y ∷ ys) h = let e = pairs_long R xs ys h.1 in omega (arith, e)

pub pairs_append : {X Y : Type 0} (R : X → Y → Type 0) (xs : List X) (ys : List Y) (us : List X) (vs : List Y) → Pairs R xs ys → Pairs R us vs → Pairs R (xs ++ us) (ys ++ vs)
pairs_append R [] [] us vs h k = k
pairs_append R [] (y ∷ ys) us vs h k = absurd h
pairs_append R (x ∷ xs) [] us vs h k = absurd h
pairs_append R (x ∷ xs) (y ∷ ys) us vs h k = (h.0, pairs_append R xs ys us vs h.1 k)

-- what related elements give is related
pub pairs_flat : {X Y Z : Type 0} (R : X → Y → Type 0) (f : Z → List X) (g : Z → List Y) → ((z : Z) → Pairs R (f z) (g z)) → (zs : List Z) → Pairs R (flat_map f zs) (flat_map g zs)
pairs_flat R f g each [] = tt
pairs_flat R f g each (z ∷ zs) = pairs_append R (f z) (g z) (flat_map f zs) (flat_map g zs) (each z) (pairs_flat R f g each zs)

pub pairs_filter : {X Y : Type 0} (R : X → Y → Type 0) (p : X → Bool) (q : Y → Bool) → ((x : X) (y : Y) → R x y → p x ≡ q y) → (xs : List X) (ys : List Y) → Pairs R xs ys → Pairs R (filter p xs) (filter q ys)
pairs_filter R p q same [] [] h = tt
pairs_filter R p q same [] (y ∷ ys) h = absurd h
pairs_filter R p q same (x ∷ xs) [] h = absurd h
pairs_filter R p q same (x ∷ xs) (y ∷ ys) h = kept (pairs_filter R p q same xs ys h.1) (p x) (q y) (same x y h.0)
  where
    kept : Pairs R (filter p xs) (filter q ys) → (b c : Bool) → b ≡ c → Pairs R (cond b (x ∷ filter p xs) (filter p xs)) (cond c (y ∷ filter q ys) (filter q ys))
    kept rest true true e = (h.0, rest)
    kept rest true false e = absurd (false≢true (sym e))
    kept rest false true e = absurd (false≢true e)
    kept rest false false e = rest

pub pairs_map : {X Y Z : Type 0} (R : X → Y → Type 0) (f : X → Z) (g : Y → Z) → ((x : X) (y : Y) → R x y → f x ≡ g y) → (xs : List X) (ys : List Y) → Pairs R xs ys → map f xs ≡ map g ys
pairs_map R f g same [] [] h = refl
pairs_map R f g same [] (y ∷ ys) h = absurd h
pairs_map R f g same (x ∷ xs) [] h = absurd h
pairs_map R f g same (x ∷ xs) (y ∷ ys) h =
    let here = same x y h.0 in
    let later = pairs_map R f g same xs ys h.1 in
    λ i. here i ∷ later i

pub pairs_filter_map : {X Y Z : Type 0} (R : X → Y → Type 0) (f : X → Option Z) (g : Y → Option Z) → ((x : X) (y : Y) → R x y → f x ≡ g y) → (xs : List X) (ys : List Y) → Pairs R xs ys → filter_map f xs ≡ filter_map g ys
pairs_filter_map R f g same [] [] h = refl
pairs_filter_map R f g same [] (y ∷ ys) h = absurd h
pairs_filter_map R f g same (x ∷ xs) [] h = absurd h
pairs_filter_map R f g same (x ∷ xs) (y ∷ ys) h =
    let here = same x y h.0 in
    let later = pairs_filter_map R f g same xs ys h.1 in
    λ i. cons_option (here i) (later i)

pub pairs_any : {X Y : Type 0} (R : X → Y → Type 0) (p : X → Bool) (q : Y → Bool) → ((x : X) (y : Y) → R x y → p x ≡ q y) → (xs : List X) (ys : List Y) → Pairs R xs ys → list_any p xs ≡ list_any q ys
pairs_any R p q same [] [] h = refl
pairs_any R p q same [] (y ∷ ys) h = absurd h
pairs_any R p q same (x ∷ xs) [] h = absurd h
pairs_any R p q same (x ∷ xs) (y ∷ ys) h =
    let here = same x y h.0 in
    let later = pairs_any R p q same xs ys h.1 in
    rw (here, later) refl

pub pairs_fold : {X Y Z : Type 0} (R : X → Y → Type 0) (f : Z → X → Z) (g : Z → Y → Z) → ((z : Z) (x : X) (y : Y) → R x y → f z x ≡ g z y) → (z : Z) (xs : List X) (ys : List Y) → Pairs R xs ys → fold f z xs ≡ fold g z ys
pairs_fold R f g same z [] [] h = refl
pairs_fold R f g same z [] (y ∷ ys) h = absurd h
pairs_fold R f g same z (x ∷ xs) [] h = absurd h
pairs_fold {X} {Y} {Z} R f g same z (x ∷ xs) (y ∷ ys) h =
    pairs_fold R f g same (f z x) xs ys h.1 ∙ ap (λ (w : Z). fold g w ys) (same z x y h.0)

-- a look-up by place
pub pairs_at : {X Y Z : Type 0} (R : X → Y → Type 0) (f : Option X → Z) (g : Option Y → Z) → f None ≡ g None → ((x : X) (y : Y) → R x y → f (Some x) ≡ g (Some y)) → (xs : List X) (ys : List Y) → Pairs R xs ys → (n : ℕ) → f (slice_get xs n) ≡ g (slice_get ys n)
pairs_at R f g none some [] [] h n = none
pairs_at R f g none some [] (y ∷ ys) h n = absurd h
pairs_at R f g none some (x ∷ xs) [] h n = absurd h
pairs_at R f g none some (x ∷ xs) (y ∷ ys) h zero = some x y h.0
pairs_at R f g none some (x ∷ xs) (y ∷ ys) h (suc n) = pairs_at R f g none some xs ys h.1 n

-- elements with their places
pub pairs_numbered : {X Y Z : Type 0} (R : X → Y → Type 0) (f : ℕ × X → List Z) (g : ℕ × Y → List Z) → ((n : ℕ) (x : X) (y : Y) → R x y → f (n, x) ≡ g (n, y)) → (n : ℕ) (xs : List X) (ys : List Y) → Pairs R xs ys → flat_map f (enumerate_from n xs) ≡ flat_map g (enumerate_from n ys)
pairs_numbered R f g same n [] [] h = refl
pairs_numbered R f g same n [] (y ∷ ys) h = absurd h
pairs_numbered R f g same n (x ∷ xs) [] h = absurd h
pairs_numbered R f g same n (x ∷ xs) (y ∷ ys) h =
    let here = same n x y h.0 in
    let later = pairs_numbered R f g same (n + 1) xs ys h.1 in
    λ i. here i ++ later i
