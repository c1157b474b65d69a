-- Readings one after the other, up to the first fault.
use Rattle.std.proofs.Common.{◌≡◌, ℕ, ◌+◌, ◌≤◌, Bool, true, false, List, [], ◌∷◌, ◌++◌, length, Option, Some, None, Result, Ok, Err, refl, ap, subst, arith}
use Rattle.std.specs.Prelude.{All}
use Rattle.std.proofs.lemmas.List.Elements.{All-nil, All-push}
use Rattle.adv_base.specs.Readings.{◌>>=◌, or_fault, where_holds, in_turn, put_behind, each}
use Rattle.binder.specs.declared.fault.BindFault.{BindFault}

-- what a reading that has no fault gave on the way
pub bind_ok : {A B : Type 0} (r : Result A BindFault) (f : A → Result B BindFault) (y : B) → (r >>= f) ≡ Ok y → (x : A) × (r ≡ Ok x) × (f x ≡ Ok y)
bind_ok (Ok x) f y e = (x, refl, e)
bind_ok (Err d) f y e = absurd cc

pub or_fault_ok : {A : Type 0} (fault : BindFault) (o : Option A) (y : A) → or_fault fault o ≡ Ok y → o ≡ Some y
or_fault_ok fault None y e = absurd cc
or_fault_ok fault (Some x) y e = cc

pub where_ok : {A : Type 0} (fault : BindFault) (b : Bool) (x y : A) → where_holds fault b x ≡ Ok y → (b ≡ true) × (x ≡ y)
where_ok fault true x y e = (refl, cc)
where_ok fault false x y e = absurd cc

abbrev pub done : {A : Type 0} → A → Result A BindFault
done x = Ok x

pub ok_is : {A : Type 0} (x y : A) → done x ≡ done y → x ≡ y
ok_is x y e = cc

-- what each step keeps holds of what all steps give
pub in_turn-keeps : {S A : Type 0} (step : S → A → Result S BindFault) (P : S → Type 0) → ((s : S) (x : A) (t : S) → P s → step s x ≡ Ok t → P t)
    → (xs : List A) (s t : S) → P s → in_turn step s xs ≡ Ok t → P t
in_turn-keeps step P keeps [] s t so_far e = subst P (ok_is s t e) so_far
in_turn-keeps step P keeps (x ∷ xs) s t so_far e =
    let first = bind_ok (step s x) (λ u. in_turn step u xs) t e in
    in_turn-keeps step P keeps xs first.0 t (keeps s x first.0 so_far first.1) first.2

-- what each reading has, all readings have
pub each-All : {A B : Type 0} (f : A → Result B BindFault) (P : B → Type 0) → ((x : A) (y : B) → f x ≡ Ok y → P y) → (xs : List A) (ys : List B) → each f xs ≡ Ok ys → All P ys
each-All {A} {B} f P has xs ys e =
    in_turn-keeps (put_behind f) (All P)
    (λ done x after so_far step.
    let first = bind_ok (f x) (λ y. Ok (done ++ y ∷ [])) after step in
    subst (All P) (ok_is (done ++ first.0 ∷ []) after first.2) (All-push P done first.0 so_far (has x first.0 first.1)))
    xs [] ys (All-nil P) e

-- what each step counts up by at most one is at most the number of steps above what it was
pub in_turn-counts : {S A : Type 0} (step : S → A → Result S BindFault) (f : S → ℕ) → ((s : S) (x : A) (t : S) → step s x ≡ Ok t → f t ≤ f s + 1)
    → (xs : List A) (s t : S) → in_turn step s xs ≡ Ok t → f t ≤ f s + length xs
in_turn-counts step f one [] s t e = let same = ap f (ok_is s t e) in omega arith
in_turn-counts step f one (x ∷ xs) s t e =
    let first = bind_ok (step s x) (λ u. in_turn step u xs) t e in
    let here = one s x first.0 first.1 in
    let rest = in_turn-counts step f one xs first.0 t first.2 in
    omega arith
