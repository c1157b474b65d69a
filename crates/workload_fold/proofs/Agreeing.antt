-- Readings that agree: where one gives a value, so does the other. Their faults may differ, and so their places.
use Rattle.std.proofs.Common.{◌≡◌, Bool, true, false, List, [], ◌∷◌, ◌++◌, Option, Some, None, Result, Ok, Err, sym, refl, ap, ◌∙◌}
use Rattle.adv_base.specs.Readings.{◌>>=◌, or_fault, where_holds, in_turn, put_behind, each}
use Rattle.binder.specs.declared.fault.BindFault.{BindFault}
use Rattle.binder.specs.Faults.{both}
use Rattle.workload_fold.specs.Pairs.{Pairs}

abbrev pub SameOk : {A : Type 0} → Result A BindFault → Result A BindFault → Type 0
SameOk {A} r s = (x : A) → r ≡ Ok x → s ≡ Ok x

pub ok_equal : {A : Type 0} (a b : A) → a ≡ b → SameOk (Ok a) (Ok b)
ok_equal a b same = λ x e. ap Ok (sym same) ∙ e

pub ok_bind : {A B : Type 0} (m n : Result A BindFault) (f g : A → Result B BindFault) → SameOk m n → ((a : A) → SameOk (f a) (g a)) → SameOk (m >>= f) (n >>= g)
ok_bind (Ok a) n f g h k = λ x e. ap (λ r. r >>= g) (h a refl) ∙ k a x e
ok_bind (Err d) n f g h k = λ x e. absurd cc

-- by what comes of a value on the way, which may differ
pub ok_through : {A B C : Type 0} (m n : Result A BindFault) (f g : A → B) (p q : B → Result C BindFault) → SameOk m n → ((a : A) → SameOk (p (f a)) (q (g a)))
    → SameOk ((m >>= λ a. Ok (f a)) >>= p) ((n >>= λ a. Ok (g a)) >>= q)
ok_through (Ok a) n f g p q h k = λ x e. ap (λ r. (r >>= λ b. Ok (g b)) >>= q) (h a refl) ∙ k a x e
ok_through (Err d) n f g p q h k = λ x e. absurd cc

pub ok_fault : {A : Type 0} (d e : BindFault) (o p : Option A) → o ≡ p → SameOk (or_fault d o) (or_fault e p)
ok_fault d e None p same = λ x h. absurd cc
ok_fault d e (Some y) p same = λ x h. ap (or_fault e) (sym same) ∙ h

pub ok_where : {A : Type 0} (d e : BindFault) (b c : Bool) (x y : A) → b ≡ c → x ≡ y → SameOk (where_holds d b x) (where_holds e c y)
ok_where d e true c x y same is = λ z h. (λ i. where_holds e (sym same i) (sym is i)) ∙ h
ok_where d e false c x y same is = λ z h. absurd cc

pub ok_in_turn : {S A C : Type 0} (R : A → C → Type 0) (f : S → A → Result S BindFault) (g : S → C → Result S BindFault) → ((s : S) (a : A) (c : C) → R a c → SameOk (f s a) (g s c))
    → (s : S) (xs : List A) (ys : List C) → Pairs R xs ys → SameOk (in_turn f s xs) (in_turn g s ys)
ok_in_turn R f g step s [] [] h = λ x e. e
ok_in_turn R f g step s [] (y ∷ ys) h = absurd h
ok_in_turn R f g step s (x ∷ xs) [] h = absurd h
ok_in_turn {S} R f g step s (x ∷ xs) (y ∷ ys) h =
    ok_bind (f s x) (g s y) (λ (u : S). in_turn f u xs) (λ (u : S). in_turn g u ys) (step s x y h.0) (λ u. ok_in_turn R f g step u xs ys h.1)

pub ok_each : {A B C : Type 0} (R : A → C → Type 0) (f : A → Result B BindFault) (g : C → Result B BindFault) → ((a : A) (c : C) → R a c → SameOk (f a) (g c))
    → (xs : List A) (ys : List C) → Pairs R xs ys → SameOk (each f xs) (each g ys)
ok_each {B = B} R f g step xs ys h =
    ok_in_turn R (put_behind f) (put_behind g)
    (λ done x y k. ok_bind (f x) (g y) (λ (z : B). Ok (done ++ z ∷ [])) (λ (z : B). Ok (done ++ z ∷ [])) (step x y k) (λ z w e. e)) [] xs ys h

pub ok_both : {A B : Type 0} (a c : Result A BindFault) (b d : Result B BindFault) → SameOk a c → SameOk b d → SameOk (both a b) (both c d)
ok_both (Ok x) c (Ok y) d h k = λ z e. (λ i. both (h x refl i) (k y refl i)) ∙ e
ok_both (Ok x) c (Err y) d h k = λ z e. absurd cc
ok_both (Err x) c (Ok y) d h k = λ z e. absurd cc
ok_both (Err x) c (Err y) d h k = λ z e. absurd cc
