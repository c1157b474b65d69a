-- Readings of elements in turn, as a loop takes them.
use Rattle.std.proofs.Common.{◌≡◌, ℕ, ◌+◌, ◌<◌, ◌≤◌, List, [], ◌∷◌, ◌++◌, length, drop, get_or, Result, Ok, Err, refl, sym, ◌∙◌, add-one}
use Rattle.std.specs.Prelude.{◌≢◌}
use Rattle.std.proofs.Math.Seq.{drop-cons}
use Rattle.std.proofs.lemmas.List.{drop_all}
use Rattle.adv_base.specs.Readings.{◌>>=◌, in_turn, put_behind}

module _ {E S A : Type 0} (step : S → A → Result S E) (xs : List A) (total : Result S E) where
  at_turn : (s : S) (i : ℕ) (x d : A) → i < length xs → x ≡ get_or xs i d → in_turn step s (drop i xs) ≡ (step s x >>= λ t. in_turn step t (drop (i + 1) xs))
  at_turn s i x d lt is = rw (drop-cons xs i d) (rw (add-one, ← is) refl)

  -- the loop goes on from what a step gave
  pub turn_goes : (s : S) (i : ℕ) (x d : A) (t : S) → i < length xs → x ≡ get_or xs i d → step s x ≡ Ok t → in_turn step s (drop i xs) ≡ total → in_turn step t (drop (i + 1) xs) ≡ total
  turn_goes s i x d t lt is gives so_far = sym (at_turn s i x d lt is ∙ rw gives refl) ∙ so_far

  -- the loop ends where a step has a fault
  pub turn_fails : (memory : E) (s : S) (i : ℕ) (x d : A) (e : E) → i < length xs → x ≡ get_or xs i d → (e ≢ memory → step s x ≡ Err e) → in_turn step s (drop i xs) ≡ total → e ≢ memory → total ≡ Err e
  turn_fails memory s i x d e lt is fails so_far real = sym so_far ∙ at_turn s i x d lt is ∙ rw (fails real) refl

  -- the loop ends with what the last step gave
  pub turn_ends : (s : S) (i : ℕ) → length xs ≤ i → in_turn step s (drop i xs) ≡ total → total ≡ Ok s
  turn_ends s i le so_far = sym so_far ∙ rw (drop_all i xs le) refl

module _ {E A B : Type 0} (f : A → Result B E) (xs : List A) (total : Result (List B) E) where
  -- a loop that puts what it reads behind the others goes on
  pub each_goes : (done after : List B) (i : ℕ) (x d : A) (y : B) → i < length xs → x ≡ get_or xs i d → f x ≡ Ok y → after ≡ done ++ y ∷ []
      → in_turn (put_behind f) done (drop i xs) ≡ total → in_turn (put_behind f) after (drop (i + 1) xs) ≡ total
  each_goes done after i x d y lt is gives put so_far = rw put (turn_goes (put_behind f) xs total done i x d (done ++ y ∷ []) lt is (rw gives refl) so_far)

  -- it ends where a reading has a fault
  pub each_fails : (memory : E) (done : List B) (i : ℕ) (x d : A) (e : E) → i < length xs → x ≡ get_or xs i d → (e ≢ memory → f x ≡ Err e)
      → in_turn (put_behind f) done (drop i xs) ≡ total → e ≢ memory → total ≡ Err e
  each_fails memory done i x d e lt is fails so_far real = turn_fails (put_behind f) xs total memory done i x d e lt is (λ r. rw (fails r) refl) so_far real
