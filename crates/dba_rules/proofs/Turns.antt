-- Readings of elements in turn, as a loop takes them.
use Rattle.std.proofs.Common.{◌≡◌, ◌≢◌, ℕ, ◌+◌, ◌<◌, ◌≤◌, List, [], ◌∷◌, ◌++◌, length, drop, get_or, Result, Ok, Err, refl, sym, ◌∙◌, add-one}
use Rattle.std.proofs.Math.Seq.{drop-cons}
use Rattle.std.proofs.lemmas.List.{drop_all}
use Rattle.adv_base.specs.Readings.{◌>>=◌, in_turn, put_behind}

module _ {E A B : Type 0} (f : A → Result B E) (xs : List A) (total : Result (List B) E) where
  at_turn : (s : List B) (i : ℕ) (x d : A) → i < length xs → x ≡ get_or xs i d
      → in_turn (put_behind f) s (drop i xs) ≡ (put_behind f s x >>= λ t. in_turn (put_behind f) t (drop (i + 1) xs))
  at_turn s i x d lt is = rw (drop-cons xs i d) (rw (add-one, ← is) refl)

  -- a loop that puts what it reads behind the others goes on
  pub each_goes : (done after : List B) (i : ℕ) (x d : A) (y : B) → i < length xs → x ≡ get_or xs i d → f x ≡ Ok y → after ≡ done ++ y ∷ []
      → in_turn (put_behind f) done (drop i xs) ≡ total → in_turn (put_behind f) after (drop (i + 1) xs) ≡ total
  each_goes done after i x d y lt is gives put so_far = rw put (sym (at_turn done i x d lt is ∙ rw gives refl) ∙ so_far)

  -- it ends where a reading has a fault
  pub each_fails : (memory : E) (done : List B) (i : ℕ) (x d : A) (e : E) → i < length xs → x ≡ get_or xs i d → (e ≢ memory → f x ≡ Err e)
      → in_turn (put_behind f) done (drop i xs) ≡ total → e ≢ memory → total ≡ Err e
  each_fails memory done i x d e lt is fails so_far real = sym so_far ∙ at_turn done i x d lt is ∙ rw (fails real) refl

  -- and else with all of them
  pub each_ends : (done : List B) (i : ℕ) → length xs ≤ i → in_turn (put_behind f) done (drop i xs) ≡ total → total ≡ Ok done
  each_ends done i le so_far = sym so_far ∙ rw (drop_all i xs le) refl
