-- Entries of an index, looked up by a folded name.
use Rattle.std.proofs.Common.{◌≡◌, ℕ, Bool, true, false, cond, List, [], ◌∷◌, Option, Some, refl, sym, ◌∙◌}
use Rattle.std.specs.Map.{lookup}
use Rattle.std.specs.Str.{bytes_eq}
use Rattle.std.proofs.lemmas.Slice.Eq.{bytes_eq-Decides}
use Rattle.std.proofs.lemmas.Bool.Decides.{same_from_decides}
use Rattle.indexmap.specs.IndexMap.{insert_entry}

pub bytes_eq-sym : (a b : List ℕ) → bytes_eq a b ≡ bytes_eq b a
bytes_eq-sym a b =
    let there = bytes_eq-Decides a b in
    let back = bytes_eq-Decides b a in
    same_from_decides (bytes_eq a b) (bytes_eq b a) there ((λ e. sym (back.0 e)), (λ e. back.1 (sym e)))

both_swap : {A : Type 0} (t m : Bool) (x y z : A) → (t ≡ true → m ≡ true → ⊥) → cond t x (cond m y z) ≡ cond m y (cond t x z)
both_swap true true x y z apart = absurd (apart refl refl)
both_swap true false x y z apart = refl
both_swap false m x y z apart = refl

both_same : {A : Type 0} (m : Bool) (x y z : A) → cond m x z ≡ cond m x (cond m y z)
both_same true x y z = refl
both_same false x y z = refl

module _ {K : Type 0} (f : K → List ℕ) (word : List ℕ) (k : K) (v : ℕ) where
  abbrev found : List (K × ℕ) → Option ℕ
  found es = lookup (λ (key : K). bytes_eq word (f key)) es

  abbrev put_in : List (K × ℕ) → List (K × ℕ)
  put_in es = insert_entry (λ (a b : K). bytes_eq (f a) (f b)) es k v

  -- what is found after a name was given a number
  pub found-put : (es : List (K × ℕ)) → found (put_in es) ≡ cond (bytes_eq (f k) word) (Some v) (found es)
  found-put [] = rw (bytes_eq-sym (f k) word) refl
  found-put (e ∷ es) = by (found-put es) (bytes_eq (f k) (f e.0)) refl
    where
      by : found (put_in es) ≡ cond (bytes_eq (f k) word) (Some v) (found es) → (b : Bool) → bytes_eq (f k) (f e.0) ≡ b → found (put_in (e ∷ es)) ≡ cond (bytes_eq (f k) word) (Some v) (found (e ∷ es))
      by rest true h =
          let same = (bytes_eq-Decides (f k) (f e.0)).0 h in
          rw (h, ← same, bytes_eq-sym word (f k)) (both_same (bytes_eq (f k) word) (Some v) (Some e.1) (found es))
      by rest false h =
          rw (h, rest) (both_swap (bytes_eq word (f e.0)) (bytes_eq (f k) word) (Some e.1) (Some v) (found es)
          (λ t m. let a = (bytes_eq-Decides word (f e.0)).0 t in let b = (bytes_eq-Decides (f k) word).0 m in let c = (bytes_eq-Decides (f k) (f e.0)).1 (b ∙ a) in absurd cc))
