-- Numbers counted up from 0.
use Rattle.std.proofs.Common.{◌≡◌, ℕ, ◌+◌, Bool, true, false, cond, List, [], ◌∷◌, ◌++◌, map, refl, sym, ap, ◌∙◌, arith}
use Rattle.std.specs.Prelude.{filter}
use Rattle.std.specs.List.{range_with_len}
use Rattle.std.proofs.lemmas.List.{append-nil}
use Rattle.std.proofs.lemmas.List.Elements.{filter-append}
use Rattle.std.proofs.lemmas.List.FromFn.{map-range_with_len_more}

same : (xs : List ℕ) → map (λ x. x) xs ≡ xs
same [] = refl
same (x ∷ xs) = ap (λ (ys : List ℕ). x ∷ ys) (same xs)

-- one number more
pub range_more : (k : ℕ) → range_with_len 0 (k + 1) ≡ range_with_len 0 k ++ k ∷ []
range_more k = sym (same (range_with_len 0 (k + 1))) ∙ map-range_with_len_more (λ x. x) 0 k k (omega arith) ∙ ap (λ (xs : List ℕ). xs ++ k ∷ []) (same (range_with_len 0 k))

-- the numbers that pass a test, one number further
pub filter_more : (p : ℕ → Bool) (n : ℕ) → filter p (range_with_len 0 (n + 1)) ≡ cond (p n) (filter p (range_with_len 0 n) ++ n ∷ []) (filter p (range_with_len 0 n))
filter_more p n = ap (filter p) (range_more n) ∙ filter-append p (range_with_len 0 n) (n ∷ []) ∙ by (p n) refl
  where
    by : (t : Bool) → p n ≡ t → filter p (range_with_len 0 n) ++ filter p (n ∷ []) ≡ cond (p n) (filter p (range_with_len 0 n) ++ n ∷ []) (filter p (range_with_len 0 n))
    by true e = rw e refl
    by false e = rw e (append-nil (filter p (range_with_len 0 n)))
