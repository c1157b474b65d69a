-- The steps of the loops that look for an end.
use Rattle.std.proofs.Common.{◌≡◌, ℕ, ◌+◌, ◌<◌, ◌≤◌, Bool, true, false, eqb, List, [], ◌∷◌, length, get_or, drop, Option, Some, None, refl, ap, sym, ◌∙◌, arith}
use Rattle.std.proofs.lemmas.List.{drop_more, drop_all, length-drop}
use Rattle.sql_tokens.specs.Byte.{begins, ends_comment}
use Rattle.sql_tokens.specs.Front.{further, further_or, closing, comment_end}

pub further-further : (i : ℕ) (o : Option ℕ) → further i (further 1 o) ≡ further (i + 1) o
further-further i None = refl
further-further i (Some n) = ap Some (omega arith)

-- the end that was found last, or one behind `at`
abbrev pub or_end : Option ℕ → ℕ → Option ℕ → Option ℕ
or_end end at None = end
or_end end at (Some n) = Some (at + n)

or_end-further : (e : Option ℕ) (i : ℕ) (o : Option ℕ) → or_end e i (further 1 o) ≡ or_end e (i + 1) o
or_end-further e i None = refl
or_end-further e i (Some n) = ap Some (omega arith)

or_end-further_or : (e : Option ℕ) (i : ℕ) (o : Option ℕ) → or_end e i (Some (further_or 1 2 o)) ≡ or_end (Some (i + 1)) (i + 1 + 1) o
or_end-further_or e i None = refl
or_end-further_or e i (Some n) = ap Some (omega arith)

pub closing-other : (b : ℕ) (bs : List ℕ) → eqb b 39 ≡ false → closing (b ∷ bs) ≡ further 1 (closing bs)
closing-other b [] e = rw e refl
closing-other b (c ∷ bs) e = rw e refl

pub closing-doubled : (b c : ℕ) (bs : List ℕ) → eqb b 39 ≡ true → eqb c 39 ≡ true → closing (b ∷ c ∷ bs) ≡ Some (further_or 1 2 (closing bs))
closing-doubled b c bs e f = rw (e, f) refl

-- a byte inside a text
pub inside_step : (e : Option ℕ) (xs : List ℕ) (i : ℕ) → i < length xs → eqb (get_or xs i 0) 39 ≡ false → or_end e i (closing (drop i xs)) ≡ or_end e (i + 1) (closing (drop (i + 1) xs))
inside_step e xs i l h = ap (λ ys. or_end e i (closing ys)) (drop_more xs i 0 l) ∙ (ap (or_end e i) (closing-other _ _ h) ∙ or_end-further e i (closing (drop (i + 1) xs)))

begins-at : (p : ℕ → Bool) (xs : List ℕ) (i : ℕ) → begins p (drop i xs) ≡ true → i < length xs → p (get_or xs i 0) ≡ true
begins-at p xs i h l = ap (begins p) (sym (drop_more xs i 0 l)) ∙ h

-- a doubled quote
pub doubled_step : (e : Option ℕ) (xs : List ℕ) (i : ℕ) → i + 1 < length xs → eqb (get_or xs i 0) 39 ≡ true → begins (λ c. eqb c 39) (drop (i + 1) xs) ≡ true → or_end e i (closing (drop i xs)) ≡ or_end (Some (i + 1)) (i + 1 + 1) (closing (drop (i + 1 + 1) xs))
doubled_step e xs i l h f =
    ap (λ ys. or_end e i (closing ys)) (drop_more xs i 0 (omega arith))
    ∙ (ap (λ ys. or_end e i (closing (get_or xs i 0 ∷ ys))) (drop_more xs (i + 1) 0 l)
    ∙ (ap (or_end e i) (closing-doubled (get_or xs i 0) (get_or xs (i + 1) 0) (drop (i + 1 + 1) xs) h (begins-at (λ c. eqb c 39) xs (i + 1) f l))
    ∙ or_end-further_or e i (closing (drop (i + 1 + 1) xs))))

pub comment_end-other : (b c : ℕ) (bs : List ℕ) → ends_comment b c ≡ false → comment_end (b ∷ c ∷ bs) ≡ further 1 (comment_end (c ∷ bs))
comment_end-other b c bs e = rw e refl

comment_end-short : (bs : List ℕ) → length bs ≤ 1 → comment_end bs ≡ None
comment_end-short [] l = refl
comment_end-short (b ∷ []) l = refl
comment_end-short (b ∷ c ∷ bs) l = absurd (omega arith)

two : (xs : List ℕ) (i : ℕ) → i + 1 < length xs → drop i xs ≡ get_or xs i 0 ∷ get_or xs (i + 1) 0 ∷ drop (i + 1 + 1) xs
two xs i l = drop_more xs i 0 (omega arith) ∙ ap (λ ys. get_or xs i 0 ∷ ys) (drop_more xs (i + 1) 0 l)

-- two bytes that don't end a comment
pub comment_step : (xs : List ℕ) (i : ℕ) → i + 1 < length xs → ends_comment (get_or xs i 0) (get_or xs (i + 1) 0) ≡ false → further i (comment_end (drop i xs)) ≡ further (i + 1) (comment_end (drop (i + 1) xs))
comment_step xs i l h =
    ap (λ ys. further i (comment_end ys)) (two xs i l)
    ∙ (ap (further i) (comment_end-other (get_or xs i 0) (get_or xs (i + 1) 0) (drop (i + 1 + 1) xs) h)
    ∙ (further-further i (comment_end (get_or xs (i + 1) 0 ∷ drop (i + 1 + 1) xs))
    ∙ ap (λ ys. further (i + 1) (comment_end ys)) (sym (drop_more xs (i + 1) 0 l))))

-- fewer than two bytes are left
pub comment_none : (xs : List ℕ) (i : ℕ) → length xs ≤ i + 1 → i ≤ length xs → further i (comment_end (drop i xs)) ≡ None
comment_none xs i l m = ap (further i) (comment_end-short (drop i xs) (simp length-drop (omega arith)))
