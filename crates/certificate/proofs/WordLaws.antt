-- Words at the front of lines, and numbers up to a space.
use Rattle.std.proofs.Common.{◌≡◌, ◌≢◌, ◌∙◌, ℕ, zero, suc, ◌<◌, ◌≤◌, ◌^◌, true, false, List, [], ◌∷◌, ◌++◌, length, get_or, take, drop, sym, ap, subst, refl, arith, nat_eq, inl, inr, ◌⊎◌}
use Rattle.std.proofs.lemmas.Bool.{cases_lt}
use Rattle.std.specs.Prelude.{decimal}
use Rattle.std.specs.Cmp.Lexicographic.{pointwise, same_text, other_text}
use Rattle.std.specs.Str.Parse.{AllDigits}
use Rattle.std.proofs.lemmas.List.{take-append-drop, get_or-drop}
use Rattle.std.proofs.lemmas.Str.Parse.{digit_from_value}
use Rattle.std.proofs.Math.Seq.{take-append_seam}
use Rattle.adv_base.specs.Numbers.{IsNumber}
use Rattle.certificate.specs.inner.Words.{BeginsWithNumber, GoesOnWithNumber}
use Rattle.certificate.proofs.WideDigits.{wide-digits, wide-injective}

-- a word that isn't at the front
pub no-front : (text word rest : List ℕ) → pointwise nat_eq (take (length word) text) word ≡ false → text ≢ word ++ rest
no-front text word rest h e =
    other_text (take (length word) text) word (sym h) (ap (take (length word)) e ∙ take-append_seam word rest)

-- a word that is
pub front-is : (text word rest : List ℕ) → pointwise nat_eq (take (length word) text) word ≡ true → rest ≡ drop (length word) text → text ≡ word ++ rest
front-is text word rest h e =
    sym (take-append-drop (length word) text)
    ∙ ap (λ (w : List ℕ). w ++ drop (length word) text) (same_text (take (length word) text) word (sym h))
    ∙ ap (λ (r : List ℕ). word ++ r) (sym e)

-- no byte is a space
abbrev HasNoSpace : List ℕ → Type 0
HasNoSpace [] = Unit {0}
HasNoSpace (b ∷ bs) = (b ≢ 32) × HasNoSpace bs

digits-no_space : (ds : List ℕ) → AllDigits 10 ds → HasNoSpace ds
digits-no_space [] h = tt
digits-no_space (d ∷ ds) h = (λ e. omega (arith, digit_from_value d h.0, e), digits-no_space ds h.1)

word-length : (word rest : List ℕ) (len : ℕ) → HasNoSpace word → get_or rest 0 32 ≡ 32 → len ≤ length (word ++ rest) →
    ((k : ℕ) → k < len → get_or (word ++ rest) k 0 ≡ 32 → ⊥) → (len < length (word ++ rest) → get_or (word ++ rest) len 0 ≡ 32) → len ≡ length word
word-length [] [] len n e within before at = omega (arith, within)
word-length [] (r ∷ rs) zero n e within before at = refl
word-length [] (r ∷ rs) (suc len) n e within before at = absurd (before 0 (omega arith) e)
word-length (b ∷ bs) rest zero n e within before at = absurd (n.0 (at (omega arith)))
word-length (b ∷ bs) rest (suc len) n e within before at =
    ap suc (word-length bs rest len n.1 e (omega (arith, within)) (λ k h. before (suc k) (omega (arith, h))) (λ h. at (omega (arith, h))))

-- what stands before the first space is the number, where the bytes begin with one
pub front-number : (least most : ℕ) (text rest : List ℕ) (n len : ℕ) → most < 2 ^ 128 → BeginsWithNumber least most text n rest → len ≤ length text →
    ((k : ℕ) → k < len → get_or text k 0 ≡ 32 → ⊥) → (len < length text → get_or text len 0 ≡ 32) → IsNumber least most (take len text) n
front-number least most text rest n len fits h within before at =
    let small : n < 2 ^ 128 = omega (arith, h.high, fits) in
    let plain = digits-no_space (decimal n) (wide-digits n small) in
    let same : len ≡ length (decimal n) =
    word-length (decimal n) rest len plain h.end (subst (λ (t : List ℕ). len ≤ length t) h.parts within)
    (subst (λ (t : List ℕ). (k : ℕ) → k < len → get_or t k 0 ≡ 32 → ⊥) h.parts before)
    (subst (λ (t : List ℕ). len < length t → get_or t len 0 ≡ 32) h.parts at) in
    record {
      digits = ap (λ (k : ℕ). take k text) same ∙ ap (take (length (decimal n))) h.parts ∙ take-append_seam (decimal n) rest;
      low = h.low;
      high = h.high;
    }

get-past : (xs : List ℕ) (n d : ℕ) → length xs ≤ n → get_or xs n d ≡ d
get-past [] n d h = refl
get-past (x ∷ xs) zero d h = absurd (omega arith)
get-past (x ∷ xs) (suc n) d h = get-past xs n d (omega arith)

get-any : (xs : List ℕ) (k d e : ℕ) → k < length xs → get_or xs k d ≡ get_or xs k e
get-any [] k d e h = absurd (omega arith)
get-any (x ∷ xs) zero d e h = refl
get-any (x ∷ xs) (suc k) d e h = get-any xs k d e (omega arith)

end-at : (text : List ℕ) (len : ℕ) → ((len < length text) ⊎ (length text ≤ len)) → (len < length text → get_or text len 0 ≡ 32) → get_or text len 32 ≡ 32
end-at text len (inl h) at = get-any text len 32 0 h ∙ at h
end-at text len (inr h) at = get-past text len 32 h

-- the front up to the first space, where it is a number
pub number-front : (least most : ℕ) (text : List ℕ) (n len : ℕ) → IsNumber least most (take len text) n → (len < length text → get_or text len 0 ≡ 32) →
    BeginsWithNumber least most text n (drop len text)
number-front least most text n len h at =
    record {
      parts = sym (take-append-drop len text) ∙ ap (λ (w : List ℕ). w ++ drop len text) h.digits;
      low = h.low;
      high = h.high;
      end = get_or-drop len text 0 32 ∙ ap (λ (k : ℕ). get_or text k 32) (omega arith) ∙ end-at text len (cases_lt len (length text)) at;
    }

two-fronts : (a b r s : List ℕ) → HasNoSpace a → HasNoSpace b → get_or r 0 32 ≡ 32 → get_or s 0 32 ≡ 32 → a ++ r ≡ b ++ s → (a ≡ b) × (r ≡ s)
two-fronts [] [] r s n m e f same = (refl, same)
two-fronts [] (b ∷ bs) r s n m e f same = absurd (m.0 (sym (ap (λ (t : List ℕ). get_or t 0 32) same) ∙ e))
two-fronts (a ∷ at) [] r s n m e f same = absurd (n.0 (ap (λ (t : List ℕ). get_or t 0 32) same ∙ f))
two-fronts (a ∷ at) (b ∷ bs) r s n m e f same =
    let first : a ≡ b = ap (λ (t : List ℕ). get_or t 0 0) same in
    let behind : at ++ r ≡ bs ++ s = ap (drop 1) same in
    let more = two-fronts at bs r s n.1 m.1 e f behind in
    (ap (λ (x : ℕ). x ∷ at) first ∙ ap (λ (xs : List ℕ). b ∷ xs) more.0, more.1)

-- bytes begin with one number
pub one-front : (l m k o : ℕ) (text r s : List ℕ) (n p : ℕ) → m < 2 ^ 128 → o < 2 ^ 128 → BeginsWithNumber l m text n r → BeginsWithNumber k o text p s → (n ≡ p) × (r ≡ s)
one-front l m k o text r s n p small few h g =
    let n_small : n < 2 ^ 128 = omega (arith, h.high) in
    let p_small : p < 2 ^ 128 = omega (arith, g.high) in
    let same = two-fronts (decimal n) (decimal p) r s (digits-no_space (decimal n) (wide-digits n n_small)) (digits-no_space (decimal p) (wide-digits p p_small)) h.end g.end (sym h.parts ∙ g.parts) in
    (wide-injective n p n_small p_small same.0, same.1)

-- and go on with one
pub one-next : (l m k o : ℕ) (text r s : List ℕ) (n p : ℕ) → m < 2 ^ 128 → o < 2 ^ 128 → GoesOnWithNumber l m text n r → GoesOnWithNumber k o text p s → (n ≡ p) × (r ≡ s)
one-next l m k o text r s n p small few h g =
    one-front l m k o (drop 1 text) r s n p small few
    (record { parts = ap (drop 1) h.parts; low = h.low; high = h.high; end = h.end })
    (record { parts = ap (drop 1) g.parts; low = g.low; high = g.high; end = g.end })

-- no number begins with a minus
pub minus-none : (n : ℕ) (ds : List ℕ) → n < 2 ^ 128 → decimal n ≢ 45 ∷ ds
minus-none n ds small e = omega (arith, digit_from_value 45 (subst (AllDigits 10) e (wide-digits n small)).0)
