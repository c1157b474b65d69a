-- Lists of which the first elements have been changed, one after the other.
use Rattle.std.proofs.Common.{◌≡◌, ◌∙◌, ℕ, zero, suc, ◌+◌, ◌<◌, ◌≤◌, List, [], ◌∷◌, ◌++◌, length, set, get_or, take, drop, sym, ap, subst, arith}
use Rattle.std.proofs.Math.Seq.{take-append_seam}
use Rattle.bip_model.specs.StandsFor.{AreEach}

-- each of the first n belongs to its old one, and the others stay
abbrev pub IsPartly : {A : Type 0} → (A → A → Type 0) → ℕ → List A → List A → Type 0
IsPartly P zero olds news = news ≡ olds
IsPartly P (suc n) [] news = news ≡ []
IsPartly P (suc n) (old ∷ olds) [] = ⊥
IsPartly P (suc n) (old ∷ olds) (new ∷ news) = P old new × IsPartly P n olds news

-- the next one is still the old one
pub partly-read : {A : Type 0} (P : A → A → Type 0) (n : ℕ) (olds news : List A) (d : A) → IsPartly P n olds news → get_or news n d ≡ get_or olds n d
partly-read P zero olds news d are = ap (λ (xs : List _). get_or xs 0 d) are
partly-read P (suc n) [] news d are = ap (λ (xs : List _). get_or xs (suc n) d) are
partly-read P (suc n) (old ∷ olds) [] d are = absurd are
partly-read P (suc n) (old ∷ olds) (new ∷ news) d are = partly-read P n olds news d are.1

pub partly-length : {A : Type 0} (P : A → A → Type 0) (n : ℕ) (olds news : List A) → IsPartly P n olds news → length news ≡ length olds
partly-length P zero olds news are = ap length are
partly-length P (suc n) [] news are = ap length are
partly-length P (suc n) (old ∷ olds) [] are = absurd are
partly-length P (suc n) (old ∷ olds) (new ∷ news) are = ap suc (partly-length P n olds news are.1)

partly-next : {A : Type 0} (P : A → A → Type 0) (n : ℕ) (olds news : List A) (new d : A) → n < length olds → P (get_or olds n d) new → IsPartly P n olds news → IsPartly P (suc n) olds (set news n new)
partly-next P zero [] news new d within own are = absurd (omega (arith, within))
partly-next P zero (old ∷ olds) [] new d within own are = absurd cc
partly-next P zero (old ∷ olds) (x ∷ news) new d within own are = let same : news ≡ olds = cc in (own, same)
partly-next P (suc n) [] news new d within own are = absurd (omega (arith, within))
partly-next P (suc n) (old ∷ olds) [] new d within own are = absurd are
partly-next P (suc n) (old ∷ olds) (x ∷ news) new d within own are = (are.0, partly-next P n olds news new d (omega (arith, within)) own are.1)

-- one more
pub partly-more : {A : Type 0} (P : A → A → Type 0) (n : ℕ) (olds news : List A) (new d : A) → n < length olds → P (get_or olds n d) new → IsPartly P n olds news → IsPartly P (n + 1) olds (set news n new)
partly-more P n olds news new d within own are =
    let next : suc n ≡ n + 1 = omega arith in
    subst (λ (m : ℕ). IsPartly P m olds (set news n new)) next (partly-next P n olds news new d within own are)

-- all
pub partly-all : {A : Type 0} (P : A → A → Type 0) (n : ℕ) (olds news : List A) → length olds ≤ n → IsPartly P n olds news → AreEach P olds news
partly-all P zero [] [] all are = tt
partly-all P zero [] (new ∷ news) all are = absurd cc
partly-all P zero (old ∷ olds) news all are = absurd (omega (arith, all))
partly-all P (suc n) [] [] all are = tt
partly-all P (suc n) [] (new ∷ news) all are = absurd cc
partly-all P (suc n) (old ∷ olds) [] all are = absurd are
partly-all P (suc n) (old ∷ olds) (new ∷ news) all are = (are.0, partly-all P n olds news (omega (arith, all)) are.1)

-- all, written back over the first so many of a vector that has no more
pub partly-written : {A : Type 0} (P : A → A → Type 0) (n count : ℕ) (olds items start news : List A) → items ≡ olds → start ≡ items → count ≡ length items → length start ≤ n → IsPartly P n start news →
    AreEach P olds (take count (news ++ drop (length news) items))
partly-written P n count olds items start news old was counted all are =
    let long : count ≡ length news = omega (arith, counted, partly-length P n start news are, ap length was) in
    let same : take count (news ++ drop (length news) items) ≡ news = ap (λ (m : ℕ). take m (news ++ drop (length news) items)) long ∙ take-append_seam news (drop (length news) items) in
    subst (AreEach P olds) (sym same) (subst (λ (xs : List _). AreEach P xs news) (was ∙ old) (partly-all P n start news all are))
