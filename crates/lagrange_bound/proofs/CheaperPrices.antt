-- Laws of prices that are below what exists, and of those that aren't.
use Rattle.std.proofs.Common.{◌≡◌, ◌∙◌, ◌⊎◌, inl, inr, ℕ, zero, suc, ◌+◌, ◌<◌, ◌≤◌, Bool, true, false, ◌||◌, List, [], ◌∷◌, length, get_or, drop, min, refl, sym, ap, arith}
use Rattle.std.specs.Prelude.{Option, Some, None, if◌then◌else◌}
use Rattle.std.specs.Option.{option_map}
use Rattle.std.proofs.lemmas.Bool.{false≢true}
use Rattle.std.proofs.lemmas.Option.{same_Some}
use Rattle.adv_base.specs.declared.setting.Config.{Config}
use Rattle.adv_base.specs.Configs.{has_candidate}
use Rattle.bip_model.specs.declared.grant.Grant.{Grant}
use Rattle.bip_model.specs.Candidates.{is_cheaper, has_cheaper}
use Rattle.bip_model.specs.Values.{lesser, price_of}
use Rattle.bip_model.proofs.Least.{lesser-none}
use Rattle.lagrange_bound.specs.Rented.{asked}

pub cheaper-past : (prices others : List (Option ℕ)) (n : ℕ) → (length prices ≤ n) ⊎ (length others ≤ n) → has_cheaper (drop n prices) (drop n others) ≡ false
cheaper-past [] others zero past = refl
cheaper-past (p ∷ prices) [] zero past = refl
cheaper-past (p ∷ prices) (o ∷ others) zero past = absurd (elim past [ inl a ↦ omega (arith, a) | inr b ↦ omega (arith, b) ])
cheaper-past [] others (suc n) past = refl
cheaper-past (p ∷ prices) [] (suc n) past = none (drop n prices)
  where
    none : (ps : List (Option ℕ)) → has_cheaper ps [] ≡ false
    none [] = refl
    none (x ∷ ps) = refl
cheaper-past (p ∷ prices) (o ∷ others) (suc n) past =
    cheaper-past prices others n (elim past [ inl a ↦ inl (omega (arith, a)) | inr b ↦ inr (omega (arith, b)) ])

-- what is left at a place is what stands there, and what is left behind it
pub cheaper-at : (prices others : List (Option ℕ)) (n : ℕ) → n < length prices → n < length others →
    has_cheaper (drop n prices) (drop n others) ≡ (is_cheaper (get_or prices n None) (get_or others n None) || has_cheaper (drop (suc n) prices) (drop (suc n) others))
cheaper-at [] others n within beside = absurd (omega (arith, within))
cheaper-at (p ∷ prices) [] n within beside = absurd (omega (arith, beside))
cheaper-at (p ∷ prices) (o ∷ others) zero within beside = refl
cheaper-at (p ∷ prices) (o ∷ others) (suc n) within beside = cheaper-at prices others n (omega (arith, within)) (omega (arith, beside))

pub cheaper-found : (prices others : List (Option ℕ)) (n : ℕ) → n < length prices → n < length others → has_cheaper (drop n prices) (drop n others) ≡ has_cheaper prices others →
    is_cheaper (get_or prices n None) (get_or others n None) ≡ true → true ≡ has_cheaper prices others
cheaper-found prices others n within beside left found =
    ap (λ (b : Bool). b || has_cheaper (drop (suc n) prices) (drop (suc n) others)) (sym found) ∙ sym (cheaper-at prices others n within beside) ∙ left

-- ## What isn't cheaper

first-false : (a b : Bool) → (a || b) ≡ false → a ≡ false
first-false true b is = absurd (false≢true (sym is))
first-false false b is = refl

second-false : (a b : Bool) → (a || b) ≡ false → b ≡ false
second-false true b is = absurd (false≢true (sym is))
second-false false b is = is

-- in no place where none is
pub cheaper-nowhere : (prices others : List (Option ℕ)) (o : ℕ) → length prices ≡ length others → has_cheaper prices others ≡ false → is_cheaper (price_of prices o) (price_of others o) ≡ false
cheaper-nowhere [] others zero same none = refl
cheaper-nowhere [] others (suc o) same none = refl
cheaper-nowhere (p ∷ prices) [] o same none = absurd (omega (arith, same))
cheaper-nowhere (p ∷ prices) (q ∷ others) zero same none = first-false (is_cheaper p q) (has_cheaper prices others) none
cheaper-nowhere (p ∷ prices) (q ∷ others) (suc o) same none =
    cheaper-nowhere prices others o (omega (arith, same)) (second-false (is_cheaper p q) (has_cheaper prices others) none)

pub lesser-self : (a : Option ℕ) → lesser a a ≡ a
lesser-self None = refl
lesser-self (Some a) = ap Some (omega arith)

-- what is at most something stays so where it is lowered
pub lesser-below : (best base price : Option ℕ) → lesser best base ≡ best → lesser (lesser best price) base ≡ lesser best price
lesser-below None None None is = refl
lesser-below None None (Some p) is = refl
lesser-below None (Some b) price is = absurd (cc)
lesser-below (Some a) None None is = refl
lesser-below (Some a) None (Some p) is = refl
lesser-below (Some a) (Some b) None is = is
lesser-below (Some a) (Some b) (Some p) is = let low : min a b ≡ a = same_Some (min a b) a is in ap Some (omega (arith, low))

-- a price that isn't cheaper lowers nothing that is at most what exists, with any rent
pub raised-idle : (best base price : Option ℕ) (rent : ℕ) → lesser best base ≡ best → is_cheaper price base ≡ false → lesser best (option_map (λ p. p + rent) price) ≡ best
raised-idle best base None rent is none = lesser-none best
raised-idle best None (Some p) rent is none = absurd (false≢true (sym none))
raised-idle None (Some b) (Some p) rent is none = absurd (cc)
raised-idle (Some a) (Some b) (Some p) rent is none =
    let low : min a b ≡ a = same_Some (min a b) a is in
    let high : b ≤ p = grind (arith, none) in
    ap Some (omega (arith, low, high))

pub asked-idle : (config : Config) (o : ℕ) (best base : Option ℕ) (grant : Grant) (rent : ℕ) → lesser best base ≡ best → is_cheaper (price_of grant.prices o) base ≡ false →
    lesser best (asked config o grant rent) ≡ best
asked-idle config o best base grant rent is none = cases (has_candidate config grant.candidate)
  where
    cases : (b : Bool) → lesser best (option_map (λ p. p + rent) (if b then price_of grant.prices o else None)) ≡ best
    cases true = raised-idle best base (price_of grant.prices o) rent is none
    cases false = lesser-none best
