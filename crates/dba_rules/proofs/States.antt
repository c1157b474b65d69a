-- The states of candidates, and the first place that passes a test.
use Rattle.std.proofs.Common.{◌≡◌, ℕ, zero, suc, ◌+◌, ◌<◌, ◌≤◌, Bool, true, false, cond, List, [], ◌∷◌, length, get_or, Some, None, inl, inr, refl, sym, ap, subst, ◌∙◌, arith}
use Rattle.std.proofs.lemmas.Bool.{cases_lt}
use Rattle.bip_model.specs.declared.fix.State.{State}
use Rattle.bip_model.specs.declared.fix.State.TheVariants.{Free}
use Rattle.dba_rules.specs.Rules.{first_from, states_from}

-- the first place from a on that passes
pub first-found : (passes : ℕ → Bool) (a n k : ℕ) → a ≤ k → k < a + n → passes k ≡ true → ((j : ℕ) → a ≤ j → j < k → passes j ≡ false) → first_from passes a n ≡ Some k
first-found passes a zero k above below here before = absurd (omega arith)
first-found passes a (suc n) k above below here before =
    elim (cases_lt a k) [
      | inl less ↦
          ap (λ (b : Bool). cond b (Some a) (first_from passes (suc a) n)) (before a (omega arith) less)
          ∙ first-found passes (suc a) n k (omega arith) (omega arith) here (λ j low high. before j (omega arith) high)
      | inr least ↦
          let same : k ≡ a = omega arith in
          let test : passes a ≡ true = subst (λ (j : ℕ). passes j ≡ true) same here in
          ap (λ (b : Bool). cond b (Some a) (first_from passes (suc a) n)) test ∙ ap Some (sym same)
    ]

-- where none does
pub first-none : (passes : ℕ → Bool) (a n : ℕ) → ((j : ℕ) → a ≤ j → j < a + n → passes j ≡ false) → first_from passes a n ≡ None
first-none passes a zero none = refl
first-none passes a (suc n) none =
    ap (λ (b : Bool). cond b (Some a) (first_from passes (suc a) n)) (none a (omega arith) (omega arith))
    ∙ first-none passes (suc a) n (λ j low high. none j (omega arith) (omega arith))

-- states that are written place by place
pub states-are : (state : ℕ → State) (a n : ℕ) (states : List State) → length states ≡ n → ((k : ℕ) → k < n → get_or states k Free ≡ state (a + k)) → states ≡ states_from state a n
states-are state a zero [] count each = refl
states-are state a zero (s ∷ states) count each = absurd (omega (arith, count))
states-are state a (suc n) [] count each = absurd (omega (arith, count))
states-are state a (suc n) (s ∷ states) count each =
    let here : a + 0 ≡ a = omega arith in
    let first : s ≡ state a = each 0 (omega arith) ∙ ap state here in
    let more : states ≡ states_from state (suc a) n =
    states-are state (suc a) n states (omega (arith, count)) (λ k within. let next : a + suc k ≡ suc a + k = omega arith in each (suc k) (omega arith) ∙ ap state next) in
    ap (λ (x : State). x ∷ states) first ∙ ap (λ (xs : List State). state a ∷ xs) more
