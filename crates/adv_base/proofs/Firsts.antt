-- The first place of a kind is one.
use Rattle.std.proofs.Common.{◌≡◌, ℕ, ◌<◌, inl, inr}
use Rattle.std.proofs.lemmas.Bool.{cases_order}

-- two places of a kind, before each of which there is none, are the same
pub one-first : (P : ℕ → Type 0) (m n : ℕ) → P m → P n → ((k : ℕ) → k < m → P k → ⊥) → ((k : ℕ) → k < n → P k → ⊥) → m ≡ n
one-first P m n p q none lack =
    elim (cases_order m n) [
      | inl same ↦ same
      | inr apart ↦
          elim apart [
            | inl less ↦ absurd (lack m less p)
            | inr more ↦ absurd (none n more q)
          ]
    ]
