-- Ledgers of zeros and of the sets, of which one is written.
use Rattle.std.proofs.Common.{◌≡◌, ◌≢◌, ◌⊎◌, inl, inr, ℕ, ◌+◌, ◌<◌, ◌≤◌, List, ◌∷◌, length, get_or, sym, subst, arith, get_or-set_other}
use Rattle.std.specs.Prelude.{slice_index_or}
use Rattle.std.proofs.Math.ListN.{set}
use Rattle.std.proofs.lemmas.Bool.{cases_lt}
use Rattle.std.proofs.lemmas.List.{get_or-set_same, length-set}
use Rattle.bip_model.specs.declared.multipliers.Multipliers.{Multipliers}
use Rattle.bip_model.specs.declared.programme.Programme.{Programme}
use Rattle.lagrange_bound.specs.declared.ledger.Ledger.{Ledger}
use Rattle.lagrange_bound.specs.Ledgers.{IsLedger}
use Rattle.branch_bound.specs.inner.Runs.{AreOpen}

-- a number is another, or isn't
same-or-not : (j k : ℕ) → (j ≡ k) ⊎ (j ≢ k)
same-or-not j k =
    elim (cases_lt j k) [
      | inl less ↦ inr (λ same. omega (arith, same, less))
      | inr more ↦ elim (cases_lt k j) [ inl less ↦ inr (λ same. omega (arith, same, less)) | inr most ↦ inl (omega (arith, more, most)) ]
    ]

pub open-set : (programme : Programme) (zeros : Multipliers) (sets : List Multipliers) (n k : ℕ) (ledgers : List Ledger) (new : Ledger) → AreOpen programme zeros sets n ledgers → k ≤ n →
    IsLedger programme (slice_index_or (zeros ∷ sets) k zeros) new → AreOpen programme zeros sets n (set ledgers k new)
open-set programme zeros sets n k ledgers new are within is =
    record {
      enough = let long = length-set ledgers k new in omega (arith, long, are.enough);
      each = λ j d below.
          elim (same-or-not j k) [
            | inl same ↦
                let there : k < length ledgers = omega (arith, within, are.enough) in
                subst (λ (i : ℕ). IsLedger programme (slice_index_or (zeros ∷ sets) i zeros) (get_or (set ledgers k new) i d)) (sym same)
                (subst (λ (l : Ledger). IsLedger programme (slice_index_or (zeros ∷ sets) k zeros) l) (sym (get_or-set_same ledgers k new d there)) is)
            | inr other ↦ subst (λ (l : Ledger). IsLedger programme (slice_index_or (zeros ∷ sets) j zeros) l) (sym (get_or-set_other ledgers k j new d other)) (are.each j d below)
          ];
    }

-- one more is opened
pub open-more : (programme : Programme) (zeros : Multipliers) (sets : List Multipliers) (n m : ℕ) (ledgers : List Ledger) (new : Ledger) → m ≡ n + 1 → m < length ledgers → AreOpen programme zeros sets n ledgers →
    IsLedger programme (slice_index_or (zeros ∷ sets) m zeros) new → AreOpen programme zeros sets m (set ledgers m new)
open-more programme zeros sets n m ledgers new next within are is =
    record {
      enough = let long = length-set ledgers m new in omega (arith, long, within);
      each = λ j d below.
          elim (same-or-not j m) [
            | inl same ↦
                subst (λ (i : ℕ). IsLedger programme (slice_index_or (zeros ∷ sets) i zeros) (get_or (set ledgers m new) i d)) (sym same)
                (subst (λ (l : Ledger). IsLedger programme (slice_index_or (zeros ∷ sets) m zeros) l) (sym (get_or-set_same ledgers m new d within)) is)
            | inr other ↦
                subst (λ (l : Ledger). IsLedger programme (slice_index_or (zeros ∷ sets) j zeros) l) (sym (get_or-set_other ledgers m j new d other))
                (are.each j d (below-next j n m next below other))
          ];
    }
  where
    below-next : (j n m : ℕ) → m ≡ n + 1 → j ≤ m → j ≢ m → j ≤ n
    below-next j n m next below other = elim (cases_lt n j) [ inl more ↦ absurd (other (omega (arith, next, below, more))) | inr less ↦ less ]
