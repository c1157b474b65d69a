-- Which tables have changed.
use Rattle.std.proofs.Common.{◌≡◌, inl, inr, ℕ, ◌<◌, true, false, refl, arith}
use Rattle.std.specs.Prelude.{nat_lt, slice_index_or}
use Rattle.std.proofs.lemmas.Bool.{cases_lt}
use Rattle.std.proofs.lemmas.Bool.Decides.{nat_tests}
use Rattle.adv_base.specs.declared.limits.TheConstants.{MOST_TABLES}
use Rattle.retune.specs.declared.tables.Changed.{Changed}
use Rattle.retune.specs.inner.Renewing.{has_changed}

-- all have where each mark is set
pub every : (changed : Changed) (t : ℕ) → ((k : ℕ) → k < MOST_TABLES → slice_index_or changed.on k false ≡ true) → has_changed changed t ≡ true
every changed t set =
    elim (cases_lt t MOST_TABLES) [
      | inl low ↦ let test : nat_lt t MOST_TABLES ≡ true = grind (arith, nat_tests) in rw test (set t low)
      | inr high ↦ let test : nat_lt t MOST_TABLES ≡ false = grind (arith, nat_tests) in rw test refl
    ]
