-- Lists of ends of histograms, none below the one before.
use Rattle.std.proofs.Common.{◌≡◌, ℕ, suc, ◌-◌, ◌<◌, ◌≤◌, true, List, [], ◌∷◌, ◌++◌, length, inl, inr, subst, sym, arith, length-append}
use Rattle.std.specs.Prelude.{All, ℤ, pos, ◌≤ℤ◌}
use Rattle.std.proofs.lemmas.Bool.{cases_lt}
use Rattle.std.proofs.lemmas.Bool.Decides.{nat_tests}
use Rattle.std.proofs.lemmas.Int.{ints}
use Rattle.std.proofs.lemmas.List.{get_or_append_left, get_or_push}
use Rattle.adv_base.specs.Limits.Numbers.{BoundsLimits, EndLimits}
use Rattle.adv_base.specs.Shares.{end_at}
use Rattle.catalogue.specs.Catalogue.{rises}

abbrev pub AreRising : List ℤ → Type 0
AreRising ends = (i : ℕ) → suc i < length ends → end_at ends i ≤ℤ end_at ends (suc i)

-- an end that isn't below the last one
not_below : (ends : List ℤ) (z : ℤ) (i : ℕ) → rises ends z ≡ true → suc i ≡ length ends → end_at ends i ≤ℤ z
not_below ends z i last at =
    let before : length ends - 1 ≡ i = omega arith in
    let is : end_at ends (length ends - 1) ≤ℤ z = grind (arith, ints, nat_tests) in
    subst (λ k. end_at ends k ≤ℤ z) before is

pub rising-push : (ends : List ℤ) (z : ℤ) → AreRising ends → rises ends z ≡ true → AreRising (ends ++ z ∷ [])
rising-push ends z rising last i within =
    let count = length-append ends (z ∷ []) in
    let here = get_or_append_left ends (z ∷ []) (pos 0) i (omega (arith, count, within)) in
    elim (cases_lt (suc i) (length ends)) [
      | inl inside ↦
          let next = get_or_append_left ends (z ∷ []) (pos 0) (suc i) inside in
          rw (here, next) (rising i inside)
      | inr whole ↦
          let at : suc i ≡ length ends = omega (arith, count, within, whole) in
          let next = get_or_push ends z (pos 0) (suc i) (sym at) in
          rw (here, next) (not_below ends z i last at)
    ]

pub BoundsLimits-from : (ends : List ℤ) → 2 ≤ length ends → length ends ≤ 257 → AreRising ends → All EndLimits ends → BoundsLimits ends
BoundsLimits-from ends some few rising within = record { some = λ any. some; few = few; rising = rising; ends = within }
