-- The exit status of the advice of a script.
use Rattle.std.proofs.Common.{◌≡◌, ℕ, Bool, true, false, List, [], ◌∷◌, map, refl, ◌∙◌, arith}
use Rattle.std.specs.Prelude.{not, max, if◌then◌else◌}
use Rattle.std.specs.List.{list_any}
use Rattle.report.specs.Sweeps.{has_no_gap}
use Rattle.report.specs.declared.done.Advice.{Advice}
use Rattle.report.specs.declared.done.Tuned.{Tuned}
use Rattle.cophy_core.specs.Causes.{gap_status, search_status}

abbrev has_gap : Tuned → Bool
has_gap tuned = not (has_no_gap tuned.advice.answer.cost tuned.advice.answer.bound)

abbrev advice_of : Tuned → Advice
advice_of tuned = tuned.advice

abbrev digit : Bool → ℕ
digit gap = if gap then 1 else 0

pub none_lost : (x : ℕ) → max 0 x ≡ x
none_lost x = omega (arith)

greater : (b : Bool) (x : ℕ) → x ≡ digit b → max 1 x ≡ 1
greater true x e = rw e refl
greater false x e = rw e refl

-- it is 1 where some of it has a gap
pub status_is : (all : List Tuned) → search_status (map advice_of all) ≡ digit (list_any has_gap all)
status_is [] = refl
status_is (tuned ∷ []) = by_test (has_no_gap tuned.advice.answer.cost tuned.advice.answer.bound) refl
  where
    by_test : (no_gap : Bool) → has_no_gap tuned.advice.answer.cost tuned.advice.answer.bound ≡ no_gap → search_status (map advice_of (tuned ∷ [])) ≡ digit (list_any has_gap (tuned ∷ []))
    by_test true e = rw e refl
    by_test false e = rw e refl
status_is (tuned ∷ other ∷ more) = by_test (has_no_gap tuned.advice.answer.cost tuned.advice.answer.bound) refl (status_is (other ∷ more))
  where
    by_test : (no_gap : Bool) → has_no_gap tuned.advice.answer.cost tuned.advice.answer.bound ≡ no_gap → search_status (map advice_of (other ∷ more)) ≡ digit (list_any has_gap (other ∷ more)) →
        max (gap_status tuned.advice.answer.cost tuned.advice.answer.bound) (search_status (map advice_of (other ∷ more))) ≡ digit (list_any has_gap (tuned ∷ other ∷ more))
    by_test true e behind = rw e (none_lost (search_status (map advice_of (other ∷ more))) ∙ behind)
    by_test false e behind = rw e (greater (list_any has_gap (other ∷ more)) (search_status (map advice_of (other ∷ more))) behind)
