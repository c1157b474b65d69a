-- Points and their answers, and lists with one element written.
use Rattle.std.proofs.Common.{◌≡◌, ◌∙◌, ℕ, zero, suc, ◌<◌, List, [], ◌∷◌, length, map, refl, sym, ap, arith}
use Rattle.std.specs.Prelude.{Some, slice_get, slice_index_or, slice_set, ℤ}
use Rattle.std.proofs.lemmas.Option.{same_Some}
use Rattle.bip_model.specs.declared.answer.Answer.{Answer}
use Rattle.bip_model.specs.declared.point.Point.{Point}
use Rattle.budget_sweep.specs.Curves.{answers_of}
use Rattle.budget_sweep.specs.inner.Passes.{with_low, bare}

-- ## Answers

pub answer-of : (points : List Point) (k : ℕ) (point : Point) → slice_get points k ≡ Some point → slice_get (answers_of points) k ≡ Some point.answer
answer-of [] k point found = absurd (cc)
answer-of (p ∷ ps) zero point found = ap (λ (q : Point). Some q.answer) (same_Some p point found)
answer-of (p ∷ ps) (suc k) point found = answer-of ps k point found

-- the point of an answer
pub record Answers (points : List Point) (k : ℕ) (answer : Answer) : Type 0 where
  pub point : Point
  pub found : slice_get points k ≡ Some point
  pub answer_is : point.answer ≡ answer

pub point-of : (points : List Point) (k : ℕ) (answer : Answer) → slice_get (answers_of points) k ≡ Some answer → Answers points k answer
point-of [] k answer found = absurd (cc)
point-of (p ∷ ps) zero answer found = record { point = p; found = refl; answer_is = same_Some p.answer answer found }
point-of (p ∷ ps) (suc k) answer found =
    let there = point-of ps k answer found in
    record { point = there.point; found = there.found; answer_is = there.answer_is }

-- ## One element written

pub set-here : {X : Type 0} (xs : List X) (i : ℕ) (y x : X) → slice_get (slice_set xs i y) i ≡ Some x → x ≡ y
set-here [] i y x found = absurd (cc)
set-here (z ∷ zs) zero y x found = sym (same_Some y x found)
set-here (z ∷ zs) (suc i) y x found = set-here zs i y x found

pub set-behind : {X : Type 0} (xs : List X) (i k : ℕ) (y : X) → i < k → slice_get (slice_set xs i y) k ≡ slice_get xs k
set-behind [] i k y before = refl
set-behind (z ∷ zs) zero zero y before = absurd (omega (arith, before))
set-behind (z ∷ zs) zero (suc k) y before = refl
set-behind (z ∷ zs) (suc i) zero y before = absurd (omega (arith, before))
set-behind (z ∷ zs) (suc i) (suc k) y before = set-behind zs i k y (omega (arith, before))

-- ## Points but for their bounds

pub bare-set : (points : List Point) (i : ℕ) (other : Point) (low : ℤ) → map bare (slice_set points i (with_low (slice_index_or points i other) low)) ≡ map bare points
bare-set [] i other low = refl
bare-set (p ∷ ps) zero other low = refl
bare-set (p ∷ ps) (suc i) other low = ap (λ (qs : List Point). bare p ∷ qs) (bare-set ps i other low)

bare-answers : (points : List Point) → answers_of (map bare points) ≡ answers_of points
bare-answers [] = refl
bare-answers (p ∷ ps) = ap (λ (answers : List Answer). p.answer ∷ answers) (bare-answers ps)

pub same-answers : (points others : List Point) → map bare points ≡ map bare others → answers_of points ≡ answers_of others
same-answers points others same = sym (bare-answers points) ∙ ap answers_of same ∙ bare-answers others

bare-at : (points : List Point) (k : ℕ) (point : Point) → slice_get points k ≡ Some point → slice_get (map bare points) k ≡ Some (bare point)
bare-at [] k point found = absurd (cc)
bare-at (p ∷ ps) zero point found = ap (λ (q : Point). Some (bare q)) (same_Some p point found)
bare-at (p ∷ ps) (suc k) point found = bare-at ps k point found

-- a point that is the same but for its bound
pub record IsAt (points : List Point) (k : ℕ) (own : Point) : Type 0 where
  pub point : Point
  pub found : slice_get points k ≡ Some point
  pub same : bare point ≡ own

at-bare : (points : List Point) (k : ℕ) (own : Point) → slice_get (map bare points) k ≡ Some own → IsAt points k own
at-bare [] k own found = absurd (cc)
at-bare (p ∷ ps) zero own found = record { point = p; found = refl; same = same_Some (bare p) own found }
at-bare (p ∷ ps) (suc k) own found =
    let there = at-bare ps k own found in
    record { point = there.point; found = there.found; same = there.same }

pub same-at : (points others : List Point) (k : ℕ) (point : Point) → map bare points ≡ map bare others → slice_get points k ≡ Some point → IsAt others k (bare point)
same-at points others k point same found = at-bare others k (bare point) (ap (λ (qs : List Point). slice_get qs k) (sym same) ∙ bare-at points k point found)

-- ## A point of a list that has one

pub some-point : (points : List Point) (i : ℕ) → i < length points → Point
some-point [] i within = absurd (omega (arith, within))
some-point (p ∷ ps) i within = p
