-- One point more, and one bound more.
use Rattle.std.proofs.Common.{◌≡◌, ◌∙◌, inl, inr, ℕ, zero, suc, ◌+◌, ◌-◌, ◌*◌, ◌<◌, ◌≤◌, List, [], ◌∷◌, ◌++◌, length, map, refl, sym, ap, subst, arith}
use Rattle.std.specs.Prelude.{Some, slice_get, slice_index_or, slice_set, min, ℤ, ◌≤ℤ◌}
use Rattle.std.specs.Int.{int_max}
use Rattle.std.proofs.lemmas.Bool.{cases_lt}
use Rattle.std.proofs.lemmas.Int.{ints, clamps, by_lt_z}
use Rattle.std.proofs.lemmas.List.{length-map, map-append}
use Rattle.std.proofs.lemmas.Option.{slice_get_within, same_Some}
use Rattle.adv_base.specs.declared.catalogue.index.IndexShape.{IndexShape}
use Rattle.bip_model.specs.declared.answer.Answer.{Answer}
use Rattle.bip_model.specs.declared.point.Point.{Point}
use Rattle.bip_model.specs.declared.programme.Programme.{Programme}
use Rattle.bip_model.specs.Best.{IsBest}
use Rattle.bip_model.specs.Proves.{free_node}
use Rattle.bip_model.proofs.Lists.{front-of, back-of, either-of}
use Rattle.budget_sweep.specs.Curves.{IsLeastCost, IsGreatestBound, IsCurveForEach, answers_of}
use Rattle.budget_sweep.specs.inner.Passes.{IsFreeBest, AreBackward, IsAnswered, AreAnswered, AreLeast, AreGreatest, with_low, bare}
use Rattle.budget_sweep.proofs.Points.{answer-of, set-here, set-behind, bare-set, same-answers, same-at}

answer-count : (points : List Point) → length (answers_of points) ≡ length points
answer-count points = length-map points (λ point. point.answer)

-- the one element behind a list
behind-one : {X : Type 0} (x y : X) (number : ℕ) → slice_get (x ∷ []) number ≡ Some y → (number ≡ 0) × (x ≡ y)
behind-one x y zero found = (refl, same_Some x y found)
behind-one x y (suc number) found = absurd (cc)

-- ## Answers, from the last budget to the first

pub backward-pushed : (programme : Programme) (shapes : List IndexShape) (first step count nodes : ℕ) (answers : List Answer) (answer : Answer) → AreBackward programme shapes first step count nodes answers →
    IsFreeBest programme shapes (first + step * (count - 1 - length answers)) nodes answer → AreBackward programme shapes first step count nodes (answers ++ answer ∷ [])
backward-pushed programme shapes first step count nodes answers answer best own k other found =
    elim (either-of answers (answer ∷ []) k other found) [
      | inl front ↦ best k other front
      | inr back ↦
          let one = behind-one answer other back.number back.found in
          let place : length answers ≡ k = omega (arith, back.place, one.0) in
          subst (λ (i : ℕ). IsFreeBest programme shapes (first + step * (count - 1 - i)) nodes other) place
          (subst (IsFreeBest programme shapes (first + step * (count - 1 - length answers)) nodes) one.1 own)
    ]

pub backward-front : (programme : Programme) (shapes : List IndexShape) (first step count nodes : ℕ) (answers : List Answer) (last : Answer) →
    AreBackward programme shapes first step count nodes (answers ++ last ∷ []) → AreBackward programme shapes first step count nodes answers
backward-front programme shapes first step count nodes answers last best k other found = best k other (front-of answers (last ∷ []) k other found)

pub backward-last : (programme : Programme) (shapes : List IndexShape) (first step count nodes : ℕ) (answers : List Answer) (last : Answer) →
    AreBackward programme shapes first step count nodes (answers ++ last ∷ []) → IsFreeBest programme shapes (first + step * (count - 1 - length answers)) nodes last
backward-last programme shapes first step count nodes answers last best =
    let place : length answers + 0 ≡ length answers = omega arith in
    best (length answers) last (subst (λ (k : ℕ). slice_get (answers ++ last ∷ []) k ≡ Some last) place (back-of answers (last ∷ []) 0 last refl))

-- ## Forward

pub least-more : (points : List Point) (last : Point) (answer : Answer) (cost : ℕ) → AreLeast points → slice_get points (length points - 1) ≡ Some last →
    cost ≡ min last.best answer.cost → IsLeastCost (answers_of points ++ answer ∷ []) (length points) cost
least-more points last answer cost least found is =
    let old = least (length points - 1) last found in
    let some : length points - 1 < length points = slice_get_within points (length points - 1) last found in
    let rest : (k : ℕ) (other : Answer) → k ≤ length points → slice_get (answers_of points ++ answer ∷ []) k ≡ Some other → cost ≤ other.cost =
    λ k other before there.
    elim (either-of (answers_of points) (answer ∷ []) k other there) [
      | inl front ↦
          let within : k < length (answers_of points) = slice_get_within (answers_of points) k other front in
          let less = old.least k other (omega (arith, within, answer-count points, some)) front in
          omega (arith, less, is)
      | inr back ↦
          let same = ap (λ (a : Answer). a.cost) (behind-one answer other back.number back.found).1 in
          omega (arith, same, is)
    ]
    in
    elim (cases_lt answer.cost last.best) [
      | inl less ↦
          let place : length (answers_of points) + 0 ≡ length points = omega (arith, answer-count points) in
          record {
            number = length points;
            answer = answer;
            early = omega arith;
            found = subst (λ (k : ℕ). slice_get (answers_of points ++ answer ∷ []) k ≡ Some answer) place (back-of (answers_of points) (answer ∷ []) 0 answer refl);
            cost_is = omega (arith, less, is);
            least = rest;
          }
      | inr more ↦
          record {
            number = old.number;
            answer = old.answer;
            early = omega (arith, old.early);
            found = front-of (answers_of points) (answer ∷ []) old.number old.answer old.found;
            cost_is = let same = old.cost_is in omega (arith, more, is, same);
            least = rest;
          }
    ]

-- what is the least of the first answers stays so
least-kept : (answers more : List Answer) (i cost : ℕ) → i < length answers → IsLeastCost answers i cost → IsLeastCost (answers ++ more) i cost
least-kept answers more i cost within least =
    record {
      number = least.number;
      answer = least.answer;
      early = least.early;
      found = front-of answers more least.number least.answer least.found;
      cost_is = least.cost_is;
      least =
          λ k other before there.
          elim (either-of answers more k other there) [
            | inl front ↦ least.least k other before front
            | inr back ↦ absurd (omega (arith, within, before, back.place))
          ];
    }

pub least-pushed : (points : List Point) (point : Point) → AreLeast points → IsLeastCost (answers_of points ++ point.answer ∷ []) (length points) point.best → AreLeast (points ++ point ∷ [])
least-pushed points point least own i other found =
    let joined : answers_of (points ++ point ∷ []) ≡ answers_of points ++ point.answer ∷ [] = map-append (λ (p : Point). p.answer) points (point ∷ []) in
    subst (λ (answers : List Answer). IsLeastCost answers i other.best) (sym joined)
    (elim (either-of points (point ∷ []) i other found) [
      | inl front ↦
          let within : i < length points = slice_get_within points i other front in
          least-kept (answers_of points) (point.answer ∷ []) i other.best (omega (arith, within, answer-count points)) (least i other front)
      | inr back ↦
          let one = behind-one point other back.number back.found in
          let place : length points ≡ i = omega (arith, back.place, one.0) in
          subst (λ (k : ℕ). IsLeastCost (answers_of points ++ point.answer ∷ []) k other.best) place
          (subst (λ (p : Point). IsLeastCost (answers_of points ++ point.answer ∷ []) (length points) p.best) one.1 own)
    ])

pub answered-pushed : (programme : Programme) (shapes : List IndexShape) (first step nodes : ℕ) (points : List Point) (point : Point) → AreAnswered programme shapes first step nodes points →
    IsAnswered programme shapes first step nodes (length points) point → AreAnswered programme shapes first step nodes (points ++ point ∷ [])
answered-pushed programme shapes first step nodes points point answered own i other found =
    elim (either-of points (point ∷ []) i other found) [
      | inl front ↦ answered i other front
      | inr back ↦
          let one = behind-one point other back.number back.found in
          let place : length points ≡ i = omega (arith, back.place, one.0) in
          subst (λ (k : ℕ). IsAnswered programme shapes first step nodes k other) place (subst (IsAnswered programme shapes first step nodes (length points)) one.1 own)
    ]

-- ## Back

pub greatest-last : (points : List Point) (number : ℕ) (own : Point) → slice_get points number ≡ Some own → length points ≤ number + 1 →
    IsGreatestBound (answers_of points) number own.answer.bound
greatest-last points number own found last =
    record {
      number = number;
      answer = own.answer;
      late = omega arith;
      found = answer-of points number own found;
      bound_is = refl;
      greatest =
          λ k other after there.
          let within : k < length (answers_of points) = slice_get_within (answers_of points) k other there in
          let place : k ≡ number = omega (arith, within, answer-count points, after, last) in
          let same : own.answer ≡ other =
          same_Some own.answer other (sym (answer-of points number own found) ∙ (ap (slice_get (answers_of points)) (sym place) ∙ there)) in
          subst (λ (answer : Answer). other.bound ≤ℤ answer.bound) (sym same) (omega (arith, ints));
    }

pub greatest-more : (points : List Point) (number : ℕ) (own next : Point) (low : ℤ) → AreGreatest points (number + 1) → slice_get points number ≡ Some own →
    slice_get points (number + 1) ≡ Some next → low ≡ int_max own.answer.bound next.low → IsGreatestBound (answers_of points) number low
greatest-more points number own next low behind found there is =
    let old = behind (number + 1) next (omega arith) there in
    let rest : (k : ℕ) (other : Answer) → number ≤ k → slice_get (answers_of points) k ≡ Some other → other.bound ≤ℤ low =
    λ k other after at.
    elim (cases_lt number k) [
      | inl later ↦ let most = old.greatest k other (omega (arith, later)) at in omega (arith, ints, clamps, most, is)
      | inr here ↦
          let place : k ≡ number = omega (arith, here, after) in
          let same : own.answer ≡ other = same_Some own.answer other (sym (answer-of points number own found) ∙ (ap (slice_get (answers_of points)) (sym place) ∙ at)) in
          subst (λ (answer : Answer). answer.bound ≤ℤ low) same (omega (arith, ints, clamps, is))
    ]
    in
    by_lt_z own.answer.bound next.low
    (λ less.
    record {
      number = old.number;
      answer = old.answer;
      late = omega (arith, old.late);
      found = old.found;
      bound_is = let same = old.bound_is in omega (arith, ints, clamps, less, is, same);
      greatest = rest;
    })
    (λ more.
    record {
      number = number;
      answer = own.answer;
      late = omega arith;
      found = answer-of points number own found;
      bound_is = omega (arith, ints, clamps, more, is);
      greatest = rest;
    })

pub greatest-put : (before after : List Point) (number : ℕ) (other : Point) (low : ℤ) → after ≡ slice_set before number (with_low (slice_index_or before number other) low) →
    AreGreatest before (number + 1) → IsGreatestBound (answers_of before) number low → AreGreatest after number
greatest-put before after number other low is behind own k point late found =
    let written = with_low (slice_index_or before number other) low in
    let same : answers_of after ≡ answers_of before = same-answers after before (ap (map bare) is ∙ bare-set before number other low) in
    let here : slice_get (slice_set before number written) k ≡ Some point = ap (λ (points : List Point). slice_get points k) (sym is) ∙ found in
    subst (λ (answers : List Answer). IsGreatestBound answers k point.low) (sym same)
    (elim (cases_lt number k) [
      | inl later ↦ behind k point (omega (arith, later)) (sym (set-behind before number k written later) ∙ here)
      | inr place ↦
          let at : number ≡ k = omega (arith, place, late) in
          let low_is : point ≡ written = set-here before number written point (ap (slice_get (slice_set before number written)) at ∙ here) in
          subst (λ (i : ℕ). IsGreatestBound (answers_of before) i point.low) at
          (subst (IsGreatestBound (answers_of before) number) (sym (ap (λ (p : Point). p.low) low_is)) own)
    ])

-- ## Both

pub points-curve : (programme : Programme) (shapes : List IndexShape) (first step count nodes : ℕ) (before after : List Point) → length before ≡ count → AreAnswered programme shapes first step nodes before → AreLeast before →
    map bare after ≡ map bare before → AreGreatest after 0 → IsCurveForEach programme shapes first step count nodes after
points-curve programme shapes first step count nodes before after counted answered least same low = λ setting limits stands shapes_are.
    record {
      counted = sym (length-map after bare) ∙ ap length same ∙ length-map before bare ∙ counted;
      each =
          λ i point found.
          let old = same-at after before i point same found in
          let own = answered i old.point old.found in
          let answers : answers_of before ≡ answers_of after = sym (same-answers after before same) in
          record {
            budget_is = sym (ap (λ (p : Point). p.budget) old.same) ∙ own.budget_is;
            answer_is = subst (λ (p : Point). IsBest setting p.budget nodes free_node p.answer) old.same (own.answer_is setting limits stands shapes_are);
            best_is = subst (λ (xs : List Answer). IsLeastCost xs i point.best) answers (subst (IsLeastCost (answers_of before) i) (ap (λ (p : Point). p.best) old.same) (least i old.point old.found));
            low_is = low i point (omega arith) found;
          };
    }
