-- Upkeep by weight, with one statement more and more candidates.
use Rattle.std.proofs.Common.{◌≡◌, ◌∙◌, ℕ, ◌+◌, ◌-◌, ◌*◌, ◌<◌, ◌≤◌, List, [], ◌∷◌, ◌++◌, length, map, take, drop, get_or, refl, sym, ap, arith}
use Rattle.std.specs.Prelude.{Some, slice_get}
use Rattle.std.proofs.lemmas.List.{get_or-map, get_or-take, length-map, length-take, map-append, take-append-drop, take_all}
use Rattle.std.proofs.lemmas.List.Sums.{sum_by-append}
use Rattle.adv_base.specs.declared.workload.Statement.{Statement}
use Rattle.adv_base.specs.declared.workload.Work.{Work}
use Rattle.programme_parts.proofs.Reading.{take-found}
use Rattle.retune.proofs.UpkeepWeights.{weighted}

-- the share of the last statement
pub last-share : (each : Work → ℕ) (statements : List Statement) (last : Statement) → 1 ≤ length statements → slice_get statements (length statements - 1) ≡ Some last →
    weighted each (take (length statements - 1) statements) + last.weight * each last.work ≡ weighted each statements
last-share each statements last some found =
    let before : ℕ = length statements - 1 in
    let place : before + 1 ≡ length statements = omega arith in
    let whole : take before statements ++ last ∷ [] ≡ statements =
    sym (take-found statements before last found) ∙ ap (λ (n : ℕ). take n statements) place ∙ take_all (length statements) statements (omega arith) in
    let both = sum_by-append (λ (s : Statement). s.weight * each s.work) (take before statements) (last ∷ []) in
    let own : weighted each (last ∷ []) ≡ 0 + last.weight * each last.work = refl in
    omega (arith, both, own, ap (weighted each) whole)

-- numbers of the first elements
pub known-few : {A : Type 0} (f : A → ℕ) (known : List ℕ) (xs : List A) → known ≡ map f (take (length known) xs) → length known ≤ length xs
known-few f known xs same = omega (arith, ap length same, length-map (take (length known) xs) f, length-take (length known) xs)

pub known-at : {A : Type 0} (f : A → ℕ) (known : List ℕ) (xs : List A) (at : ℕ) (d : A) (e : ℕ) → known ≡ map f (take (length known) xs) → at < length known → get_or known at e ≡ f (get_or xs at d)
known-at f known xs at d e same within =
    let there : at < length (take (length known) xs) = omega (arith, ap length same, length-map (take (length known) xs) f, within) in
    ap (λ (ks : List ℕ). get_or ks at e) same ∙ get_or-map f (take (length known) xs) at d e there ∙ ap f (get_or-take (length known) xs at d within)

-- numbers of the first elements and of the others
pub mapped-parts : {A : Type 0} (f : A → ℕ) (n : ℕ) (xs : List A) → map f (take n xs) ++ map f (drop n xs) ≡ map f xs
mapped-parts f n xs = sym (map-append f (take n xs) (drop n xs)) ∙ ap (map f) (take-append-drop n xs)
