-- Upkeep by weight, where one statement got another weight.
use Rattle.std.proofs.Common.{◌≡◌, ◌∙◌, ℕ, zero, suc, ◌+◌, ◌-◌, ◌*◌, ◌<◌, ◌≤◌, List, [], ◌∷◌, length, set, get_or, map, All, refl, ap, subst, arith}
use Rattle.std.specs.Prelude.{sum_by, Some, slice_get}
use Rattle.std.specs.List.{remove}
use Rattle.std.proofs.Math.Nat.{mul-le-mul}
use Rattle.std.proofs.lemmas.List.Sums.{sum_by-set, sum_by-remove, sum_by-le, get_or-le-sum_by}
use Rattle.std.proofs.lemmas.Option.{slice_get_within, get_or_from_slice_get}
use Rattle.adv_base.specs.declared.limits.TheConstants.{MOST_STATEMENTS, MOST_WEIGHT}
use Rattle.adv_base.specs.declared.workload.Statement.{Statement}
use Rattle.adv_base.specs.declared.workload.Work.{Work}
use Rattle.retune.specs.Steps.{AreReweighed}

-- ## Sums

-- of some number of each statement by its weight
abbrev pub weighted : (Work → ℕ) → List Statement → ℕ
weighted each statements = sum_by (λ statement. statement.weight * each statement.work) statements

refl-le : (n : ℕ) → n ≤ n
refl-le n = omega arith

weighted-most : (each : Work → ℕ) (most count : ℕ) (statements : List Statement) → ((s : Statement) → each s.work ≤ most) → length statements ≤ count → weighted each statements ≤ count * (MOST_WEIGHT * most)
weighted-most each most count statements small few =
    let all : All (λ (s : Statement). s.weight * each s.work ≤ MOST_WEIGHT * most) statements = λ k d within. mul-le-mul (get_or statements k d).limits.weight_most (small (get_or statements k d)) in
    omega (arith, sum_by-le (λ (s : Statement). s.weight * each s.work) (MOST_WEIGHT * most) statements all, mul-le-mul few (refl-le (MOST_WEIGHT * most)))

-- the share of a statement is part of the sum
pub has-share : (each : Work → ℕ) (statements : List Statement) (at : ℕ) (d : Statement) → at < length statements → (get_or statements at d).weight * each (get_or statements at d).work ≤ weighted each statements
has-share each statements at d within = get_or-le-sum_by (λ (s : Statement). s.weight * each s.work) statements at d within

pub sum-most : (each : Work → ℕ) (most : ℕ) (statements : List Statement) → ((s : Statement) → each s.work ≤ most) → length statements ≤ MOST_STATEMENTS → weighted each statements ≤ MOST_STATEMENTS * (MOST_WEIGHT * most)
sum-most each most statements small few = weighted-most each most MOST_STATEMENTS statements small few

-- a sum with another weight at a place
abbrev pub moved : (Work → ℕ) → List Statement → Statement → ℕ → ℕ
moved each statements old weight = weighted each statements - old.weight * each old.work + weight * each old.work

length-removed : {A : Type 0} (xs : List A) (at : ℕ) → at < length xs → length (remove xs at) + 1 ≡ length xs
length-removed [] at within = absurd (omega arith)
length-removed (x ∷ xs) zero within = omega arith
length-removed (x ∷ xs) (suc at) within = omega (arith, length-removed xs at (omega arith))

pub moved-most : (each : Work → ℕ) (most : ℕ) (statements : List Statement) (at weight : ℕ) (d : Statement) → ((s : Statement) → each s.work ≤ most) → at < length statements → length statements ≤ MOST_STATEMENTS → weight ≤ MOST_WEIGHT →
    moved each statements (get_or statements at d) weight ≤ MOST_STATEMENTS * (MOST_WEIGHT * most)
moved-most each most statements at weight d small within few light =
    let rest = sum_by-remove (λ (s : Statement). s.weight * each s.work) statements at d within in
    let others = weighted-most each most (MOST_STATEMENTS - 1) (remove statements at) small (omega (arith, few, length-removed statements at within)) in
    let own : weight * each (get_or statements at d).work ≤ MOST_WEIGHT * most = mul-le-mul light (small (get_or statements at d)) in
    omega (arith, rest, others, own)

pub moved-is : (each : Work → ℕ) (before after : List Statement) (at weight : ℕ) (d : Statement) → AreReweighed before (at + 1) weight after → moved each before (get_or before at d) weight ≡ weighted each after
moved-is each before after at weight d h =
    let place : (at + 1) - 1 ≡ at = omega arith in
    let found = subst (λ (i : ℕ). slice_get before i ≡ Some h.old) place h.found in
    let within = slice_get_within before at h.old found in
    let read : get_or before at d ≡ h.old = get_or_from_slice_get before at h.old d found in
    let f : Statement → ℕ = λ s. s.weight * each s.work in
    let whole : weighted each after ≡ sum_by f (set before at h.new) = ap (weighted each) (h.after_is ∙ ap (λ (i : ℕ). set before i h.new) place) in
    let change = sum_by-set f before at h.new d within in
    let own : f (get_or before at d) ≡ f h.old = ap f read in
    let new : f h.new ≡ weight * each h.old.work = ap (λ (w : ℕ). w * each h.new.work) h.weight_is ∙ ap (λ (work : Work). weight * each work) h.work_is in
    let share : f (get_or before at d) ≤ weighted each before = has-share each before at d within in
    let heavy : weight * each (get_or before at d).work ≡ weight * each h.old.work = ap (λ (s : Statement). weight * each s.work) read in
    omega (arith, whole, change, own, new, share, heavy)

-- ## Lists of sums

-- the first costs are moved
abbrev pub partly : {A : Type 0} → (A → ℕ) → (A → ℕ) → ℕ → List A → List ℕ
partly before after zero xs = map before xs
partly before after (suc a) [] = []
partly before after (suc a) (x ∷ xs) = after x ∷ partly before after a xs

pub partly-more : {A : Type 0} (before after : A → ℕ) (a : ℕ) (xs : List A) (d : A) → a < length xs → set (partly before after a xs) a (after (get_or xs a d)) ≡ partly before after (suc a) xs
partly-more before after a [] d within = absurd (omega arith)
partly-more before after zero (x ∷ xs) d within = refl
partly-more before after (suc a) (x ∷ xs) d within = ap (λ costs. after x ∷ costs) (partly-more before after a xs d (omega arith))

pub partly-read : {A : Type 0} (before after : A → ℕ) (a : ℕ) (xs : List A) (d : A) (e : ℕ) → a < length xs → get_or (partly before after a xs) a e ≡ before (get_or xs a d)
partly-read before after a [] d e within = absurd (omega arith)
partly-read before after zero (x ∷ xs) d e within = refl
partly-read before after (suc a) (x ∷ xs) d e within = partly-read before after a xs d e (omega arith)

pub partly-at : {A : Type 0} (before after : A → ℕ) (a : ℕ) (xs : List A) (costs : List ℕ) (d : A) (cost : ℕ) → costs ≡ partly before after a xs → a < length xs → cost ≡ get_or costs a cost → cost ≡ before (get_or xs a d)
partly-at before after a xs costs d cost same within read = read ∙ ap (λ (cs : List ℕ). get_or cs a cost) same ∙ partly-read before after a xs d cost within

pub partly-length : {A : Type 0} (before after : A → ℕ) (a : ℕ) (xs : List A) → length (partly before after a xs) ≡ length xs
partly-length before after zero [] = refl
partly-length before after zero (x ∷ xs) = ap suc (partly-length before after zero xs)
partly-length before after (suc a) [] = refl
partly-length before after (suc a) (x ∷ xs) = ap suc (partly-length before after a xs)

pub partly-whole : {A : Type 0} (before after : A → ℕ) (xs : List A) → partly before after (length xs) xs ≡ map after xs
partly-whole before after [] = refl
partly-whole before after (x ∷ xs) = ap (λ costs. after x ∷ costs) (partly-whole before after xs)

pub map-each : {A : Type 0} (f g : A → ℕ) → ((x : A) → f x ≡ g x) → (xs : List A) → map f xs ≡ map g xs
map-each f g same [] = refl
map-each f g same (x ∷ xs) = ap (λ y. y ∷ map f xs) (same x) ∙ ap (λ ys. g x ∷ ys) (map-each f g same xs)
