-- Sums over what is chosen by flags.
use Rattle.std.proofs.Common.{◌≡◌, ℕ, suc, ◌+◌, ◌<◌, ◌≤◌, List, [], ◌∷◌, length, drop, get_or, refl, arith, drop-cons}
use Rattle.std.specs.Prelude.{Bool, true, false, sum_by, if◌then◌else◌}
use Rattle.std.proofs.lemmas.List.{drop_all}
use Rattle.std.proofs.lemmas.List.Sums.{sum_by-cons}
use Rattle.adv_base.specs.Configs.{chosen}

-- one thing with its flag, before the rest
pub chosen-cons : {X : Type 0} (f : X → ℕ) (b : Bool) (flags : List Bool) (x : X) (xs : List X) →
    sum_by f (chosen (b ∷ flags) (x ∷ xs)) ≡ (if b then f x else 0) + sum_by f (chosen flags xs)
chosen-cons f true flags x xs = sum_by-cons f x (chosen flags xs)
chosen-cons f false flags x xs = omega arith

-- the i-th thing with its flag, before the rest
pub chosen-drop : {X : Type 0} (f : X → ℕ) (flags : List Bool) (xs : List X) (i : ℕ) (b : Bool) (x : X) → i < length flags → i < length xs →
    sum_by f (chosen (drop i flags) (drop i xs)) ≡ (if get_or flags i b then f (get_or xs i x) else 0) + sum_by f (chosen (drop (i + 1) flags) (drop (i + 1) xs))
chosen-drop f flags xs i b x flags_within xs_within =
    let next : i + 1 ≡ suc i = omega arith in
    rw (next, drop-cons flags i b flags_within, drop-cons xs i x xs_within)
    (chosen-cons f (get_or flags i b) (drop (suc i) flags) (get_or xs i x) (drop (suc i) xs))

chosen-nil : {X : Type 0} (f : X → ℕ) (flags : List Bool) → sum_by f (chosen flags []) ≡ 0
chosen-nil f [] = refl
chosen-nil f (b ∷ flags) = refl

-- past the things
pub chosen-past : {X : Type 0} (f : X → ℕ) (flags : List Bool) (xs : List X) (i : ℕ) → length xs ≤ i → sum_by f (chosen (drop i flags) (drop i xs)) ≡ 0
chosen-past f flags xs i past = rw (drop_all i xs past) (chosen-nil f (drop i flags))

-- past the flags
pub chosen-flagless : {X : Type 0} (f : X → ℕ) (flags : List Bool) (xs : List X) (i : ℕ) → length flags ≤ i → sum_by f (chosen (drop i flags) (drop i xs)) ≡ 0
chosen-flagless f flags xs i past = rw (drop_all i flags past) refl
