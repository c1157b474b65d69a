-- Sums over lists, and over the elements of a list whose numbers pass a test.
use Rattle.std.proofs.Common.{◌≡◌, ℕ, zero, suc, ◌+◌, ◌*◌, ◌≤◌, Bool, true, false, cond, List, [], ◌∷◌, length, Some, refl, sym, ap, ◌∙◌, inl, inr, arith}
use Rattle.std.specs.Prelude.{slice_get, slice_index_or, filter, sum_by}
use Rattle.std.specs.List.{enumerate_from}
use Rattle.std.specs.Option.{option_map_or}
use Rattle.std.proofs.Math.Nat.{mul-add}
use Rattle.std.proofs.lemmas.Bool.{cases_Bool}
use Rattle.std.proofs.lemmas.List.Sums.{sum_by-cons}
use Rattle.adv_base.specs.Configs.{chosen}
use Rattle.plan_model.specs.Exchange.{sum_below}
use Rattle.plan_model.proofs.SetLaws.{sum_below-same}

-- ## Sums over lists

abbrev pub total : {X : Type 0} → (X → ℕ) → List X → ℕ
total f [] = 0
total f (x ∷ xs) = f x + total f xs

pub sum-total : {X : Type 0} (f : X → ℕ) (xs : List X) → sum_by f xs ≡ total f xs
sum-total f [] = refl
sum-total f (x ∷ xs) = sum_by-cons f x xs ∙ ap (λ (n : ℕ). f x + n) (sum-total f xs)

pub total-none : {X : Type 0} (xs : List X) → total (λ x. 0) xs ≡ 0
total-none [] = refl
total-none (x ∷ xs) = let rest = total-none xs in omega (arith, rest)

pub total-same : {X : Type 0} (f g : X → ℕ) (xs : List X) → ((x : X) → f x ≡ g x) → total f xs ≡ total g xs
total-same f g [] same = refl
total-same f g (x ∷ xs) same =
    let here : f x ≡ g x = same x in
    let rest : total f xs ≡ total g xs = total-same f g xs same in
    omega (arith, here, rest)

pub total-add : {X : Type 0} (f g : X → ℕ) (xs : List X) → total (λ x. f x + g x) xs ≡ total f xs + total g xs
total-add f g [] = refl
total-add f g (x ∷ xs) =
    let rest : total (λ x. f x + g x) xs ≡ total f xs + total g xs = total-add f g xs in
    omega (arith, rest)

pub total-scale : {X : Type 0} (k : ℕ) (f : X → ℕ) (xs : List X) → total (λ x. k * f x) xs ≡ k * total f xs
total-scale k f [] = omega arith
total-scale k f (x ∷ xs) =
    let rest : total (λ x. k * f x) xs ≡ k * total f xs = total-scale k f xs in
    ap (λ (n : ℕ). k * f x + n) rest ∙ sym (mul-add k (f x) (total f xs))

pub total-swap : {X Y : Type 0} (f : X → Y → ℕ) (xs : List X) (ys : List Y) → total (λ x. total (f x) ys) xs ≡ total (λ y. total (λ x. f x y) xs) ys
total-swap f [] ys = sym (total-none ys)
total-swap f (x ∷ xs) ys =
    ap (λ (n : ℕ). total (f x) ys + n) (total-swap f xs ys)
    ∙ sym (total-add (f x) (λ y. total (λ x. f x y) xs) ys)

pub total-filter : {X : Type 0} (p : X → Bool) (f : X → ℕ) (xs : List X) → total f (filter p xs) ≡ total (λ x. cond (p x) (f x) 0) xs
total-filter p f [] = refl
total-filter {X} p f (x ∷ xs) =
    let rest : total f (filter p xs) ≡ total (λ x. cond (p x) (f x) 0) xs = total-filter p f xs in
    let lead : total (λ x. cond (p x) (f x) 0) xs ≡ 0 + total (λ x. cond (p x) (f x) 0) xs = omega arith in
    elim (cases_Bool (p x)) [
      | inl passes ↦
          ap (λ (b : Bool). total f (cond b (x ∷ filter p xs) (filter p xs))) passes
          ∙ (ap (λ (n : ℕ). f x + n) rest ∙ ap (λ (b : Bool). cond b (f x) 0 + total (λ x. cond (p x) (f x) 0) xs) (sym passes))
      | inr fails ↦
          ap (λ (b : Bool). total f (cond b (x ∷ filter p xs) (filter p xs))) fails
          ∙ (rest ∙ (lead ∙ ap (λ (b : Bool). cond b (f x) 0 + total (λ x. cond (p x) (f x) 0) xs) (sym fails)))
    ]

-- ## Sums over the places of a list

abbrev pub places : {X : Type 0} → (ℕ → X → ℕ) → ℕ → List X → ℕ
places f k [] = 0
places f k (x ∷ xs) = f k x + places f (suc k) xs

sum_below-front : (f : ℕ → ℕ) (n : ℕ) → sum_below f (suc n) ≡ f 0 + sum_below (λ i. f (suc i)) n
sum_below-front f zero = omega arith
sum_below-front f (suc n) =
    let before : sum_below f (suc n) ≡ f 0 + sum_below (λ i. f (suc i)) n = sum_below-front f n in
    omega (arith, before)

pub sum_below-places : {X : Type 0} (f : ℕ → X → ℕ) (k : ℕ) (xs : List X) → sum_below (λ i. option_map_or (f (k + i)) (slice_get xs i) 0) (length xs) ≡ places f k xs
sum_below-places f k [] = refl
sum_below-places f k (x ∷ xs) =
    let first : f (k + 0) x ≡ f k x = ap (λ (n : ℕ). f n x) (omega arith) in
    let rest : sum_below (λ i. option_map_or (f (k + suc i)) (slice_get xs i) 0) (length xs) ≡ sum_below (λ i. option_map_or (f (suc k + i)) (slice_get xs i) 0) (length xs) =
    sum_below-same (λ i. option_map_or (f (k + suc i)) (slice_get xs i) 0) (λ i. option_map_or (f (suc k + i)) (slice_get xs i) 0) (length xs)
    (λ i below. ap (λ (n : ℕ). option_map_or (f n) (slice_get xs i) 0) (omega arith)) in
    sum_below-front (λ i. option_map_or (f (k + i)) (slice_get (x ∷ xs) i) 0) (length xs)
    ∙ (ap (λ (n : ℕ). n + sum_below (λ i. option_map_or (f (k + suc i)) (slice_get xs i) 0) (length xs)) first
    ∙ ap (λ (n : ℕ). f k x + n) (rest ∙ sum_below-places f (suc k) xs))

-- ## Sums over what is chosen

-- the sum over the elements, numbered from a, whose numbers pass a test
abbrev pub passing : {X : Type 0} → (ℕ → Bool) → (ℕ → X → ℕ) → ℕ → List X → ℕ
passing has f a [] = 0
passing has f a (x ∷ xs) = cond (has a) (f a x) 0 + passing has f (suc a) xs

-- the flags of a list are what a test says of the numbers from a on
abbrev pub AreFlags : (ℕ → Bool) → ℕ → List Bool → Type 0
AreFlags has a flags = (i : ℕ) → has (a + i) ≡ slice_index_or flags i false

flags-first : (has : ℕ → Bool) (a : ℕ) (flags : List Bool) → AreFlags has a flags → has a ≡ slice_index_or flags 0 false
flags-first has a flags are = ap has (omega arith) ∙ are 0

flags-rest : (has : ℕ → Bool) (a : ℕ) (flag : Bool) (flags : List Bool) → AreFlags has a (flag ∷ flags) → AreFlags has (suc a) flags
flags-rest has a flag flags are i = ap has (omega arith) ∙ are (suc i)

flags-none : (has : ℕ → Bool) (a : ℕ) → AreFlags has a [] → AreFlags has (suc a) []
flags-none has a are i = ap has (omega arith) ∙ are (suc i)

passing-none : {X : Type 0} (has : ℕ → Bool) (f : ℕ → X → ℕ) (a : ℕ) (xs : List X) → AreFlags has a [] → passing has f a xs ≡ 0
passing-none has f a [] are = refl
passing-none has f a (x ∷ xs) are =
    let here : cond (has a) (f a x) 0 ≡ 0 = ap (λ (b : Bool). cond b (f a x) 0) (flags-first has a [] are) in
    let rest : passing has f (suc a) xs ≡ 0 = passing-none has f (suc a) xs (flags-none has a are) in
    omega (arith, here, rest)

pub chosen-passing : {X : Type 0} (has : ℕ → Bool) (f : X → ℕ) (a : ℕ) (flags : List Bool) (xs : List X) → AreFlags has a flags → total f (chosen flags xs) ≡ passing has (λ k x. f x) a xs
chosen-passing has f a [] xs are = sym (passing-none has (λ k x. f x) a xs are)
chosen-passing has f a (flag ∷ flags) [] are = refl
chosen-passing has f a (true ∷ flags) (x ∷ xs) are =
    let here : cond (has a) (f x) 0 ≡ f x = ap (λ (b : Bool). cond b (f x) 0) (flags-first has a (true ∷ flags) are) in
    let rest : total f (chosen flags xs) ≡ passing has (λ k x. f x) (suc a) xs = chosen-passing has f (suc a) flags xs (flags-rest has a true flags are) in
    omega (arith, here, rest)
chosen-passing has f a (false ∷ flags) (x ∷ xs) are =
    let here : cond (has a) (f x) 0 ≡ 0 = ap (λ (b : Bool). cond b (f x) 0) (flags-first has a (false ∷ flags) are) in
    let rest : total f (chosen flags xs) ≡ passing has (λ k x. f x) (suc a) xs = chosen-passing has f (suc a) flags xs (flags-rest has a false flags are) in
    omega (arith, here, rest)

pub passing-numbered : {X : Type 0} (has : ℕ → Bool) (f : ℕ × X → ℕ) (a : ℕ) (xs : List X) → passing has (λ k n. f n) a (enumerate_from a xs) ≡ passing has (λ k x. f (k, x)) a xs
passing-numbered has f a [] = refl
passing-numbered has f a (x ∷ xs) =
    let next : a + 1 ≡ suc a = omega arith in
    let rest : passing has (λ k n. f n) (suc a) (enumerate_from (suc a) xs) ≡ passing has (λ k x. f (k, x)) (suc a) xs = passing-numbered has f (suc a) xs in
    ap (λ (n : ℕ). cond (has a) (f (a, x)) 0 + n) (ap (λ (m : ℕ). passing has (λ k n. f n) (suc a) (enumerate_from m xs)) next ∙ rest)

pub passing-add : {X : Type 0} (has : ℕ → Bool) (f g : ℕ → X → ℕ) (a : ℕ) (xs : List X) → passing has (λ k x. f k x + g k x) a xs ≡ passing has f a xs + passing has g a xs
passing-add has f g a [] = refl
passing-add has f g a (x ∷ xs) =
    let rest : passing has (λ k x. f k x + g k x) (suc a) xs ≡ passing has f (suc a) xs + passing has g (suc a) xs = passing-add has f g (suc a) xs in
    elim (cases_Bool (has a)) [
      | inl passes ↦ rw passes (omega (arith, rest))
      | inr fails ↦ rw fails (omega (arith, rest))
    ]

pub passing-scale : {X : Type 0} (has : ℕ → Bool) (c : ℕ) (f : ℕ → X → ℕ) (a : ℕ) (xs : List X) → passing has (λ k x. c * f k x) a xs ≡ c * passing has f a xs
passing-scale has c f a [] = omega arith
passing-scale has c f a (x ∷ xs) =
    let rest : passing has (λ k x. c * f k x) (suc a) xs ≡ c * passing has f (suc a) xs = passing-scale has c f (suc a) xs in
    let here : cond (has a) (c * f a x) 0 ≡ c * cond (has a) (f a x) 0 = scaled (has a) c (f a x) in
    ap (λ (n : ℕ). cond (has a) (c * f a x) 0 + n) rest ∙ (ap (λ (n : ℕ). n + c * passing has f (suc a) xs) here ∙ sym (mul-add c (cond (has a) (f a x) 0) (passing has f (suc a) xs)))
  where
    scaled : (b : Bool) (c n : ℕ) → cond b (c * n) 0 ≡ c * cond b n 0
    scaled true c n = refl
    scaled false c n = omega arith

-- where one test passes whenever another does, its sum is no less
pub passing-more : {X : Type 0} (few many : ℕ → Bool) (f : ℕ → X → ℕ) (a : ℕ) (xs : List X) → ((k : ℕ) → few k ≡ true → many k ≡ true) → passing few f a xs ≤ passing many f a xs
passing-more few many f a [] more = omega arith
passing-more few many f a (x ∷ xs) more =
    let rest : passing few f (suc a) xs ≤ passing many f (suc a) xs = passing-more few many f (suc a) xs more in
    elim (cases_Bool (few a)) [
      | inl here ↦ rw (here, more a here) (omega (arith, rest))
      | inr not_here ↦ rw not_here (omega (arith, rest))
    ]

-- and no less by a number that it alone passes
pub passing-one_more : {X : Type 0} (few many : ℕ → Bool) (f : ℕ → X → ℕ) (a i : ℕ) (x : X) (xs : List X) → ((k : ℕ) → few k ≡ true → many k ≡ true) → slice_get xs i ≡ Some x → few (a + i) ≡ false → many (a + i) ≡ true → passing few f a xs + f (a + i) x ≤ passing many f a xs
passing-one_more few many f a i x [] more found out inside = cc
passing-one_more few many f a zero x (y ∷ ys) more found out inside =
    let same : y ≡ x = cc in
    let here : a + 0 ≡ a = omega arith in
    let first : f (a + 0) x ≡ f a y = ap (λ (n : ℕ). f n x) here ∙ ap (f a) (sym same) in
    let lacks : few a ≡ false = ap few (sym here) ∙ out in
    let has : many a ≡ true = ap many (sym here) ∙ inside in
    let rest : passing few f (suc a) ys ≤ passing many f (suc a) ys = passing-more few many f (suc a) ys more in
    rw (lacks, has) (omega (arith, rest, first))
passing-one_more few many f a (suc i) x (y ∷ ys) more found out inside =
    let next : a + suc i ≡ suc a + i = omega arith in
    let same : f (a + suc i) x ≡ f (suc a + i) x = ap (λ (n : ℕ). f n x) next in
    let rest : passing few f (suc a) ys + f (suc a + i) x ≤ passing many f (suc a) ys =
    passing-one_more few many f (suc a) i x ys more found (ap few (sym next) ∙ out) (ap many (sym next) ∙ inside) in
    elim (cases_Bool (few a)) [
      | inl here ↦ rw (here, more a here) (omega (arith, rest, same))
      | inr not_here ↦ rw not_here (omega (arith, rest, same))
    ]
