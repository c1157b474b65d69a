-- Searches of lists for an element that passes a test.
use Rattle.std.proofs.Common.{◌≡◌, ◌∙◌, ◌≢◌, ◌⊎◌, inl, inr, ℕ, suc, ◌+◌, ◌<◌, ◌≤◌, Bool, false, cond, ◌||◌, List, [], ◌∷◌, length, get_or, refl, sym, ap, arith, add-one, get_or-set_other}
use Rattle.std.specs.Prelude.{Some, slice_get}
use Rattle.std.specs.List.{list_any}
use Rattle.std.proofs.lemmas.Bool.{cases_lt}
use Rattle.std.proofs.Math.ListN.{set}
use Rattle.std.proofs.lemmas.List.{get_or-set_same}
use Rattle.std.proofs.lemmas.Option.{slice_get_within}
use Rattle.bip_model.specs.declared.programme.Programme.{Programme}
use Rattle.bip_model.specs.Candidates.{is_useful, useful_below}

-- no element below an index passes
abbrev pub NoneBelow : {X : Type 0} → (X → Bool) → List X → ℕ → Type 0
NoneBelow {X} test xs n = (k : ℕ) (x : X) → k < n → slice_get xs k ≡ Some x → test x ≡ false

pub none-yet : {X : Type 0} (test : X → Bool) (xs : List X) → NoneBelow test xs 0
none-yet test xs k x within found = absurd (omega (arith, within))

pub none-more : {X : Type 0} (test : X → Bool) (xs : List X) (n : ℕ) (y : X) → NoneBelow test xs n → slice_get xs n ≡ Some y → test y ≡ false → NoneBelow test xs (n + 1)
none-more {X} test xs n y below found fails k x within at = to (cases_lt k n)
  where
    to : ((k < n) ⊎ (n ≤ k)) → test x ≡ false
    to (inl less) = below k x less at
    to (inr more) = let same : k ≡ n = omega (arith, more, within) in let here : Some x ≡ Some y = sym at ∙ ap (slice_get xs) same ∙ found in let equal : x ≡ y = cc in ap test equal ∙ fails

pub none-all : {X : Type 0} (test : X → Bool) (xs : List X) (n : ℕ) → NoneBelow test xs n → length xs ≤ n → list_any test xs ≡ false
none-all test xs n below past = fails test xs (λ k x found. below k x (omega (arith, past, slice_get_within xs k x found)) found)
  where
    fails : {X : Type 0} (test : X → Bool) (xs : List X) → ((k : ℕ) (x : X) → slice_get xs k ≡ Some x → test x ≡ false) → list_any test xs ≡ false
    fails test [] each = refl
    fails test (x ∷ xs) each = ap (λ (b : Bool). b || list_any test xs) (each 0 x refl) ∙ fails test xs (λ k y found. each (suc k) y found)

-- ## How many are useful

pub useful-none : (programme : Programme) (budget : ℕ) → 0 ≡ useful_below programme budget 0
unfolding useful_below
useful-none programme budget = refl

pub useful-more : (programme : Programme) (budget n : ℕ) → useful_below programme budget (n + 1) ≡ useful_below programme budget n + cond (is_useful programme budget (n + 1)) 1 0
unfolding useful_below
useful-more programme budget n =
    ap (useful_below programme budget) (add-one n) ∙ ap (λ (k : ℕ). useful_below programme budget n + cond (is_useful programme budget k) 1 0) (sym (add-one n))

-- one flag more is written
pub flags-more : (useful : ℕ → Bool) (flags : List Bool) (n : ℕ) (flag : Bool) → n < length flags → ((i : ℕ) → i < n → get_or flags i false ≡ useful i) → flag ≡ useful n →
    (i : ℕ) → i < n + 1 → get_or (set flags n flag) i false ≡ useful i
flags-more useful flags n flag room below is i within = to (cases_lt i n)
  where
    to : ((i < n) ⊎ (n ≤ i)) → get_or (set flags n flag) i false ≡ useful i
    to (inl less) = let other : i ≢ n = omega (arith, less) in get_or-set_other flags n i flag false other ∙ below i less
    to (inr more) =
        let same : i ≡ n = omega (arith, more, within) in
        ap (λ (k : ℕ). get_or (set flags n flag) k false) same ∙ get_or-set_same flags n flag false room ∙ is ∙ sym (ap useful same)
