-- Laws of configurations, as sets of candidates.
use Rattle.std.proofs.Common.{◌≡◌, ◌∙◌, ℕ, zero, suc, ◌+◌, ◌-◌, ◌<◌, ◌≤◌, ◌==◌, Bool, true, false, List, [], ◌∷◌, length, get_or, map, replicate, refl, ap, arith}
use Rattle.std.specs.Prelude.{sum, sum_by, slice_get, slice_index_or}
use Rattle.std.specs.Option.{option_map_or}
use Rattle.std.proofs.lemmas.Bool.{ne_eqb}
use Rattle.std.proofs.lemmas.List.Sums.{sum-map}
use Rattle.adv_base.specs.declared.catalogue.Catalogue.{Catalogue}
use Rattle.adv_base.specs.declared.catalogue.index.IndexShape.{IndexShape}
use Rattle.adv_base.specs.declared.setting.Config.{Config}
use Rattle.adv_base.specs.declared.limits.TheConstants.{MOST_CANDIDATES}
use Rattle.adv_base.specs.Configs.{chosen, has_candidate, candidates_in, config_pages, candidate_pages}
use Rattle.adv_base.specs.Nodes.{flags_from, config_of}
use Rattle.adv_base.specs.Sizes.{shape_pages}

-- nothing is chosen where no flag is on
pub chosen-none : {X : Type 0} (n : ℕ) (xs : List X) → chosen (replicate n false) xs ≡ []
chosen-none zero xs = refl
chosen-none (suc n) [] = refl
chosen-none (suc n) (x ∷ xs) = chosen-none n xs

-- at most as many are chosen as there are
pub length-chosen : {X : Type 0} (flags : List Bool) (xs : List X) → length (chosen flags xs) ≤ length xs
length-chosen [] xs = omega arith
length-chosen (flag ∷ flags) [] = omega arith
length-chosen (true ∷ flags) (x ∷ xs) = let rest = length-chosen flags xs in omega arith
length-chosen (false ∷ flags) (x ∷ xs) = let rest = length-chosen flags xs in omega arith

flags_from-at : (has : ℕ → Bool) (a n i : ℕ) → i < n → get_or (flags_from has a n) i false ≡ has (a + i)
unfolding flags_from
flags_from-at has a zero i h = absurd (omega arith)
flags_from-at has a (suc n) zero h = ap has (omega arith)
flags_from-at has a (suc n) (suc i) h =
    let same : suc a + i ≡ a + suc i = omega arith in
    flags_from-at has (suc a) n i (omega arith) ∙ ap has same

-- the configuration of a test has the candidates that pass it
pub config_of-has : (has : ℕ → Bool) (a : ℕ) → 1 ≤ a → a ≤ MOST_CANDIDATES → has_candidate (config_of has) a ≡ has a
unfolding config_of
config_of-has has a some few =
    let counted : (a == 0) ≡ false = ne_eqb a 0 (omega arith) in
    let same : 1 + (a - 1) ≡ a = omega arith in
    rw counted (flags_from-at has 1 MOST_CANDIDATES (a - 1) (omega arith) ∙ ap has same)

-- ## Pages

pub chosen-map : {X Y : Type 0} (f : X → Y) (flags : List Bool) (xs : List X) → chosen flags (map f xs) ≡ map f (chosen flags xs)
chosen-map f [] xs = refl
chosen-map f (flag ∷ flags) [] = refl
chosen-map f (true ∷ flags) (x ∷ xs) = ap (λ ys. f x ∷ ys) (chosen-map f flags xs)
chosen-map f (false ∷ flags) (x ∷ xs) = chosen-map f flags xs

pub slice-map : {X : Type 0} (f : X → ℕ) (xs : List X) (i : ℕ) → slice_index_or (map f xs) i 0 ≡ option_map_or f (slice_get xs i) 0
slice-map f [] i = refl
slice-map f (x ∷ xs) zero = refl
slice-map f (x ∷ xs) (suc i) = slice-map f xs i

-- the pages of a configuration are the sum of those of its shapes
pub pages-by-shape : (cat : Catalogue) (shapes : List IndexShape) (config : Config) → config_pages cat shapes config ≡ sum_by (shape_pages cat) (candidates_in shapes config)
pages-by-shape cat shapes config =
    ap sum (chosen-map (shape_pages cat) config.on shapes) ∙ sum-map (shape_pages cat) (candidates_in shapes config)

-- the pages of a candidate are those of its shape
pub size-by-shape : (cat : Catalogue) (shapes : List IndexShape) (a : ℕ) → candidate_pages cat shapes a ≡ option_map_or (shape_pages cat) (slice_get shapes (a - 1)) 0
size-by-shape cat shapes a = slice-map (shape_pages cat) shapes (a - 1)
