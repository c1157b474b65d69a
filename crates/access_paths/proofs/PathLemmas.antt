-- The access paths to a table, one place of the candidates after the other.
use Rattle.std.proofs.Common.{◌≡◌, ◌∙◌, ℕ, suc, ◌+◌, ◌<◌, ◌≤◌, List, [], ◌∷◌, ◌++◌, length, drop, get_or, map, All, refl, sym, ap, subst, arith, append_assoc, drop-cons}
use Rattle.std.specs.Prelude.{Bool, true, false, ◌==◌, ◌&&◌, filter, sum_by, Some}
use Rattle.std.specs.List.{enumerate_from}
use Rattle.std.proofs.lemmas.Bool.Decides.{nat_tests}
use Rattle.std.proofs.lemmas.List.{drop_all, map-append}
use Rattle.std.proofs.lemmas.List.Elements.{All-append, All-cons, All-filter, All-map, All-nil, filter_passes}
use Rattle.std.proofs.lemmas.List.Sums.{get_or-le-sum_by}
use Rattle.std.proofs.lemmas.Option.{slice_get_within, get_or_from_slice_get}
use Rattle.adv_base.specs.declared.catalogue.Catalogue.{Catalogue}
use Rattle.adv_base.specs.declared.catalogue.index.IndexShape.{IndexShape}
use Rattle.adv_base.specs.declared.catalogue.table.Table.{Table}
use Rattle.adv_base.specs.declared.limits.TheConstants.{MOST_INDEXES}
use Rattle.adv_base.specs.declared.setting.Config.{Config}
use Rattle.adv_base.specs.Configs.{chosen}
use Rattle.adv_base.specs.Lookups.{column_count, table_at}
use Rattle.adv_base.specs.Named.{NamesShape}
use Rattle.adv_base.specs.Offers.{Path, Heap, Existing, candidate_path, numbered_on, paths_on}
use Rattle.access_paths.specs.declared.paths.AccessPath.{AccessPath}
use Rattle.access_paths.specs.inner.Paths.{IsWithin, as_path, as_paths}

-- the candidates on a table of those that are chosen, from one place on
abbrev pub numbered_from : ℕ → ℕ → List Bool → List IndexShape → List (ℕ × IndexShape)
numbered_from t place flags shapes = filter (λ numbered. numbered.1.table == t) (chosen flags (enumerate_from (place + 1) shapes))

chosen-nil : {X : Type 0} (flags : List Bool) → chosen {X = X} flags [] ≡ []
chosen-nil [] = refl
chosen-nil (flag ∷ flags) = refl

-- behind the last shape
pub numbered_from-past : (t place : ℕ) (flags : List Bool) (shapes : List IndexShape) → length shapes ≤ place → numbered_from t place (drop place flags) (drop place shapes) ≡ []
numbered_from-past t place flags shapes past =
    rw (drop_all place shapes past) (ap (filter (λ (numbered : ℕ × IndexShape). numbered.1.table == t)) (chosen-nil (drop place flags)))

-- ## The keys of paths

chosen-all : {X : Type 0} (P : X → Type 0) (flags : List Bool) (xs : List X) → All P xs → All P (chosen flags xs)
chosen-all P [] xs all = All-nil P
chosen-all P (flag ∷ flags) [] all = All-nil P
chosen-all P (true ∷ flags) (x ∷ xs) all =
    All-cons P x (chosen flags xs) (all 0 x (omega arith)) (chosen-all P flags xs (λ k d h. all (suc k) d (omega (arith, h))))
chosen-all P (false ∷ flags) (x ∷ xs) all = chosen-all P flags xs (λ k d h. all (suc k) d (omega (arith, h)))

enumerate-all : {X : Type 0} (P : X → Type 0) (n : ℕ) (xs : List X) → All P xs → All (λ p. P p.1) (enumerate_from n xs)
enumerate-all P n [] all = All-nil (λ p. P p.1)
enumerate-all P n (x ∷ xs) all =
    All-cons (λ p. P p.1) (n, x) (enumerate_from (n + 1) xs) (all 0 x (omega arith)) (enumerate-all P (n + 1) xs (λ k d h. all (suc k) d (omega (arith, h))))

candidate-within : (cat : Catalogue) (t : ℕ) (table : Table) → column_count cat t ≡ length table.columns → (p : ℕ × IndexShape) → NamesShape cat p.1 → (p.1.table == t) ≡ true →
    IsWithin table (candidate_path p)
candidate-within cat t table columns p named on =
    let own : p.1.table ≡ t = grind (arith, nat_tests) in
    subst (λ (n : ℕ). All (λ (key : ℕ). key < n) p.1.keys) (ap (column_count cat) own ∙ columns) named.keys

-- each path's keys are columns of the table
pub paths_on-within : (cat : Catalogue) (shapes : List IndexShape) (config : Config) (t : ℕ) (table : Table) → All (NamesShape cat) shapes → column_count cat t ≡ length table.columns →
    All (IsWithin table) (paths_on shapes config t table)
paths_on-within cat shapes config t table named columns =
    let numbered : All (λ (p : ℕ × IndexShape). NamesShape cat p.1) (chosen config.on (enumerate_from 1 shapes)) =
    chosen-all (λ p. NamesShape cat p.1) config.on (enumerate_from 1 shapes) (enumerate-all (NamesShape cat) 1 shapes named) in
    let taken : All (λ (p : ℕ × IndexShape). NamesShape cat p.1) (numbered_on shapes config t) =
    All-filter (λ p. p.1.table == t) (λ p. NamesShape cat p.1) (chosen config.on (enumerate_from 1 shapes)) numbered in
    let own : All (λ (p : ℕ × IndexShape). (p.1.table == t) ≡ true) (numbered_on shapes config t) =
    filter_passes (λ p. p.1.table == t) (chosen config.on (enumerate_from 1 shapes)) in
    let candidates : All (IsWithin table) (map candidate_path (numbered_on shapes config t)) =
    All-map (IsWithin table) candidate_path (numbered_on shapes config t) (λ k d h. candidate-within cat t table columns (get_or (numbered_on shapes config t) k d) (taken k d h) (own k d h)) in
    let existing : All (IsWithin table) (map Existing table.indexes) =
    All-map (IsWithin table) Existing table.indexes (λ k d h. table.limits.keys k d h) in
    All-cons (IsWithin table) Heap (map Existing table.indexes ++ map candidate_path (numbered_on shapes config t)) (All-nil (λ (key : ℕ). key < length table.columns))
    (All-append (IsWithin table) (map Existing table.indexes) (map candidate_path (numbered_on shapes config t)) existing candidates)

-- a table has at most as many indexes as the catalogue
pub indexes-few : (cat : Catalogue) (t : ℕ) (table : Table) → table_at cat t ≡ Some table → length table.indexes ≤ MOST_INDEXES
indexes-few cat t table table_is =
    let within : t < length cat.tables = slice_get_within cat.tables t table table_is in
    let at : get_or cat.tables t table ≡ table = get_or_from_slice_get cat.tables t table table table_is in
    let some : length (get_or cat.tables t table).indexes ≤ sum_by (λ x. length x.indexes) cat.tables = get_or-le-sum_by (λ x. length x.indexes) cat.tables t table within in
    let all : sum_by (λ x. length x.indexes) cat.tables ≤ MOST_INDEXES = cat.limits.indexes_most in
    let one : length table.indexes ≤ sum_by (λ x. length x.indexes) cat.tables = rw at at some in
    omega arith

-- the same of paths as the code lists them
pub within_as_paths : (table : Table) (paths : List AccessPath) → All (IsWithin table) (as_paths paths) → All (λ path. IsWithin table (as_path path)) paths
within_as_paths table [] all = All-nil (λ path. IsWithin table (as_path path))
within_as_paths table (path ∷ paths) all =
    All-cons (λ path. IsWithin table (as_path path)) path paths (all 0 (as_path path) (omega arith)) (within_as_paths table paths (λ k d h. all (suc k) d (omega (arith, h))))
