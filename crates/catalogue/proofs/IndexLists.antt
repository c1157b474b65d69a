-- The indexes and tables read so far, beside what a loop keeps of them.
use Rattle.std.proofs.Common.{◌≡◌, ℕ, zero, suc, ◌+◌, ◌<◌, ◌≤◌, Bool, ◌||◌, List, [], ◌∷◌, ◌++◌, length, All, Some, refl, ap, subst, ◌∙◌, arith}
use Rattle.std.specs.Prelude.{slice_get, sum_by, fold}
use Rattle.std.proofs.Math.Bool.{or-false}
use Rattle.std.proofs.lemmas.List.{length-map}
use Rattle.std.proofs.lemmas.List.Folds.{list_any-append}
use Rattle.std.proofs.lemmas.List.Sums.{sum_by-append}
use Rattle.toml.specs.Data.{Data}
use Rattle.adv_base.specs.declared.catalogue.column.Column.{Column}
use Rattle.adv_base.specs.declared.catalogue.index.Index.{Index}
use Rattle.adv_base.specs.declared.catalogue.table.Table.{Table}
use Rattle.adv_base.specs.Limits.Catalogues.{CatalogueLimits}
use Rattle.catalogue.specs.Content.{PlainColumn, plain_column, plain_columns, PlainIndex, PlainTable, plain_index, plain_indexes, plain_table, plain_tables}
use Rattle.catalogue.specs.Values.{folded}
use Rattle.catalogue.specs.Catalogue.{column_names, has_clustered, index_names, index_at, next_index, index_count, table_names, table_at, next_table}

pub clustered-push : (xs : List PlainIndex) (x : PlainIndex) → has_clustered (xs ++ x ∷ []) ≡ (has_clustered xs || x.clustered)
clustered-push xs x = list_any-append (λ (y : PlainIndex). y.clustered) xs (x ∷ []) ∙ ap (λ (b : Bool). has_clustered xs || b) (or-false x.clustered)

-- the next index, by what a loop keeps of those before it
pub next_index-is : (t before here : ℕ) (columns names : List (List ℕ)) (xs : List Index) (taken : Bool) (d : Data)
    → here ≡ before + length xs → names ≡ index_names (plain_indexes xs) → taken ≡ has_clustered (plain_indexes xs)
    → next_index t columns before (plain_indexes xs) d ≡ index_at t columns here names taken d
next_index-is t before here columns names xs taken d h n k =
    let e : before + length (plain_indexes xs) ≡ here = omega (arith, length-map xs plain_index, h) in
    rw (e, n, k) refl

counted : (n : ℕ) (xs : List Table) → fold (λ a x. a + length x.indexes) n (plain_tables xs) ≡ fold (λ a x. a + length x.indexes) n xs
counted n [] = refl
counted n (x ∷ xs) =
    let same : n + length (plain_indexes x.indexes) ≡ n + length x.indexes = omega (arith, length-map x.indexes plain_index) in
    ap (λ (m : ℕ). fold (λ (a : ℕ) (y : PlainTable). a + length y.indexes) m (plain_tables xs)) same ∙ counted (n + length x.indexes) xs

-- how many indexes tables have
pub index_count-plain : (xs : List Table) → index_count (plain_tables xs) ≡ sum_by (λ table. length table.indexes) xs
index_count-plain xs = counted 0 xs

pub index_count-push : (xs : List Table) (x : Table) → index_count (plain_tables xs ++ plain_table x ∷ []) ≡ index_count (plain_tables xs) + length x.indexes
index_count-push xs x = omega (arith, sum_by-append (λ (y : PlainTable). length y.indexes) (plain_tables xs) (plain_table x ∷ []), length-map x.indexes plain_index)

-- there are as many names as tables
pub length-table_names : (xs : List Table) (names : List (List ℕ)) → names ≡ table_names (plain_tables xs) → length names ≡ length xs
length-table_names xs names is = ap length is ∙ length-map (plain_tables xs) (λ (y : PlainTable). folded y.name) ∙ length-map xs plain_table

-- there are as many names as columns
pub length-column_names : (xs : List Column) (names : List (List ℕ)) → names ≡ column_names (plain_columns xs) → length names ≡ length xs
length-column_names xs names is = ap length is ∙ length-map (plain_columns xs) (λ (y : PlainColumn). folded y.name) ∙ length-map xs plain_column

-- keys below the same number by another name
pub known-same : (m n : ℕ) (indexes : List Index) → m ≡ n → All (λ index. All (λ k. k < m) index.shape.keys) indexes → All (λ index. All (λ k. k < n) index.shape.keys) indexes
known-same m n indexes same known = subst (λ (j : ℕ). All (λ (index : Index). All (λ (k : ℕ). k < j) index.shape.keys) indexes) same known

-- the next table, by what a loop keeps of those before it
pub next_table-is : (version before : ℕ) (names : List (List ℕ)) (xs : List Table) (d : Data) → before ≡ index_count (plain_tables xs) → names ≡ table_names (plain_tables xs)
    → next_table version (plain_tables xs) d ≡ table_at version before names d
next_table-is version before names xs d b n = rw (b, n) refl

-- the indexes of each table name it, where the first is table n
abbrev pub AreOwnFrom : ℕ → List Table → Type 0
AreOwnFrom n [] = Unit {0}
AreOwnFrom n (x ∷ xs) = All (λ index. index.shape.table ≡ n) x.indexes × AreOwnFrom (suc n) xs

-- the same number by another sum
pub own-same : (m n : ℕ) (indexes : List Index) → m ≡ n → All (λ index. index.shape.table ≡ m) indexes → All (λ index. index.shape.table ≡ n) indexes
own-same m n indexes same own = subst (λ (k : ℕ). All (λ (index : Index). index.shape.table ≡ k) indexes) same own

pub AreOwnFrom-push : (n : ℕ) (xs : List Table) (x : Table) → AreOwnFrom n xs → All (λ index. index.shape.table ≡ n + length xs) x.indexes → AreOwnFrom n (xs ++ x ∷ [])
AreOwnFrom-push n [] x own last = (own-same (n + 0) n x.indexes (omega arith) last, tt)
AreOwnFrom-push n (y ∷ ys) x own last = (own.0, AreOwnFrom-push (suc n) ys x own.1 (own-same (n + suc (length ys)) (suc n + length ys) x.indexes (omega arith) last))

some_is : (x y : Table) → Some x ≡ Some y → x ≡ y
some_is x y e = cc

AreOwnFrom-at : (n : ℕ) (xs : List Table) (t : ℕ) (x : Table) → AreOwnFrom n xs → slice_get xs t ≡ Some x → All (λ index. index.shape.table ≡ n + t) x.indexes
AreOwnFrom-at n [] t x own at = absurd cc
AreOwnFrom-at n (y ∷ ys) zero x own at =
    own-same n (n + 0) x.indexes (omega arith) (subst (λ (z : Table). All (λ (index : Index). index.shape.table ≡ n) z.indexes) (some_is y x at) own.0)
AreOwnFrom-at n (y ∷ ys) (suc t) x own at = own-same (suc n + t) (n + suc t) x.indexes (omega arith) (AreOwnFrom-at (suc n) ys t x own.1 at)

pub CatalogueLimits-from : (xs : List Table) → length xs ≤ 200 → index_count (plain_tables xs) ≤ 1000 → AreOwnFrom 0 xs → CatalogueLimits xs
CatalogueLimits-from xs few room own = record {
  tables_most = few;
  indexes_most = omega (arith, index_count-plain xs);
  own_table = λ t x at. own-same (0 + t) t x.indexes (omega arith) (AreOwnFrom-at 0 xs t x own at);
}
