-- Tables beside the indexes of their columns.
use Rattle.std.proofs.Common.{◌≡◌, ℕ, zero, suc, ◌+◌, ◌<◌, List, [], ◌∷◌, ◌++◌, length, take, get_or, Some, refl, sym, ap, subst, ◌∙◌, arith}
use Rattle.std.specs.Prelude.{slice_get, option_and_then}
use Rattle.std.proofs.lemmas.Option.{option_and_then_some, slice_get-get_or}
use Rattle.adv_base.specs.declared.catalogue.table.Table.{Table}
use Rattle.adv_base.specs.declared.catalogue.column.Column.{Column}
use Rattle.binder.specs.declared.index.NameIndex.{NameIndex}
use Rattle.std.proofs.lemmas.List.{take_more, length-take-le, length-append}
use Rattle.binder.specs.Lookups.{find_in, goes_by, table_number, column_number, column_of, IndexesColumns, IndexesEach}
use Rattle.binder.proofs.Positions.{position_from-within}

pub table_number-within : (tables : List Table) (word : List ℕ) (t : ℕ) → table_number tables word ≡ Some t → t < length tables
table_number-within tables word t e = let lt = position_from-within (λ (x : Table). goes_by word x.name) 0 tables t e in omega arith

pub column_number-within : (columns : List Column) (word : List ℕ) (c : ℕ) → column_number columns word ≡ Some c → c < length columns
column_number-within columns word c e = let lt = position_from-within (λ (x : Column). goes_by word x.name) 0 columns c e in omega arith

-- a table has at most 200 columns
pub column_of-small : (tables : List Table) (t : ℕ) (word : List ℕ) (c : ℕ) → column_of tables t word ≡ Some c → c < 200
unfolding column_of
column_of-small tables t word c e =
    option_and_then_some (λ (table : Table). column_number table.columns word) (slice_get tables t) c e
    (λ table is found. let lt = column_number-within table.columns word c found in let most = table.limits.columns_most in omega arith)

-- one table more with its index
pub IndexesEach-push : (tables : List Table) (indexes : List NameIndex) (table : Table) (index : NameIndex) → length indexes ≡ length tables
    → IndexesEach tables indexes → IndexesColumns table.columns index → IndexesEach (tables ++ table ∷ []) (indexes ++ index ∷ [])
unfolding column_of
IndexesEach-push [] [] table index same each new zero word = new word
IndexesEach-push [] [] table index same each new (suc t) word = refl
IndexesEach-push [] (i ∷ is) table index same each new t word = absurd (omega arith)
IndexesEach-push (x ∷ xs) [] table index same each new t word = absurd (omega arith)
IndexesEach-push (x ∷ xs) (i ∷ is) table index same each new zero word = each zero word
IndexesEach-push (x ∷ xs) (i ∷ is) table index same each new (suc t) word =
    IndexesEach-push xs is table index (omega arith) (λ u w. each (suc u) w) new t word

-- what the index of a table finds
pub IndexesEach-at : (tables : List Table) (indexes : List NameIndex) (index : NameIndex) (t : ℕ) (word : List ℕ) → IndexesEach tables indexes
    → t < length indexes → index ≡ get_or indexes t index → find_in index word ≡ column_of tables t word
IndexesEach-at tables indexes index t word each lt is =
    let at : slice_get indexes t ≡ Some index = slice_get-get_or indexes t index lt ∙ ap (λ (x : NameIndex). Some x) (sym is) in
    sym (ap (option_and_then (λ (i : NameIndex). find_in i word)) at) ∙ each t word

pub IndexesEach-none : (indexes : List NameIndex) → indexes ≡ [] → (length indexes ≡ 0) × IndexesEach [] indexes
unfolding column_of
IndexesEach-none indexes none = (ap length none, λ t word. ap (λ (is : List NameIndex). option_and_then (λ (i : NameIndex). find_in i word) (slice_get is t)) none)

-- a turn of the loop over the tables
pub IndexesEach-more : (tables : List Table) (i : ℕ) (table : Table) (indexes after : List NameIndex) (index : NameIndex) → i < length tables → table ≡ get_or tables i table
    → after ≡ indexes ++ index ∷ [] → (length indexes ≡ i) × IndexesEach (take i tables) indexes → (columns : List Column) → columns ≡ table.columns → IndexesColumns columns index
    → (length after ≡ i + 1) × IndexesEach (take (i + 1) tables) after
IndexesEach-more tables i table indexes after index lt is put so_far columns own made =
    let new : IndexesColumns table.columns index = subst (λ (cs : List Column). IndexesColumns cs index) own made in
    let front : take (i + 1) tables ≡ take i tables ++ table ∷ [] = take_more tables i table lt ∙ ap (λ (x : Table). take i tables ++ x ∷ []) (sym is) in
    let len : length indexes ≡ length (take i tables) = so_far.0 ∙ sym (length-take-le i tables (omega arith)) in
    (rw put (length-append indexes (index ∷ []) ∙ ap (λ (n : ℕ). n + 1) so_far.0), rw (put, front) (IndexesEach-push (take i tables) indexes table index len so_far.1 new))
