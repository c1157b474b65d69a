-- What names mean exists.
use Rattle.std.proofs.Common.{◌≡◌, ℕ, suc, ◌+◌, ◌<◌, List, [], ◌∷◌, length, Option, Some, None, Ok, refl, sym, ap, subst, ◌∙◌, arith}
use Rattle.std.specs.Prelude.{slice_get, option_map}
use Rattle.std.specs.Option.{option_map_or}
use Rattle.std.proofs.lemmas.Option.{option_and_then_some, slice_get_within}
use Rattle.adv_base.specs.declared.catalogue.Catalogue.{Catalogue}
use Rattle.adv_base.specs.declared.catalogue.table.Table.{Table}
use Rattle.adv_base.specs.Lookups.{column_count}
use Rattle.adv_base.specs.Readings.{or_fault}
use Rattle.sql_tokens.specs.declared.token.Span.{Span}
use Rattle.sql_reader.specs.declared.parsed.NameUse.{NameUse}
use Rattle.binder.specs.declared.gathered.SlotColumn.{SlotColumn}
use Rattle.binder.specs.declared.scope.Visible.{Visible}
use Rattle.binder.specs.declared.fault.BindFault.TheVariants.{NoColumn}
use Rattle.binder.specs.Names.{word_in, place}
use Rattle.binder.specs.Lookups.{column_number, column_of}
use Rattle.binder.specs.Scopes.{Names, slot_column, source_meant, column_in, owner, owners, the_one, qualified, unqualified, by_qualifier, meaning}
use Rattle.binder.proofs.Readings.{bind_ok, or_fault_ok}
use Rattle.binder.proofs.Columns.{column_number-within}

-- how many columns the source of a number has
abbrev pub width : Names → ℕ → ℕ
width names s = option_map_or (λ v. column_count names.cat v.table) (slice_get names.sources s) 0

-- a column of one of the sources
pub record IsColumn (names : Names) (c : SlotColumn) : Type 0 where
  pub slot : c.slot < length names.sources
  pub column : c.column < width names c.slot

-- a column that was found lies in its table
pub column_of-within : (cat : Catalogue) (t : ℕ) (word : List ℕ) (c : ℕ) → column_of cat.tables t word ≡ Some c → c < column_count cat t
unfolding column_of
column_of-within cat t word c e =
    option_and_then_some (λ (table : Table). column_number table.columns word) (slice_get cat.tables t) c e
    (λ table is found. rw is (column_number-within table.columns word c found))

IsColumn-at : (names : Names) (s : ℕ) (v : Visible) (word : List ℕ) (c : ℕ) → slice_get names.sources s ≡ Some v → column_of names.cat.tables v.table word ≡ Some c → IsColumn names (slot_column s c)
IsColumn-at names s v word c at found = record {
  slot = slice_get_within names.sources s v at;
  column = rw at (column_of-within names.cat v.table word c found);
}

IsColumn-in : (names : Names) (s : ℕ) (word : List ℕ) (c : ℕ) → column_in names s word ≡ Some c → IsColumn names (slot_column s c)
IsColumn-in names s word c e =
    option_and_then_some (λ (v : Visible). column_of names.cat.tables v.table word) (slice_get names.sources s) c e
    (λ v at found. IsColumn-at names s v word c at found)

map_some : {A B : Type 0} (f : A → B) (o : Option A) (y : B) → option_map f o ≡ Some y → (x : A) × (o ≡ Some x) × (f x ≡ y)
map_some f None y e = absurd cc
map_some f (Some x) y e = (x, refl, cc)

IsColumn-qualified : (names : Names) (source name : Span) (c : SlotColumn) → qualified names source name ≡ Ok c → IsColumn names c
unfolding qualified
IsColumn-qualified names source name c e =
    let first = bind_ok (source_meant names source) (λ s. or_fault (NoColumn (place name)) (option_map (slot_column s) (column_in names s (word_in names.text name)))) c e in
    let some = or_fault_ok (NoColumn (place name)) (option_map (slot_column first.0) (column_in names first.0 (word_in names.text name))) c first.2 in
    let found = map_some (slot_column first.0) (column_in names first.0 (word_in names.text name)) c some in
    subst (IsColumn names) found.2 (IsColumn-in names first.0 (word_in names.text name) found.0 found.1)

-- each owner is a column of the sources, of which some were passed
owners-are : (names : Names) (s : ℕ) (sources : List Visible) (word : List ℕ) → ((i : ℕ) → slice_get sources i ≡ slice_get names.sources (s + i))
    → (c : SlotColumn) (more : List SlotColumn) → owners names.cat s sources word ≡ c ∷ more → IsColumn names c
owners-are names s [] word rest c more e = absurd cc
owners-are names s (v ∷ vs) word rest c more e = by (owners-are names (s + 1) vs word (λ i. rest (suc i) ∙ ap (slice_get names.sources) (omega arith))) (column_of names.cat.tables v.table word) refl e
  where
    by : ((d : SlotColumn) (others : List SlotColumn) → owners names.cat (s + 1) vs word ≡ d ∷ others → IsColumn names d)
        → (o : Option ℕ) → column_of names.cat.tables v.table word ≡ o → owner s o (owners names.cat (s + 1) vs word) ≡ c ∷ more → IsColumn names c
    by deeper None none head = deeper c more head
    by deeper (Some k) found head =
        let at : slice_get names.sources s ≡ Some v = ap (slice_get names.sources) (omega arith) ∙ sym (rest 0) in
        let is : slot_column s k ≡ c = cc in
        subst (IsColumn names) is (IsColumn-at names s v word k at found)

the_one_ok : (at : ℕ) (cs : List SlotColumn) (c : SlotColumn) → the_one at cs ≡ Ok c → cs ≡ c ∷ []
the_one_ok at [] c e = absurd cc
the_one_ok at (d ∷ []) c e = cc
the_one_ok at (d ∷ f ∷ more) c e = absurd cc

IsColumn-unqualified : (names : Names) (name : Span) (c : SlotColumn) → unqualified names name ≡ Ok c → IsColumn names c
unfolding unqualified
IsColumn-unqualified names name c e =
    let word = word_in names.text name in
    owners-are names 0 names.sources word (λ i. ap (slice_get names.sources) (omega arith)) c [] (the_one_ok (place name) (owners names.cat 0 names.sources word) c e)

by_qualifier-column : (names : Names) (source : Option Span) (name : Span) (c : SlotColumn) → by_qualifier names source name ≡ Ok c → IsColumn names c
by_qualifier-column names None name c e = IsColumn-unqualified names name c e
by_qualifier-column names (Some source) name c e = IsColumn-qualified names source name c e

-- what a name means is a column of one of the sources
pub IsColumn-meaning : (names : Names) (name_use : NameUse) (c : SlotColumn) → meaning names name_use ≡ Ok c → IsColumn names c
IsColumn-meaning names name_use c e = by_qualifier-column names name_use.qualifier name_use.name c e
