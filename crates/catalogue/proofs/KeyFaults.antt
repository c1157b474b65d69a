-- No key answers that there is no document.
use Rattle.std.proofs.Common.{◌≡◌, ◌≢◌, ℕ, ◌+◌, length, Bool, true, false, ℤ, pos, negsuc, List, [], ◌∷◌, ◌++◌, Option, Some, None, Result, Ok, Err, refl, sym, ap, ◌∙◌}
use Rattle.std.specs.Prelude.{codes, not, ◌&&◌, nat_eq, nat_lt, if◌then◌else◌}
use Rattle.std.specs.List.{list_any}
use Rattle.toml.specs.Data.{Data, Items, no_items, item, Members, get_member, as_integer, as_str, as_bool, as_array, as_table}
use Rattle.adv_base.specs.declared.limits.TheConstants.{MOST_ROWS, MOST_PAGES, MOST_RATE, MOST_WIDTH, MOST_BOUNDS, MOST_TABLES, MOST_COLUMNS, MOST_KEYS}
use Rattle.adv_base.specs.declared.catalogue.column.Kind.{Kind}
use Rattle.adv_base.specs.declared.catalogue.column.Kind.TheVariants.{Int, Text, Date}
use Rattle.catalogue.specs.declared.fault.CatFault.{CatFault}
use Rattle.catalogue.specs.declared.fault.CatFault.TheVariants.{Memory, NotToml, Missing, WrongKind, OutOfRange, TwoNames, UnknownName}
use Rattle.catalogue.specs.declared.fault.KeyField.{KeyField}
use Rattle.catalogue.specs.declared.fault.KeyField.TheVariants.{Itself, Version, SeqPage, RandPage, RowCpu, SortCpu, MergeCpu, HashCpu, GroupCpu, Name, Rows, Pages, MayCluster, Columns, Indexes, Kind as KindKey, Width, Distinct, Low, High, Bounds, Keys, Unique, Clustered}
use Rattle.catalogue.specs.declared.fault.KeyPath.{KeyPath}
use Rattle.catalogue.specs.Paths.{whole_path, rates_path, table_path, column_path, bound_path, index_path, key_column_path}
use Rattle.catalogue.specs.Catalogue.{rate, access_rates, operator_rates, rates_of, default_rates, end_of, not_below, column_names, range_of, rises, next_bound, bounds_in, given_bounds, column_at, next_column, columns_of, key_column, next_key, key_columns_of, flag, clustered, index_keys, shape_of, index_at, index_names, has_clustered, index_count, table_names, next_index, indexes_of, size_of, may_cluster_of, parts_of, table_at, next_table, tables_of, catalogue_of, document, catalogue_in}
use Rattle.adv_base.specs.declared.catalogue.Catalogue.{Catalogue}
use Rattle.adv_base.specs.Readings.{◌>>=◌, or_fault, where_holds}
use Rattle.catalogue.specs.Content.{PlainRates, PlainCatalogue, plain_catalogue}
use Rattle.catalogue.specs.Values.{Rule, natural_within, natural, end_number, text, end_day, end_value, boolean, keys_of, elements, elements_within, column_kind, name, folded, new_name, Gives, read_each}
use Rattle.catalogue.specs.Keys.{number_of, needed, optional, read_if_there, given_or}

-- what was read isn't that there is no document
pub record IsOfKeys {A : Type 0} (read : Result A CatFault) : Type 0 where
  pub never : read ≢ Err NotToml

abbrev failed : {A : Type 0} → CatFault → Result A CatFault
failed e = Err e

fault_is : {A : Type 0} (e f : CatFault) → failed {A = A} e ≡ failed f → e ≡ f
fault_is e f q = cc

abbrev found : {A : Type 0} → A → Result A CatFault
found x = Ok x

ok-keys : {A : Type 0} (x : A) → IsOfKeys (found x)
ok-keys x = record { never = λ q. absurd cc }

err-keys : {A : Type 0} (e : CatFault) → e ≢ NotToml → IsOfKeys (failed {A = A} e)
err-keys e other = record { never = λ q. other (fault_is e NotToml q) }

bind-keys : {A B : Type 0} (r : Result A CatFault) (f : A → Result B CatFault) → IsOfKeys r → ((x : A) → IsOfKeys (f x)) → IsOfKeys (r >>= f)
bind-keys (Ok x) f h k = k x
bind-keys {A} {B} (Err e) f h k = err-keys e (λ q. h.never (ap (λ (d : CatFault). failed {A = A} d) q))

or-keys : {A : Type 0} (e : CatFault) (o : Option A) → e ≢ NotToml → IsOfKeys (or_fault e o)
or-keys e None other = err-keys e other
or-keys e (Some x) other = ok-keys x

where-keys : {A : Type 0} (e : CatFault) (b : Bool) (x : A) → e ≢ NotToml → IsOfKeys (where_holds e b x)
where-keys e true x other = ok-keys x
where-keys e false x other = err-keys e other

if-keys : {A : Type 0} (b : Bool) (x : A) (read : Result A CatFault) → IsOfKeys read → IsOfKeys (if b then found x else read)
if-keys true x read h = ok-keys x
if-keys false x read h = h

missing : (path : KeyPath) → Missing path ≢ NotToml
missing path q = absurd cc

kind : (path : KeyPath) → WrongKind path ≢ NotToml
kind path q = absurd cc

range : (path : KeyPath) → OutOfRange path ≢ NotToml
range path q = absurd cc

twice : (path : KeyPath) → TwoNames path ≢ NotToml
twice path q = absurd cc

unknown : (path : KeyPath) → UnknownName path ≢ NotToml
unknown path q = absurd cc

natural_within-keys : (low high : ℕ) (path : KeyPath) (z : ℤ) → IsOfKeys (natural_within low high path z)
natural_within-keys low high path (pos n) = where-keys (OutOfRange path) _ n (range path)
natural_within-keys low high path (negsuc n) = err-keys (OutOfRange path) (range path)

natural-keys : (low high : ℕ) (path : KeyPath) (d : Data) → IsOfKeys (natural low high path d)
natural-keys low high path d = bind-keys _ _ (or-keys (WrongKind path) (as_integer d) (kind path)) (λ z. natural_within-keys low high path z)

-- a rule that has no such fault
abbrev pub Keeps : {A : Type 0} → Rule A → Type 0
Keeps rule = (path : KeyPath) (d : Data) → IsOfKeys (rule path d)

needed-keys : {A : Type 0} (key : List ℕ) (path : KeyPath) (rule : Rule A) (keys : Members) → Keeps rule → IsOfKeys (needed key path rule keys)
needed-keys key path rule keys h = bind-keys _ _ (or-keys (Missing path) (get_member key keys) (missing path)) (λ d. h path d)

there-keys : {A : Type 0} (path : KeyPath) (rule : Rule A) (o : Option Data) → Keeps rule → IsOfKeys (read_if_there path rule o)
there-keys path rule None h = ok-keys None
there-keys path rule (Some d) h = bind-keys _ _ (h path d) (λ x. ok-keys (Some x))

optional-keys : {A : Type 0} (key : List ℕ) (path : KeyPath) (rule : Rule A) (keys : Members) → Keeps rule → IsOfKeys (optional key path rule keys)
optional-keys key path rule keys h = there-keys path rule (get_member key keys) h

given-keys : {A : Type 0} (otherwise : A) (key : List ℕ) (path : KeyPath) (rule : Rule A) (keys : Members) → Keeps rule → IsOfKeys (given_or otherwise key path rule keys)
given-keys otherwise key path rule keys h = bind-keys _ _ (optional-keys key path rule keys h) (λ x. ok-keys _)

each-keys : {A : Type 0} (next : List A → Data → Result A CatFault) (earlier : List A) (items : Items) → ((front : List A) (d : Data) → IsOfKeys (next front d)) → IsOfKeys (read_each next earlier items)
unfolding read_each
each-keys next earlier no_items h = ok-keys earlier
each-keys next earlier (item d ds) h = bind-keys _ _ (h earlier d) (λ x. each-keys next (earlier ++ x ∷ []) ds h)

end_number-keys : Keeps end_number
end_number-keys path d = bind-keys _ _ (or-keys (WrongKind path) (as_integer d) (kind path)) (λ z. where-keys (OutOfRange path) _ z (range path))

text-keys : Keeps text
text-keys path d = or-keys (WrongKind path) (as_str d) (kind path)

end_day-keys : Keeps end_day
end_day-keys path d = bind-keys _ _ (text-keys path d) (λ w. or-keys (OutOfRange path) _ (range path))

end_value-keys : (kind : Kind) → Keeps (end_value kind)
end_value-keys Int path d = end_number-keys path d
end_value-keys Date path d = end_day-keys path d
end_value-keys Text path d = err-keys (WrongKind path) (kind path)

boolean-keys : Keeps boolean
boolean-keys path d = or-keys (WrongKind path) (as_bool d) (kind path)

keys_of-keys : Keeps keys_of
keys_of-keys path d = or-keys (WrongKind path) (as_table d) (kind path)

elements-keys : Keeps elements
elements-keys path d = or-keys (WrongKind path) (as_array d) (kind path)

elements_within-keys : (low high : ℕ) → Keeps (elements_within low high)
elements_within-keys low high path d = bind-keys _ _ (elements-keys path d) (λ items. where-keys (OutOfRange path) _ items (range path))

column_kind-keys : Keeps column_kind
column_kind-keys path d = bind-keys _ _ (text-keys path d) (λ w. or-keys (OutOfRange path) _ (range path))

name-keys : Keeps name
name-keys path d = bind-keys _ _ (text-keys path d) (λ w. where-keys (OutOfRange path) _ w (range path))

new_name-keys : (earlier : List (List ℕ)) → Keeps (new_name earlier)
new_name-keys earlier path d = bind-keys _ _ (name-keys path d) (λ w. where-keys (TwoNames path) _ w (twice path))

rate-keys : (key : List ℕ) (field : KeyField) (otherwise : ℕ) (keys : Members) → IsOfKeys (rate key field otherwise keys)
rate-keys key field otherwise keys = given-keys otherwise key (rates_path field) (natural 0 MOST_RATE) keys (natural-keys 0 MOST_RATE)

access_rates-keys : (rates : PlainRates) (keys : Members) → IsOfKeys (access_rates rates keys)
unfolding access_rates
access_rates-keys rates keys =
    bind-keys _ _ (rate-keys (codes "seq_page") SeqPage rates.seq_page keys) (λ seq_page.
    bind-keys _ _ (rate-keys (codes "rand_page") RandPage rates.rand_page keys) (λ rand_page.
    bind-keys _ _ (rate-keys (codes "row_cpu") RowCpu rates.row_cpu keys) (λ row_cpu. ok-keys _)))

operator_rates-keys : (rates : PlainRates) (keys : Members) → IsOfKeys (operator_rates rates keys)
unfolding operator_rates
operator_rates-keys rates keys =
    bind-keys _ _ (rate-keys (codes "sort_cpu") SortCpu rates.sort_cpu keys) (λ sort_cpu.
    bind-keys _ _ (rate-keys (codes "merge_cpu") MergeCpu rates.merge_cpu keys) (λ merge_cpu.
    bind-keys _ _ (rate-keys (codes "hash_cpu") HashCpu rates.hash_cpu keys) (λ hash_cpu.
    bind-keys _ _ (rate-keys (codes "group_cpu") GroupCpu rates.group_cpu keys) (λ group_cpu. ok-keys _))))

rates_of-keys : Keeps rates_of
unfolding rates_of
rates_of-keys path d =
    bind-keys _ _ (keys_of-keys path d) (λ keys.
    bind-keys _ _ (access_rates-keys default_rates keys) (λ rates. operator_rates-keys rates keys))

end_of-keys : (kind : Kind) (key : List ℕ) (path : KeyPath) (keys : Members) → IsOfKeys (end_of kind key path keys)
end_of-keys Int key path keys = optional-keys key path (end_value Int) keys (end_value-keys Int)
end_of-keys Date key path keys = optional-keys key path (end_value Date) keys (end_value-keys Date)
end_of-keys Text key path keys = ok-keys None

not_below-keys : (low : Option ℤ) (path : KeyPath) (high : Option ℤ) → IsOfKeys (not_below low path high)
not_below-keys (Some low) path (Some high) = where-keys (OutOfRange path) _ (Some high) (range path)
not_below-keys (Some low) path None = ok-keys None
not_below-keys None path (Some high) = ok-keys (Some high)
not_below-keys None path None = ok-keys None

range_of-keys : (at : KeyField → KeyPath) (kind : Kind) (keys : Members) → IsOfKeys (range_of at kind keys)
unfolding range_of
range_of-keys at kind keys =
    bind-keys _ _ (end_of-keys kind (codes "low") (at Low) keys) (λ low.
    bind-keys _ _ (end_of-keys kind (codes "high") (at High) keys) (λ high.
    bind-keys _ _ (not_below-keys low (at High) high) (λ end. ok-keys _)))

next_bound-keys : (t c : ℕ) (kind : Kind) (earlier : List ℤ) (d : Data) → IsOfKeys (next_bound t c kind earlier d)
next_bound-keys t c kind earlier d =
    let path : KeyPath = bound_path t c (length earlier + 1) in
    bind-keys _ _ (end_value-keys kind path d) (λ z. where-keys (OutOfRange path) (rises earlier z) z (range path))

bounds_in-keys : (t c : ℕ) (kind : Kind) → Keeps (bounds_in t c kind)
bounds_in-keys t c kind path d = bind-keys _ _ (elements_within-keys 2 MOST_BOUNDS path d) (λ items. each-keys (next_bound t c kind) [] items (next_bound-keys t c kind))

given_bounds-keys : (t c : ℕ) (kind : Kind) (keys : Members) → IsOfKeys (given_bounds t c kind keys)
given_bounds-keys t c Int keys = given-keys [] (codes "bounds") (column_path t c Bounds) (bounds_in t c Int) keys (bounds_in-keys t c Int)
given_bounds-keys t c Date keys = given-keys [] (codes "bounds") (column_path t c Bounds) (bounds_in t c Date) keys (bounds_in-keys t c Date)
given_bounds-keys t c Text keys = ok-keys []

column_at-keys : (version t : ℕ) (earlier : List (List ℕ)) (d : Data) → IsOfKeys (column_at version t earlier d)
unfolding column_at
column_at-keys version t earlier d =
    let at : KeyField → KeyPath = column_path t (length earlier + 1) in
    bind-keys _ _ (keys_of-keys (at Itself) d) (λ keys.
    bind-keys _ _ (needed-keys (codes "name") (at Name) (new_name earlier) keys (new_name-keys earlier)) (λ name.
    bind-keys _ _ (needed-keys (codes "kind") (at KindKey) column_kind keys column_kind-keys) (λ kind.
    bind-keys _ _ (needed-keys (codes "width") (at Width) (natural 1 MOST_WIDTH) keys (natural-keys 1 MOST_WIDTH)) (λ width.
    bind-keys _ _ (optional-keys (codes "distinct") (at Distinct) (natural 1 MOST_ROWS) keys (natural-keys 1 MOST_ROWS)) (λ distinct.
    bind-keys _ _ (range_of-keys at kind keys) (λ range.
    bind-keys _ _ (if-keys (nat_lt version 2) [] (given_bounds t (length earlier + 1) kind keys) (given_bounds-keys t (length earlier + 1) kind keys)) (λ bounds. ok-keys _)))))))

columns_of-keys : (version t : ℕ) → Keeps (columns_of version t)
columns_of-keys version t path d =
    bind-keys _ _ (elements_within-keys 1 MOST_COLUMNS path d) (λ items. each-keys (next_column version t) [] items (λ front x. column_at-keys version t (column_names front) x))

key_column-keys : (columns : List (List ℕ)) (earlier : List ℕ) → Keeps (key_column columns earlier)
key_column-keys columns earlier path d =
    bind-keys _ _ (text-keys path d) (λ w.
    bind-keys _ _ (or-keys (UnknownName path) (number_of columns (folded w)) (unknown path)) (λ k.
    where-keys (TwoNames path) (not (list_any (λ y. nat_eq y k) earlier)) k (twice path)))

key_columns_of-keys : (t i : ℕ) (columns : List (List ℕ)) → Keeps (key_columns_of t i columns)
key_columns_of-keys t i columns path d = bind-keys _ _ (elements_within-keys 1 MOST_KEYS path d) (λ items. each-keys (next_key t i columns) [] items (λ front x. key_column-keys columns front (key_column_path t i (length front + 1)) x))

flag-keys : (key : List ℕ) (path : KeyPath) (keys : Members) → IsOfKeys (flag key path keys)
flag-keys key path keys = given-keys false key path boolean keys boolean-keys

clustered-keys : (path : KeyPath) (taken : Bool) (keys : Members) → IsOfKeys (clustered path taken keys)
clustered-keys path taken keys = bind-keys _ _ (flag-keys (codes "clustered") path keys) (λ holds. where-keys (OutOfRange path) (not (holds && taken)) holds (range path))

index_keys-keys : (path : KeyPath) (before : ℕ) (d : Data) → IsOfKeys (index_keys path before d)
index_keys-keys path before d = bind-keys _ _ (keys_of-keys path d) (λ keys. where-keys (OutOfRange path) _ keys (range path))

shape_of-keys : (t i : ℕ) (columns : List (List ℕ)) (taken : Bool) (keys : Members) → IsOfKeys (shape_of t i columns taken keys)
unfolding shape_of
shape_of-keys t i columns taken keys =
    bind-keys _ _ (needed-keys (codes "keys") (index_path t i Keys) (key_columns_of t i columns) keys (key_columns_of-keys t i columns)) (λ key_columns.
    bind-keys _ _ (flag-keys (codes "unique") (index_path t i Unique) keys) (λ unique.
    bind-keys _ _ (clustered-keys (index_path t i Clustered) taken keys) (λ one. ok-keys _)))

index_at-keys : (t : ℕ) (columns : List (List ℕ)) (before : ℕ) (earlier : List (List ℕ)) (taken : Bool) (d : Data) → IsOfKeys (index_at t columns before earlier taken d)
unfolding index_at
index_at-keys t columns before earlier taken d =
    let i : ℕ = length earlier + 1 in
    let at : KeyField → KeyPath = index_path t i in
    bind-keys _ _ (index_keys-keys (at Itself) before d) (λ keys.
    bind-keys _ _ (needed-keys (codes "name") (at Name) (new_name earlier) keys (new_name-keys earlier)) (λ name.
    bind-keys _ _ (shape_of-keys t i columns taken keys) (λ shape. ok-keys _)))

indexes_of-keys : (t : ℕ) (columns : List (List ℕ)) (before : ℕ) → Keeps (indexes_of t columns before)
indexes_of-keys t columns before path d = bind-keys _ _ (elements-keys path d) (λ items. each-keys (next_index t columns before) [] items (λ front x. index_at-keys t columns (before + length front) (index_names front) (has_clustered front) x))

size_of-keys : (t : ℕ) (keys : Members) → IsOfKeys (size_of t keys)
unfolding size_of
size_of-keys t keys =
    bind-keys _ _ (needed-keys (codes "rows") (table_path t Rows) (natural 0 MOST_ROWS) keys (natural-keys 0 MOST_ROWS)) (λ rows.
    bind-keys _ _ (needed-keys (codes "pages") (table_path t Pages) (natural 0 MOST_PAGES) keys (natural-keys 0 MOST_PAGES)) (λ pages. ok-keys _))

may_cluster_of-keys : (version t : ℕ) (keys : Members) → IsOfKeys (may_cluster_of version t keys)
may_cluster_of-keys version t keys =
    if-keys (nat_lt version 2) false (flag (codes "may_cluster") (table_path t MayCluster) keys) (flag-keys (codes "may_cluster") (table_path t MayCluster) keys)

parts_of-keys : (version t before : ℕ) (keys : Members) → IsOfKeys (parts_of version t before keys)
unfolding parts_of
parts_of-keys version t before keys =
    bind-keys _ _ (needed-keys (codes "column") (table_path t Columns) (columns_of version t) keys (columns_of-keys version t)) (λ columns.
    bind-keys _ _ (given-keys [] (codes "index") (table_path t Indexes) (indexes_of t (column_names columns) before) keys (indexes_of-keys t (column_names columns) before)) (λ indexes. ok-keys _))

table_at-keys : (version before : ℕ) (earlier : List (List ℕ)) (d : Data) → IsOfKeys (table_at version before earlier d)
unfolding table_at
table_at-keys version before earlier d =
    let t : ℕ = length earlier + 1 in
    let at : KeyField → KeyPath = table_path t in
    bind-keys _ _ (keys_of-keys (at Itself) d) (λ keys.
    bind-keys _ _ (needed-keys (codes "name") (at Name) (new_name earlier) keys (new_name-keys earlier)) (λ name.
    bind-keys _ _ (size_of-keys t keys) (λ size.
    bind-keys _ _ (may_cluster_of-keys version t keys) (λ may_cluster.
    bind-keys _ _ (parts_of-keys version t before keys) (λ parts. ok-keys _)))))

tables_of-keys : (version : ℕ) → Keeps (tables_of version)
tables_of-keys version path d = bind-keys _ _ (elements_within-keys 0 MOST_TABLES path d) (λ items. each-keys (next_table version) [] items (λ front x. table_at-keys version (index_count front) (table_names front) x))

catalogue_of-keys : (keys : Members) → IsOfKeys (catalogue_of keys)
unfolding catalogue_of
catalogue_of-keys keys =
    bind-keys _ _ (needed-keys (codes "version") (whole_path Version) (natural 1 2) keys (natural-keys 1 2)) (λ version.
    bind-keys _ _ (given-keys default_rates (codes "rates") (rates_path Itself) rates_of keys rates_of-keys) (λ rates.
    bind-keys _ _ (given-keys [] (codes "table") (table_path 0 Itself) (tables_of version) keys (tables_of-keys version)) (λ tables.
    ok-keys {A = PlainCatalogue} (record { rates = rates; tables = tables }))))

no_document : (found : Option Members) → (or_fault NotToml found >>= catalogue_of) ≡ Err NotToml → found ≡ None
no_document None q = refl
no_document (Some keys) q = absurd ((catalogue_of-keys keys).never q)

-- that there is no document is answered where there is none
pub document-none : (bytes : List ℕ) → catalogue_in bytes ≡ Err NotToml → document bytes ≡ None
unfolding catalogue_in
document-none bytes q = no_document (document bytes) q

apart : NotToml ≢ Memory
apart q = absurd cc

pub gives-none : (bytes : List ℕ) (answer : Result Catalogue CatFault) → Gives plain_catalogue answer (catalogue_in bytes) → answer ≡ Err NotToml → document bytes ≡ None
gives-none bytes (Ok x) given q = absurd cc
gives-none bytes (Err e) given q =
    let is : e ≡ NotToml = fault_is {A = Catalogue} e NotToml q in
    document-none bytes (given (λ m. apart (sym is ∙ m)) ∙ ap (λ (d : CatFault). failed {A = PlainCatalogue} d) is)
