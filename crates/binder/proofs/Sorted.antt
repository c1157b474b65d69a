-- What ORDER BY stands for are columns of the sources.
use Rattle.std.proofs.Common.{◌≡◌, ℕ, zero, suc, ◌+◌, Bool, true, false, List, [], ◌∷◌, ◌++◌, length, Option, Some, None, Ok, refl, ap, subst}
use Rattle.std.specs.Prelude.{All, slice_get}
use Rattle.std.proofs.lemmas.List.Elements.{All-nil, All-push, All-get_or}
use Rattle.std.proofs.lemmas.Option.{option_and_then_some, slice_get_within, get_or_from_slice_get}
use Rattle.sql_reader.specs.declared.parsed.NameUse.{NameUse}
use Rattle.sql_reader.specs.declared.parsed.ParsedItem.{ParsedItem}
use Rattle.sql_reader.specs.declared.parsed.ParsedOrder.{ParsedOrder}
use Rattle.binder.specs.declared.gathered.SlotColumn.{SlotColumn}
use Rattle.binder.specs.declared.gathered.BoundItem.{BoundItem}
use Rattle.binder.specs.declared.gathered.BoundItem.TheVariants as bound
use Rattle.binder.specs.declared.gathered.SortKey.{SortKey}
use Rattle.binder.specs.declared.gathered.SortKeys.{SortKeys}
use Rattle.binder.specs.declared.gathered.Term.{Term}
use Rattle.binder.specs.declared.gathered.Term.TheVariants as terms
use Rattle.sql_reader.specs.declared.parsed.ParsedItem.TheVariants as parsed
use Rattle.binder.specs.Items.{column_at, item_column, item_of, items_of, columns_of}
use Rattle.binder.specs.Orders.{SelectList, alias_meant, alias_or_column, term_of, with_mention, mentions_from, term_column, ordinal_column, sorted_by_name, sorted_as, sorted_by, order_item, with_order, orders_from}
use Rattle.binder.specs.Scopes.{Names, source_meant, meaning}
use Rattle.binder.proofs.Readings.{bind_ok, ok_is, in_turn-keeps, each-All}
use Rattle.binder.proofs.Within.{IsColumn, IsColumn-meaning}
use Rattle.binder.proofs.Kept.{IsItem, IsBound, item_column-is}

-- the columns that names mean are columns of the sources
pub columns-are : (names : Names) (uses : List NameUse) (columns : List SlotColumn) → columns_of names uses ≡ Ok columns → All (IsColumn names) columns
columns-are names uses columns e = each-All (meaning names) (IsColumn names) (λ name_use c found. IsColumn-meaning names name_use c found) uses columns e

item-is : (names : Names) (item : ParsedItem) (b : BoundItem) → item_of names item ≡ Ok b → IsBound names b
unfolding item_of
item-is names parsed.Star b e = subst (IsBound names) (ok_is bound.Star b e) (All-nil (IsColumn names))
item-is names (parsed.SlotStar source) b e =
    let first = bind_ok (source_meant names source) (λ s. Ok (bound.SlotStar s)) b e in
    subst (IsBound names) (ok_is (bound.SlotStar first.0) b first.2) (All-nil (IsColumn names))
item-is names (parsed.Made expr alias) b e =
    let first = bind_ok (columns_of names expr.uses) (λ columns. Ok (bound.Made columns expr.plain expr.aggregate)) b e in
    subst (IsBound names) (ok_is (bound.Made first.0 expr.plain expr.aggregate) b first.2) (columns-are names expr.uses first.0 first.1)

pub items-are : (names : Names) (items : List ParsedItem) (bs : List BoundItem) → items_of names items ≡ Ok bs → All (IsBound names) bs
items-are names items bs e = each-All (item_of names) (IsBound names) (λ item b found. item-is names item b found) items bs e

-- an optional column is one of the sources'
abbrev AreColumn : Names → Option SlotColumn → Type 0
AreColumn names o = (c : SlotColumn) → o ≡ Some c → IsColumn names c

column_at-is : (names : Names) (items : List BoundItem) (n : ℕ) → All (IsBound names) items → AreColumn names (column_at items n)
column_at-is names items n are c e =
    option_and_then_some item_column (slice_get items n) c e
    (λ item at found. item_column-is names item (subst (IsBound names) (get_or_from_slice_get items n item item at) (All-get_or (IsBound names) items n item (slice_get_within items n item at) are)) c found)

term-is : (names : Names) (list : SelectList) (name_use : NameUse) (term : Term) → All (IsBound names) list.bound → term_of names list name_use ≡ Ok term → AreColumn names (term_column list term)
unfolding term_of
term-is names list name_use term are e = by (alias_meant names.text list name_use.qualifier name_use.name) e
  where
    by : (o : Option ℕ) → alias_or_column names name_use o ≡ Ok term → AreColumn names (term_column list term)
    by None f =
        let first = bind_ok (meaning names name_use) (λ c. Ok (terms.Column c)) term f in
        subst (λ (t : Term). AreColumn names (term_column list t)) (ok_is (terms.Column first.0) term first.2)
        (λ c g. let same : first.0 ≡ c = cc in subst (IsColumn names) same (IsColumn-meaning names name_use first.0 first.1))
    by (Some n) f = subst (λ (t : Term). AreColumn names (term_column list t)) (ok_is (terms.Alias n) term f) (column_at-is names list.bound n are)

ordinal-is : (names : Names) (list : SelectList) (n : ℕ) → All (IsBound names) list.bound → AreColumn names (ordinal_column list n)
ordinal-is names list zero are c e = absurd cc
ordinal-is names list (suc n) are c e = column_at-is names list.bound n are c e

by_name-is : (names : Names) (list : SelectList) (mentions : List SlotColumn) (name_use : Option NameUse) (key : SortKey) → All (IsBound names) list.bound → sorted_by_name names list mentions name_use ≡ Ok key → AreColumn names key.column
by_name-is names list mentions None key are e = λ c f. let same = ap (λ (k : SortKey). k.column) (ok_is (record { column = None; mentions = mentions }) key e) in absurd cc
by_name-is names list mentions (Some name_use) key are e =
    let first = bind_ok (term_of names list name_use) (λ term. Ok (record { column = term_column list term; mentions = with_mention mentions term })) key e in
    subst (λ (k : SortKey). AreColumn names k.column) (ok_is (record { column = term_column list first.0; mentions = with_mention mentions first.0 }) key first.2) (term-is names list name_use first.0 are first.1)

sorted-is : (names : Names) (list : SelectList) (mentions : List SlotColumn) (ordinal : Option ℕ) (plain : Bool) (uses : List NameUse) (key : SortKey) → All (IsBound names) list.bound
    → sorted_as names list mentions ordinal plain uses ≡ Ok key → AreColumn names key.column
sorted-is names list mentions (Some n) plain uses key are e =
    subst (λ (k : SortKey). AreColumn names k.column) (ok_is (record { column = ordinal_column list n; mentions = mentions }) key e) (ordinal-is names list n are)
sorted-is names list mentions None true uses key are e = by_name-is names list mentions (slice_get uses 0) key are e
sorted-is names list mentions None false uses key are e = λ c f.
    let first = bind_ok (mentions_from names list mentions uses) (λ more. Ok (record { column = None; mentions = more })) key e in
    let same = ap (λ (k : SortKey). k.column) (ok_is (record { column = None; mentions = first.0 }) key first.2) in
    absurd cc

order_item-is : (names : Names) (n : ℕ) (down : Bool) (o : Option SlotColumn) → AreColumn names o → IsItem names (order_item n down o)
order_item-is names n down None are = tt
order_item-is names n true (Some c) are = are c refl
order_item-is names n false (Some c) are = are c refl

order-is : (names : Names) (list : SelectList) (so_far : SortKeys) (order : ParsedOrder) (after : SortKeys) → All (IsBound names) list.bound → All (IsItem names) so_far.items
    → with_order names list so_far order ≡ Ok after → All (IsItem names) after.items
unfolding with_order sorted_by
order-is names list so_far order after are so e =
    let first = bind_ok (sorted_by names list so_far.mentions order.expr)
    (λ sorted. Ok (record { items = so_far.items ++ order_item (length so_far.items + 1) order.down sorted.column ∷ []; mentions = sorted.mentions })) after e in
    let item = order_item (length so_far.items + 1) order.down first.0.column in
    subst (λ (k : SortKeys). All (IsItem names) k.items) (ok_is (record { items = so_far.items ++ item ∷ []; mentions = first.0.mentions }) after first.2)
    (All-push (IsItem names) so_far.items item so
    (order_item-is names (length so_far.items + 1) order.down first.0.column (sorted-is names list so_far.mentions order.expr.ordinal order.expr.plain order.expr.uses first.0 are first.1)))

-- the items of ORDER BY are columns of the sources, or made
pub orders-are : (names : Names) (list : SelectList) (mentions : List SlotColumn) (orders : List ParsedOrder) (keys : SortKeys) → All (IsBound names) list.bound
    → orders_from names list mentions orders ≡ Ok keys → All (IsItem names) keys.items
orders-are names list mentions orders keys are e =
    in_turn-keeps (with_order names list) (λ (k : SortKeys). All (IsItem names) k.items) (λ so_far order after so step. order-is names list so_far order after are so step)
    orders (record { items = []; mentions = mentions }) keys (All-nil (IsItem names)) e
