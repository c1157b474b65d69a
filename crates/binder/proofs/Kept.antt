-- Lists without bound and repeated columns.
use Rattle.std.proofs.Common.{◌≡◌, ℕ, zero, suc, ◌<◌, Bool, true, false, cond, ◌&&◌, ◌||◌, List, [], ◌∷◌, ◌++◌, length, get_or, map, fold, Option, Some, None, refl, sym, ap, subst, ◌∙◌, arith}
use Rattle.std.specs.Prelude.{All}
use Rattle.std.specs.List.{list_any, list_all, filter_map}
use Rattle.std.proofs.lemmas.List.Elements.{All-nil, All-push, All-cons, All-head, All-tail, All-map}
use Rattle.std.proofs.lemmas.List.Quantifiers.{all_pairs_push}
use Rattle.adv_base.specs.declared.workload.parts.Item.{Item}
use Rattle.adv_base.specs.declared.workload.parts.Item.TheVariants.{Up, Down, Made}
use Rattle.adv_base.specs.declared.workload.predicate.Pred.{Pred}
use Rattle.adv_base.specs.Items.{is_same_column, is_upward, is_within_slots, AreApart}
use Rattle.adv_base.specs.Predicates.{is_bound as binds_column, is_bound_item}
use Rattle.adv_base.specs.Limits.Blocks.{AreFree, ListLimits, GroupLimits}
use Rattle.std.proofs.lemmas.Bool.{or_parts}
use Rattle.std.proofs.lemmas.Bool.Decides.{nat_tests}
use Rattle.binder.specs.declared.gathered.SlotColumn.{SlotColumn}
use Rattle.binder.specs.declared.gathered.BoundItem.{BoundItem}
use Rattle.binder.specs.declared.gathered.BoundItem.TheVariants as bound
use Rattle.binder.specs.Items.{item_column, is_plain, item_mentions}
use Rattle.binder.specs.Lists.{binds, is_bound, keep, kept_items, upward, kept_columns, group_list, order_list}
use Rattle.binder.specs.Plain.{PlainPred, plain_pred, plain_preds}
use Rattle.binder.specs.Scopes.{Names, slot_column}
use Rattle.binder.proofs.Within.{IsColumn}

module _ (preds : List PlainPred) where
  keep-All : (P : Item → Type 0) (kept : List Item) (item : Item) → All P kept → (is_bound preds item ≡ false → P item) → All P (keep preds kept item)
  keep-All P kept item so_far new = by (is_bound preds item || list_any (λ earlier. is_same_column earlier item) kept) refl
    where
      by : (t : Bool) → (is_bound preds item || list_any (λ earlier. is_same_column earlier item) kept) ≡ t → All P (cond t kept (kept ++ item ∷ []))
      by true e = so_far
      by false e = All-push P kept item so_far (new (or_parts (is_bound preds item) (list_any (λ earlier. is_same_column earlier item) kept) e).0)

  -- what holds of all items holds of those that are kept
  kept-All : (P : Item → Type 0) (items kept : List Item) → All P items → All P kept → All P (fold (keep preds) kept items)
  kept-All P [] kept all so_far = so_far
  kept-All P (x ∷ xs) kept all so_far = kept-All P xs (keep preds kept x) (All-tail P x xs all) (keep-All P kept x so_far (λ _. All-head P x xs all))

  -- no item that is kept is bound
  kept-free : (items kept : List Item) → All (λ item. is_bound preds item ≡ false) kept → All (λ item. is_bound preds item ≡ false) (fold (keep preds) kept items)
  kept-free [] kept so_far = so_far
  kept-free (x ∷ xs) kept so_far = kept-free xs (keep preds kept x) (keep-All (λ item. is_bound preds item ≡ false) kept x so_far (λ free. free))

  none_same : (xs : List Item) (item : Item) → list_any (λ earlier. is_same_column earlier item) xs ≡ false → (k : ℕ) (d : Item) → k < length xs → is_same_column (get_or xs k d) item ≡ false
  none_same [] item none k d lt = absurd (omega arith)
  none_same (x ∷ xs) item none zero d lt = (or_parts (is_same_column x item) (list_any (λ earlier. is_same_column earlier item) xs) none).0
  none_same (x ∷ xs) item none (suc k) d lt = none_same xs item (or_parts (is_same_column x item) (list_any (λ earlier. is_same_column earlier item) xs) none).1 k d (omega arith)

  keep-apart : (kept : List Item) (item : Item) → AreApart kept → AreApart (keep preds kept item)
  keep-apart kept item so_far = by (is_bound preds item || list_any (λ earlier. is_same_column earlier item) kept) refl
    where
      by : (t : Bool) → (is_bound preds item || list_any (λ earlier. is_same_column earlier item) kept) ≡ t → AreApart (cond t kept (kept ++ item ∷ []))
      by true e = so_far
      by false e = all_pairs_push (λ x y. is_same_column x y ≡ false) kept item so_far
          (none_same kept item (or_parts (is_bound preds item) (list_any (λ earlier. is_same_column earlier item) kept) e).1)

  kept-apart : (items kept : List Item) → AreApart kept → AreApart (fold (keep preds) kept items)
  kept-apart [] kept so_far = so_far
  kept-apart (x ∷ xs) kept so_far = kept-apart xs (keep preds kept x) (keep-apart kept x so_far)

-- the predicates as they are declared bind the same columns
any_binds : (s c : ℕ) (preds : List Pred) → list_any (binds s c) (map plain_pred preds) ≡ binds_column preds s c
any_binds s c [] = refl
any_binds s c (p ∷ ps) = ap (λ (t : Bool). binds s c (plain_pred p) || t) (any_binds s c ps)

same_bound : (preds : List Pred) (item : Item) → is_bound (plain_preds preds) item ≡ is_bound_item preds item
same_bound preds (Up s c) = any_binds s c preds
same_bound preds (Down s c) = any_binds s c preds
same_bound preds (Made n) = refl

pub kept_items-free : (preds : List Pred) (items : List Item) → AreFree preds (kept_items (plain_preds preds) items)
kept_items-free preds items = λ k d lt. sym (same_bound preds (get_or (kept_items (plain_preds preds) items) k d)) ∙ kept-free (plain_preds preds) items [] (All-nil (λ item. is_bound (plain_preds preds) item ≡ false)) k d lt

-- an item whose column is one of the sources'
abbrev pub IsItem : Names → Item → Type 0
IsItem names (Up s c) = IsColumn names (slot_column s c)
IsItem names (Down s c) = IsColumn names (slot_column s c)
IsItem names (Made n) = Unit {0}

is_within : (names : Names) (item : Item) → IsItem names item → is_within_slots (length names.sources) item ≡ true
is_within names (Up s c) is = let lt = is.slot in grind (arith, nat_tests)
is_within names (Down s c) is = let lt = is.slot in grind (arith, nat_tests)
is_within names (Made n) is = refl

pub kept_items-limits : (names : Names) (preds : List PlainPred) (items : List Item) → All (IsItem names) items → ListLimits (length names.sources) (kept_items preds items)
kept_items-limits names preds items are = record {
  within = λ k d lt. is_within names (get_or (kept_items preds items) k d) (kept-All preds (IsItem names) items [] are (All-nil (IsItem names)) k d lt);
  apart = kept-apart preds items [] (λ i j d lt le. absurd (omega arith));
}

pub kept_items-are : (names : Names) (preds : List PlainPred) (items : List Item) → All (IsItem names) items → All (IsItem names) (kept_items preds items)
kept_items-are names preds items are = kept-All preds (IsItem names) items [] are (All-nil (IsItem names))

columns_are : (names : Names) (columns : List SlotColumn) → All (IsColumn names) columns → All (IsItem names) (map upward columns)
columns_are names columns are = All-map (IsItem names) upward columns are

pub kept_columns-limits : (names : Names) (preds : List PlainPred) (columns : List SlotColumn) → All (IsColumn names) columns → GroupLimits (length names.sources) (kept_columns preds columns)
kept_columns-limits names preds columns are = record {
  list = kept_items-limits names preds (map upward columns) (columns_are names columns are);
  upward = kept-All preds (λ item. is_upward item ≡ true) (map upward columns) [] (All-map (λ item. is_upward item ≡ true) upward columns (λ k d lt. refl)) (All-nil (λ item. is_upward item ≡ true));
}

pub kept_columns-are : (names : Names) (preds : List PlainPred) (columns : List SlotColumn) → All (IsColumn names) columns → All (IsItem names) (kept_columns preds columns)
kept_columns-are names preds columns are = kept_items-are names preds (map upward columns) (columns_are names columns are)

-- an item of a select list mentions columns of the sources
abbrev pub IsBound : Names → BoundItem → Type 0
IsBound names item = All (IsColumn names) (item_mentions item)

pub item_column-is : (names : Names) (item : BoundItem) → IsBound names item → (c : SlotColumn) → item_column item ≡ Some c → IsColumn names c
item_column-is names bound.Star is c e = absurd cc
item_column-is names (bound.SlotStar s) is c e = absurd cc
item_column-is names (bound.Made [] true aggregate) is c e = absurd cc
item_column-is names (bound.Made (x ∷ xs) true aggregate) is c e = let same : x ≡ c = cc in subst (IsColumn names) same (All-head (IsColumn names) x xs is)
item_column-is names (bound.Made columns false aggregate) is c e = absurd cc

filter_map-All : {A B : Type 0} (f : A → Option B) (P : A → Type 0) (Q : B → Type 0) → ((x : A) → P x → (y : B) → f x ≡ Some y → Q y) → (xs : List A) → All P xs → All Q (filter_map f xs)
filter_map-All f P Q has [] all = All-nil Q
filter_map-All {A} {B} f P Q has (x ∷ xs) all = by (filter_map-All f P Q has xs (All-tail P x xs all)) (f x) refl
  where
    by : All Q (filter_map f xs) → (o : Option B) → f x ≡ o → All Q (filter_map f (x ∷ xs))
    by rest None e = rw e rest
    by rest (Some y) e = rw e (All-cons Q y (filter_map f xs) (has x (All-head P x xs all) y e) rest)

-- what a SELECT groups by comes from columns of the sources
pub group_list-from : (names : Names) (distinct aggregate : Bool) (preds : List PlainPred) (group : List SlotColumn) (items : List BoundItem) → All (IsColumn names) group → All (IsBound names) items
    → (list : List Item) → group_list distinct aggregate preds group items ≡ Some list → (columns : List SlotColumn) × All (IsColumn names) columns × (kept_columns preds columns ≡ list)
group_list-from names distinct true preds [] items are bound list e = absurd cc
group_list-from names distinct false preds [] items are bound list e = by (distinct && list_all is_plain items) e
  where
    by : (t : Bool) → cond t (Some (kept_columns preds (filter_map item_column items))) None ≡ Some list → (columns : List SlotColumn) × All (IsColumn names) columns × (kept_columns preds columns ≡ list)
    by true f = (filter_map item_column items, filter_map-All item_column (IsBound names) (IsColumn names) (item_column-is names) items bound, cc)
    by false f = absurd cc
group_list-from names distinct aggregate preds (c ∷ cs) items are bound list e = (c ∷ cs, are, cc)

pub order_list-limits : (names : Names) (aggregate : Bool) (preds : List PlainPred) (group : List SlotColumn) (items : List Item) → All (IsItem names) items → ListLimits (length names.sources) (order_list aggregate preds group items)
order_list-limits names true preds [] items are = record { within = λ k d lt. absurd (omega arith); apart = λ i j d lt le. absurd (omega arith) }
order_list-limits names false preds [] items are = kept_items-limits names preds items are
order_list-limits names aggregate preds (c ∷ cs) items are = kept_items-limits names preds items are

pub order_list-free : (aggregate : Bool) (preds : List Pred) (group : List SlotColumn) (items : List Item) → AreFree preds (order_list aggregate (plain_preds preds) group items)
order_list-free true preds [] items = λ k d lt. absurd (omega arith)
order_list-free false preds [] items = kept_items-free preds items
order_list-free aggregate preds (c ∷ cs) items = kept_items-free preds items

pub order_list-are : (names : Names) (aggregate : Bool) (preds : List PlainPred) (group : List SlotColumn) (items : List Item) → All (IsItem names) items → All (IsItem names) (order_list aggregate preds group items)
order_list-are names true preds [] items are = All-nil (IsItem names)
order_list-are names false preds [] items are = kept_items-are names preds items are
order_list-are names aggregate preds (c ∷ cs) items are = kept_items-are names preds items are
