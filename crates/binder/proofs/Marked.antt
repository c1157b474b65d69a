-- Columns that are marked, one after the other.
use Rattle.std.proofs.Common.{◌≡◌, ℕ, ◌+◌, ◌<◌, Bool, true, false, cond, eqb, ◌&&◌, ◌||◌, List, [], ◌∷◌, ◌++◌, length, get_or, take, drop, fold, refl, sym, ap, ◌∙◌, arith, add-one, true≢false}
use Rattle.std.specs.List.{list_any}
use Rattle.std.proofs.Math.Seq.{drop-cons}
use Rattle.std.proofs.lemmas.Bool.{eqb-true, and_parts}
use Rattle.std.proofs.lemmas.Bool.Decides.{nat_tests}
use Rattle.std.proofs.lemmas.List.{take_more, map_push}
use Rattle.std.proofs.lemmas.List.Folds.{list_any-append}
use Rattle.adv_base.specs.declared.workload.parts.Item.{Item}
use Rattle.adv_base.specs.declared.workload.parts.Item.TheVariants.{Up, Down, Made}
use Rattle.adv_base.specs.declared.workload.predicate.Pred.{Pred}
use Rattle.adv_base.specs.Items.{is_same_column}
use Rattle.binder.specs.declared.gathered.SlotColumn.{SlotColumn}
use Rattle.binder.specs.Lists.{binds, is_bound, keep, upward}
use Rattle.binder.specs.Marks.{is_marked, Marks, BoundMarks, is_marked_item, KeepsMarks}
use Rattle.binder.specs.Plain.{PlainPred, plain_pred, plain_preds}
use Rattle.binder.specs.Scopes.{is_same, slot_column}

any_push : {X : Type 0} (p : X → Bool) (xs : List X) (x : X) → list_any p (xs ++ x ∷ []) ≡ (list_any p xs || p x)
any_push p xs x = list_any-append p xs (x ∷ []) ∙ ap (λ (t : Bool). list_any p xs || t) (or_end (p x))
  where
    or_end : (t : Bool) → (t || false) ≡ t
    or_end true = refl
    or_end false = refl

moved : (a b : Bool) → ((a || false) || b) ≡ ((a || b) || false)
moved true b = refl
moved false true = refl
moved false false = refl

-- a turn of the loop over predicates
pub Marks-pred : (preds : List Pred) (i : ℕ) (pred : Pred) (old new : List SlotColumn) → i < length preds → pred ≡ get_or preds i pred
    → Marks (plain_preds (take i preds)) [] old → BoundMarks (plain_pred pred) old new → Marks (plain_preds (take (i + 1) preds)) [] new
Marks-pred preds i pred old new lt is so_far more c =
    let front : plain_preds (take (i + 1) preds) ≡ plain_preds (take i preds) ++ plain_pred pred ∷ [] =
    ap plain_preds (take_more preds i pred lt) ∙ map_push plain_pred (take i preds) (get_or preds i pred) ∙ ap (λ (p : Pred). plain_preds (take i preds) ++ plain_pred p ∷ []) (sym is) in
    more c ∙ ap (λ (t : Bool). t || binds c.slot c.column (plain_pred pred)) (so_far c)
    ∙ moved (list_any (binds c.slot c.column) (plain_preds (take i preds))) (binds c.slot c.column (plain_pred pred))
    ∙ ap (λ (t : Bool). t || false) (sym (ap (list_any (binds c.slot c.column)) front ∙ any_push (binds c.slot c.column) (plain_preds (take i preds)) (plain_pred pred)))

or_regroup : (a b d : Bool) → ((a || b) || d) ≡ (a || (b || d))
or_regroup true b d = refl
or_regroup false b d = refl

or_swallowed : (a b d : Bool) → (d ≡ true → (a || b) ≡ true) → ((a || b) || d) ≡ (a || b)
or_swallowed true b d h = refl
or_swallowed false true d h = refl
or_swallowed false false true h = sym (h refl)
or_swallowed false false false h = refl

-- an item is bound or stands among those kept exactly where it is marked
marked_as : (preds : List PlainPred) (kept : List Item) (marked : List SlotColumn) (item : Item) → Marks preds kept marked → is_marked_item marked item ≡ (is_bound preds item || list_any (λ earlier. is_same_column earlier item) kept)
marked_as preds kept marked (Up s c) marks = marks (slot_column s c)
marked_as preds kept marked (Down s c) marks = marks (slot_column s c) ∙ ap (λ (t : Bool). list_any (binds s c) preds || t) (down kept)
  where
    one : (x : Item) → is_same_column x (upward (slot_column s c)) ≡ is_same_column x (Down s c)
    one (Up t d) = refl
    one (Down t d) = refl
    one (Made n) = refl

    down : (xs : List Item) → list_any (λ earlier. is_same_column earlier (upward (slot_column s c))) xs ≡ list_any (λ earlier. is_same_column earlier (Down s c)) xs
    down [] = refl
    down (x ∷ xs) = rw (one x, down xs) refl
marked_as preds kept marked (Made n) marks = sym (none kept)
  where
    one : (x : Item) → is_same_column x (Made n) ≡ false
    one (Up t d) = refl
    one (Down t d) = refl
    one (Made m) = refl

    none : (xs : List Item) → list_any (λ earlier. is_same_column earlier (Made n)) xs ≡ false
    none [] = refl
    none (x ∷ xs) = rw (one x) (none xs)

-- what is kept behind an item, and that the marks stay right
pub Marks-item : (preds : List PlainPred) (item : Item) (kept kept_after : List Item) (marked marked_after : List SlotColumn) → Marks preds kept marked → KeepsMarks item marked kept marked_after kept_after
    → kept_after ≡ keep preds kept item
Marks-item preds item kept kept_after marked marked_after marks step =
    step.items ∙ ap (λ (t : Bool). cond t kept (kept ++ item ∷ [])) (marked_as preds kept marked item marks)

same_column : (s k : ℕ) (c : SlotColumn) → (eqb s c.slot && eqb k c.column) ≡ true → slot_column s k ≡ c
same_column s k c e =
    let parts = and_parts (eqb s c.slot) (eqb k c.column) e in
    let slots = eqb-true s c.slot parts.0 in
    let columns = eqb-true k c.column parts.1 in
    rw (slots, columns) refl

same_marked : (marked : List SlotColumn) (item : Item) (c : SlotColumn) → is_same_column item (upward c) ≡ true → is_marked_item marked item ≡ is_marked marked c
same_marked marked (Up s k) c e = ap (is_marked marked) (same_column s k c e)
same_marked marked (Down s k) c e = ap (is_marked marked) (same_column s k c e)
same_marked marked (Made n) c e = absurd (true≢false (sym e))

pub Marks-kept : (preds : List PlainPred) (item : Item) (kept kept_after : List Item) (marked marked_after : List SlotColumn) → Marks preds kept marked → KeepsMarks item marked kept marked_after kept_after
    → Marks preds kept_after marked_after
Marks-kept preds item kept kept_after marked marked_after marks step c = by (is_marked_item marked item) refl
  where
    by : (t : Bool) → is_marked_item marked item ≡ t → is_marked marked_after c ≡ (list_any (binds c.slot c.column) preds || list_any (λ x. is_same_column x (upward c)) kept_after)
    by true e =
        let stays : kept_after ≡ kept = step.items ∙ ap (λ (t : Bool). cond t kept (kept ++ item ∷ [])) e in
        step.marks c ∙ ap (λ (t : Bool). t || is_same_column item (upward c)) (marks c)
        ∙ or_swallowed (list_any (binds c.slot c.column) preds) (list_any (λ x. is_same_column x (upward c)) kept) (is_same_column item (upward c))
        (λ d. sym (marks c) ∙ sym (same_marked marked item c d) ∙ e)
        ∙ ap (λ (xs : List Item). list_any (binds c.slot c.column) preds || list_any (λ x. is_same_column x (upward c)) xs) (sym stays)
    by false e =
        let more : kept_after ≡ kept ++ item ∷ [] = step.items ∙ ap (λ (t : Bool). cond t kept (kept ++ item ∷ [])) e in
        step.marks c ∙ ap (λ (t : Bool). t || is_same_column item (upward c)) (marks c)
        ∙ or_regroup (list_any (binds c.slot c.column) preds) (list_any (λ x. is_same_column x (upward c)) kept) (is_same_column item (upward c))
        ∙ ap (λ (t : Bool). list_any (binds c.slot c.column) preds || t) (sym (any_push (λ x. is_same_column x (upward c)) kept item))
        ∙ ap (λ (xs : List Item). list_any (binds c.slot c.column) preds || list_any (λ x. is_same_column x (upward c)) xs) (sym more)

-- a turn of the loop over items
pub kept-turn : (preds : List PlainPred) (items : List Item) (i : ℕ) (d : Item) (kept kept_after total : List Item) (marked marked_after : List SlotColumn) → i < length items
    → Marks preds kept marked → KeepsMarks (get_or items i d) marked kept marked_after kept_after → fold (keep preds) kept (drop i items) ≡ total → fold (keep preds) kept_after (drop (i + 1) items) ≡ total
kept-turn preds items i d kept kept_after total marked marked_after lt marks step so_far =
    let item = get_or items i d in
    let next : fold (keep preds) kept (drop i items) ≡ fold (keep preds) (keep preds kept item) (drop (i + 1) items) = rw (drop-cons items i d) (rw add-one refl) in
    ap (λ (xs : List Item). fold (keep preds) xs (drop (i + 1) items)) (Marks-item preds item kept kept_after marked marked_after marks step) ∙ sym next ∙ so_far

eqb_sym : (a b : ℕ) → eqb a b ≡ eqb b a
eqb_sym a b = grind (arith, nat_tests)

-- a set of columns, by the equality that its keys have
module _ (eq : SlotColumn → SlotColumn → Bool) (same : (x y : SlotColumn) → eq x y ≡ (eqb x.slot y.slot && eqb x.column y.column)) where
  turned : (c d : SlotColumn) → eq c d ≡ is_same c d
  turned c d = same c d ∙ rw (eqb_sym c.slot d.slot, eqb_sym c.column d.column) refl

  pub marked-by : (keys : List SlotColumn) (c : SlotColumn) → list_any (eq c) keys ≡ is_marked keys c
  marked-by [] c = refl
  marked-by (d ∷ ds) c = ap (λ (t : Bool). t || list_any (eq c) ds) (turned c d) ∙ ap (λ (t : Bool). is_same c d || t) (marked-by ds c)

  swallowed : (a d : Bool) → (d ≡ true → a ≡ true) → a ≡ (a || d)
  swallowed true d h = refl
  swallowed false true h = h refl
  swallowed false false h = refl

  pub marked-after : (keys after : List SlotColumn) (c : SlotColumn) → after ≡ cond (list_any (eq c) keys) keys (keys ++ c ∷ []) → (q : SlotColumn) → is_marked after q ≡ (is_marked keys q || is_same q c)
  marked-after keys after c put q = by (list_any (eq c) keys) refl
    where
      by : (t : Bool) → list_any (eq c) keys ≡ t → is_marked after q ≡ (is_marked keys q || is_same q c)
      by true e =
          ap (λ (ks : List SlotColumn). is_marked ks q) (put ∙ ap (λ (t : Bool). cond t keys (keys ++ c ∷ [])) e)
          ∙ swallowed (is_marked keys q) (is_same q c) (λ d. ap (is_marked keys) (sym (same_column c.slot c.column q d)) ∙ sym (marked-by keys c) ∙ e)
      by false e = ap (λ (ks : List SlotColumn). is_marked ks q) (put ∙ ap (λ (t : Bool). cond t keys (keys ++ c ∷ [])) e) ∙ any_push (is_same q) keys c
