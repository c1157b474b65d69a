-- Statements that do the same are alike.
use Rattle.std.proofs.Common.{◌≡◌, ℕ, ◌==◌, Bool, true, false, List, [], ◌∷◌, Option, Some, None, refl, sym, ap, ◌∙◌, arith}
use Rattle.std.specs.Prelude.{nat_eq, slice_get, option_and_then}
use Rattle.std.specs.Bool.{beq}
use Rattle.std.specs.Cmp.Lexicographic.{pointwise}
use Rattle.std.proofs.lemmas.Bool.Decides.{nat_tests}
use Rattle.std.proofs.lemmas.Cmp.{nat_list_eq_equiv}
use Rattle.adv_base.specs.declared.catalogue.Catalogue.{Catalogue}
use Rattle.adv_base.specs.declared.catalogue.table.Table.{Table}
use Rattle.adv_base.specs.declared.limits.TheConstants.{WHOLE}
use Rattle.adv_base.specs.declared.workload.Work.{Work}
use Rattle.adv_base.specs.declared.workload.Work.TheVariants as works
use Rattle.adv_base.specs.declared.workload.block.Block.{Block}
use Rattle.adv_base.specs.declared.workload.parts.Edge.{Edge}
use Rattle.adv_base.specs.declared.workload.parts.Item.{Item}
use Rattle.adv_base.specs.declared.workload.parts.Slot.{Slot}
use Rattle.adv_base.specs.declared.workload.predicate.Pred.{Pred}
use Rattle.adv_base.specs.Items.{is_same_item}
use Rattle.adv_base.specs.Lookups.{table_at, slot_table}
use Rattle.adv_base.specs.Parts.{pred_part, table_pred_part, column_test_part}
use Rattle.adv_base.proofs.ItemLaws.{item_same}
use Rattle.binder.specs.Plain.{PlainPred, PlainEdge, PlainBlock, Select, Update, Delete, Insert, plain_pred, plain_edge, plain_preds, plain_edges, plain_block, plain_work}
use Rattle.workload_fold.specs.Alike.{test_number, alike_slots, alike_edges, alike_preds, alike_groups, alike_blocks, is_alike}

pub same_head : {X : Type 0} (x y : X) (xs ys : List X) → x ∷ xs ≡ y ∷ ys → x ≡ y
same_head x y xs ys e = cc

pub same_tail : {X : Type 0} (x y : X) (xs ys : List X) → x ∷ xs ≡ y ∷ ys → xs ≡ ys
same_tail x y xs ys e = cc

number_same : (m n : ℕ) → m ≡ n → (m == n) ≡ true
number_same m n e = grind (arith, nat_tests)

slots_same : (xs : List Slot) → pointwise alike_slots xs xs ≡ true
slots_same [] = refl
slots_same (x ∷ xs) =
    let table = number_same x.table x.table refl in
    let needed = nat_list_eq_equiv.refl x.needed in
    let later = slots_same xs in
    rw (table, needed, later) refl

items_same : (xs : List Item) → pointwise is_same_item xs xs ≡ true
items_same [] = refl
items_same (x ∷ xs) =
    let own = item_same x in
    let later = items_same xs in
    rw (own, later) refl

groups_same : (g : Option (List Item)) → alike_groups g g ≡ true
groups_same None = refl
groups_same (Some xs) = items_same xs

edges_same : (xs ys : List Edge) → plain_edges xs ≡ plain_edges ys → pointwise alike_edges xs ys ≡ true
edges_same [] [] e = refl
edges_same [] (y ∷ ys) e = absurd cc
edges_same (x ∷ xs) [] e = absurd cc
edges_same (x ∷ xs) (y ∷ ys) e =
    let own : plain_edge x ≡ plain_edge y = same_head (plain_edge x) (plain_edge y) (plain_edges xs) (plain_edges ys) e in
    let a = number_same x.left y.left (ap (λ (z : PlainEdge). z.left) own) in
    let b = number_same x.left_column y.left_column (ap (λ (z : PlainEdge). z.left_column) own) in
    let c = number_same x.right y.right (ap (λ (z : PlainEdge). z.right) own) in
    let d = number_same x.right_column y.right_column (ap (λ (z : PlainEdge). z.right_column) own) in
    let later = edges_same xs ys (same_tail (plain_edge x) (plain_edge y) (plain_edges xs) (plain_edges ys) e) in
    rw (a, b, c, d, later) refl

plain_part : Option Table → PlainPred → ℕ
plain_part None x = WHOLE
plain_part (Some table) x = column_test_part table (slice_get table.columns x.column) x.test

part_is : (t : Option Table) (p : Pred) → table_pred_part t p ≡ plain_part t (plain_pred p)
unfolding plain_part
part_is None p = refl
part_is (Some table) p = refl

same_part : (cat : Catalogue) (a b : Block) (p q : Pred) → a.slots ≡ b.slots → plain_pred p ≡ plain_pred q → pred_part cat a p ≡ pred_part cat b q
unfolding pred_part
same_part cat a b p q slots own =
    part_is (slot_table cat a p.slot) p
    ∙ (λ i. plain_part (option_and_then (λ (slot : Slot). table_at cat slot.table) (slice_get (slots i) (own i).slot)) (own i))
    ∙ sym (part_is (slot_table cat b q.slot) q)

preds_same : (cat : Catalogue) (a b : Block) → a.slots ≡ b.slots → (ps qs : List Pred) → plain_preds ps ≡ plain_preds qs → pointwise (alike_preds cat a b) ps qs ≡ true
preds_same cat a b slots [] [] e = refl
preds_same cat a b slots [] (q ∷ qs) e = absurd cc
preds_same cat a b slots (p ∷ ps) [] e = absurd cc
preds_same cat a b slots (p ∷ ps) (q ∷ qs) e =
    let own : plain_pred p ≡ plain_pred q = same_head (plain_pred p) (plain_pred q) (plain_preds ps) (plain_preds qs) e in
    let slot = number_same p.slot q.slot (ap (λ (z : PlainPred). z.slot) own) in
    let column = number_same p.column q.column (ap (λ (z : PlainPred). z.column) own) in
    let test = number_same (test_number p.test) (test_number q.test) (ap (λ (z : PlainPred). test_number z.test) own) in
    let part = number_same (pred_part cat a p) (pred_part cat b q) (same_part cat a b p q slots own) in
    let later = preds_same cat a b slots ps qs (same_tail (plain_pred p) (plain_pred q) (plain_preds ps) (plain_preds qs) e) in
    rw (slot, column, test, part, later) refl

cover_same : (x : Bool) → beq x x ≡ true
cover_same true = refl
cover_same false = refl

blocks_same : (cat : Catalogue) (a b : Block) → plain_block a ≡ plain_block b → alike_blocks cat a b ≡ true
unfolding alike_blocks
blocks_same cat a b e =
    let slots : a.slots ≡ b.slots = ap (λ (z : PlainBlock). z.slots) e in
    let one : pointwise alike_slots a.slots b.slots ≡ true = ap (pointwise alike_slots a.slots) (sym slots) ∙ slots_same a.slots in
    let two = preds_same cat a b slots a.preds b.preds (ap (λ (z : PlainBlock). z.preds) e) in
    let three = edges_same a.edges b.edges (ap (λ (z : PlainBlock). z.edges) e) in
    let four : alike_groups a.group b.group ≡ true = ap (alike_groups a.group) (sym (ap (λ (z : PlainBlock). z.group) e)) ∙ groups_same a.group in
    let five : pointwise is_same_item a.order b.order ≡ true = ap (pointwise is_same_item a.order) (sym (ap (λ (z : PlainBlock). z.order) e)) ∙ items_same a.order in
    let six : beq a.may_cover b.may_cover ≡ true = ap (beq a.may_cover) (sym (ap (λ (z : PlainBlock). z.may_cover) e)) ∙ cover_same a.may_cover in
    rw (one, two, three, four, five, six) refl

numbers_same : (xs ys : List ℕ) → xs ≡ ys → pointwise nat_eq xs ys ≡ true
numbers_same xs ys e = ap (pointwise nat_eq xs) (sym e) ∙ nat_list_eq_equiv.refl xs

select_of : (x y : PlainBlock) → Select x ≡ Select y → x ≡ y
select_of x y e = cc

update_block : (x y : PlainBlock) (m n : List ℕ) → Update x m ≡ Update y n → x ≡ y
update_block x y m n e = cc

update_columns : (x y : PlainBlock) (m n : List ℕ) → Update x m ≡ Update y n → m ≡ n
update_columns x y m n e = cc

delete_of : (x y : PlainBlock) → Delete x ≡ Delete y → x ≡ y
delete_of x y e = cc

insert_table : (t u m n : ℕ) → Insert t m ≡ Insert u n → t ≡ u
insert_table t u m n e = cc

insert_rows : (t u m n : ℕ) → Insert t m ≡ Insert u n → m ≡ n
insert_rows t u m n e = cc

pub alike_plain : (cat : Catalogue) (p q : Work) → plain_work p ≡ plain_work q → is_alike cat p q ≡ true
alike_plain cat (works.Select a) (works.Select b) e = blocks_same cat a b (select_of (plain_block a) (plain_block b) e)
alike_plain cat (works.Update a set) (works.Update b other) e =
    let block = blocks_same cat a b (update_block (plain_block a) (plain_block b) set other e) in
    let columns = numbers_same set other (update_columns (plain_block a) (plain_block b) set other e) in
    rw (block, columns) refl
alike_plain cat (works.Delete a) (works.Delete b) e = blocks_same cat a b (delete_of (plain_block a) (plain_block b) e)
alike_plain cat (works.Insert t rows) (works.Insert u more) e =
    let table = number_same t u (insert_table t u rows more e) in
    let count = number_same rows more (insert_rows t u rows more e) in
    rw (table, count) refl
alike_plain cat (works.Select a) (works.Update b other) e = absurd cc
alike_plain cat (works.Select a) (works.Delete b) e = absurd cc
alike_plain cat (works.Select a) (works.Insert u more) e = absurd cc
alike_plain cat (works.Update a set) (works.Select b) e = absurd cc
alike_plain cat (works.Update a set) (works.Delete b) e = absurd cc
alike_plain cat (works.Update a set) (works.Insert u more) e = absurd cc
alike_plain cat (works.Delete a) (works.Select b) e = absurd cc
alike_plain cat (works.Delete a) (works.Update b other) e = absurd cc
alike_plain cat (works.Delete a) (works.Insert u more) e = absurd cc
alike_plain cat (works.Insert t rows) (works.Select b) e = absurd cc
alike_plain cat (works.Insert t rows) (works.Update b other) e = absurd cc
alike_plain cat (works.Insert t rows) (works.Delete b) e = absurd cc
