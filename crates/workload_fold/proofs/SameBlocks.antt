-- What alike blocks have in common.
use Rattle.std.proofs.Common.{◌≡◌, ℕ, ◌==◌, Bool, true, false, ◌&&◌, ◌||◌, List, [], ◌∷◌, Option, Some, None, refl, sym, ap, ◌∙◌, arith}
use Rattle.std.specs.Prelude.{nat_eq}
use Rattle.std.specs.Bool.{beq}
use Rattle.std.specs.Cmp.Lexicographic.{pointwise, same_text}
use Rattle.std.proofs.lemmas.Bool.{and_parts, false≢true}
use Rattle.std.proofs.lemmas.Bool.Decides.{Decides-eqb, nat_tests}
use Rattle.adv_base.specs.declared.catalogue.Catalogue.{Catalogue}
use Rattle.adv_base.specs.declared.workload.block.Block.{Block}
use Rattle.adv_base.specs.declared.workload.parts.Edge.{Edge}
use Rattle.adv_base.specs.declared.workload.parts.Item.{Item}
use Rattle.adv_base.specs.declared.workload.parts.Slot.{Slot}
use Rattle.adv_base.specs.declared.workload.predicate.Pred.{Pred}
use Rattle.adv_base.specs.declared.workload.predicate.Test.{Test}
use Rattle.adv_base.specs.declared.workload.predicate.Test.TheVariants.{Equal, NotEqual, Below, Above, Between, OneOf, Like, IsNull, NotNull, Same}
use Rattle.adv_base.specs.Items.{is_same_item}
use Rattle.adv_base.specs.Parts.{pred_part}
use Rattle.adv_base.specs.Predicates.{is_point, is_range, is_equality}
use Rattle.adv_base.proofs.ItemLaws.{same_item}
use Rattle.workload_fold.specs.Alike.{alike_slots, alike_edges, alike_preds, alike_groups, alike_blocks, test_number}
use Rattle.workload_fold.proofs.Pairs.{Pairs, pairs_from, pairs_turned}

pub record SameSlot (x y : Slot) : Type 0 where
  pub table : x.table ≡ y.table
  pub needed : x.needed ≡ y.needed

pub record SameEdge (x y : Edge) : Type 0 where
  pub left : x.left ≡ y.left
  pub left_column : x.left_column ≡ y.left_column
  pub right : x.right ≡ y.right
  pub right_column : x.right_column ≡ y.right_column

pub record SamePred (cat : Catalogue) (a b : Block) (p q : Pred) : Type 0 where
  pub slot : p.slot ≡ q.slot
  pub column : p.column ≡ q.column
  pub number : test_number p.test ≡ test_number q.test
  pub part : pred_part cat a p ≡ pred_part cat b q

pub record SameBlocks (cat : Catalogue) (a b : Block) : Type 0 where
  pub slots : Pairs SameSlot a.slots b.slots
  pub preds : Pairs (SamePred cat a b) a.preds b.preds
  pub edges : Pairs SameEdge a.edges b.edges
  pub group : a.group ≡ b.group
  pub order : a.order ≡ b.order
  pub cover : a.may_cover ≡ b.may_cover

-- ## What the tests tell

same_number : (m n : ℕ) → (m == n) ≡ true → m ≡ n
same_number m n h = (Decides-eqb m n).0 h

slots_told : (x y : Slot) → alike_slots x y ≡ true → SameSlot x y
slots_told x y h =
    let p = and_parts (x.table == y.table) (pointwise nat_eq x.needed y.needed) h in
    record { table = same_number x.table y.table p.0; needed = same_text x.needed y.needed (sym p.1) }

edges_told : (x y : Edge) → alike_edges x y ≡ true → SameEdge x y
edges_told x y h =
    let p = and_parts ((x.left == y.left) && (x.left_column == y.left_column)) ((x.right == y.right) && (x.right_column == y.right_column)) h in
    let l = and_parts (x.left == y.left) (x.left_column == y.left_column) p.0 in
    let r = and_parts (x.right == y.right) (x.right_column == y.right_column) p.1 in
    record {
      left = same_number x.left y.left l.0;
      left_column = same_number x.left_column y.left_column l.1;
      right = same_number x.right y.right r.0;
      right_column = same_number x.right_column y.right_column r.1;
    }

preds_told : (cat : Catalogue) (a b : Block) (p q : Pred) → alike_preds cat a b p q ≡ true → SamePred cat a b p q
preds_told cat a b p q h =
    let both = and_parts ((p.slot == q.slot) && (p.column == q.column)) ((test_number p.test == test_number q.test) && (pred_part cat a p == pred_part cat b q)) h in
    let place = and_parts (p.slot == q.slot) (p.column == q.column) both.0 in
    let test = and_parts (test_number p.test == test_number q.test) (pred_part cat a p == pred_part cat b q) both.1 in
    record {
      slot = same_number p.slot q.slot place.0;
      column = same_number p.column q.column place.1;
      number = same_number (test_number p.test) (test_number q.test) test.0;
      part = same_number (pred_part cat a p) (pred_part cat b q) test.1;
    }

items_told : (xs ys : List Item) → pointwise is_same_item xs ys ≡ true → xs ≡ ys
items_told [] [] h = refl
items_told [] (y ∷ ys) h = absurd (false≢true h)
items_told (x ∷ xs) [] h = absurd (false≢true h)
items_told (x ∷ xs) (y ∷ ys) h =
    let both = and_parts (is_same_item x y) (pointwise is_same_item xs ys) h in
    let first = same_item x y both.0 in
    let rest = items_told xs ys both.1 in
    λ i. first i ∷ rest i

groups_told : (x y : Option (List Item)) → alike_groups x y ≡ true → x ≡ y
groups_told None None h = refl
groups_told None (Some y) h = absurd (false≢true h)
groups_told (Some x) None h = absurd (false≢true h)
groups_told (Some x) (Some y) h = ap Some (items_told x y h)

same_bool : (x y : Bool) → beq x y ≡ true → x ≡ y
same_bool true true h = refl
same_bool true false h = absurd (false≢true h)
same_bool false true h = absurd (false≢true h)
same_bool false false h = refl

pub blocks_told : (cat : Catalogue) (a b : Block) → alike_blocks cat a b ≡ true → SameBlocks cat a b
unfolding alike_blocks
blocks_told cat a b h =
    let cover = beq a.may_cover b.may_cover in
    let order = pointwise is_same_item a.order b.order in
    let group = alike_groups a.group b.group in
    let edges = pointwise alike_edges a.edges b.edges in
    let preds = pointwise (alike_preds cat a b) a.preds b.preds in
    let one = and_parts (pointwise alike_slots a.slots b.slots) (preds && (edges && (group && (order && cover)))) h in
    let two = and_parts preds (edges && (group && (order && cover))) one.1 in
    let three = and_parts edges (group && (order && cover)) two.1 in
    let four = and_parts group (order && cover) three.1 in
    let five = and_parts order cover four.1 in
    record {
      slots = pairs_from SameSlot alike_slots slots_told a.slots b.slots one.0;
      preds = pairs_from (SamePred cat a b) (alike_preds cat a b) (preds_told cat a b) a.preds b.preds two.0;
      edges = pairs_from SameEdge alike_edges edges_told a.edges b.edges three.0;
      group = groups_told a.group b.group four.0;
      order = items_told a.order b.order five.0;
      cover = same_bool a.may_cover b.may_cover five.1;
    }

-- ## Turned round

slot_turned : (x y : Slot) → SameSlot x y → SameSlot y x
slot_turned x y h = record { table = sym h.table; needed = sym h.needed }

edge_turned : (x y : Edge) → SameEdge x y → SameEdge y x
edge_turned x y h = record { left = sym h.left; left_column = sym h.left_column; right = sym h.right; right_column = sym h.right_column }

pred_turned : (cat : Catalogue) (a b : Block) (p q : Pred) → SamePred cat a b p q → SamePred cat b a q p
pred_turned cat a b p q h = record { slot = sym h.slot; column = sym h.column; number = sym h.number; part = sym h.part }

pub blocks_turned : (cat : Catalogue) (a b : Block) → SameBlocks cat a b → SameBlocks cat b a
blocks_turned cat a b h =
    record {
      slots = pairs_turned SameSlot SameSlot slot_turned a.slots b.slots h.slots;
      preds = pairs_turned (SamePred cat a b) (SamePred cat b a) (pred_turned cat a b) a.preds b.preds h.preds;
      edges = pairs_turned SameEdge SameEdge edge_turned a.edges b.edges h.edges;
      group = sym h.group;
      order = sym h.order;
      cover = sym h.cover;
    }

-- ## Kinds of tests, by their numbers

equality_by : (t : Test) → is_equality t ≡ (test_number t == 0)
equality_by Equal = refl
equality_by NotEqual = refl
equality_by (Below v) = refl
equality_by (Above v) = refl
equality_by (Between v w) = refl
equality_by (OneOf n) = refl
equality_by Like = refl
equality_by IsNull = refl
equality_by NotNull = refl
equality_by (Same c) = grind (arith, nat_tests)

point_by : (t : Test) → is_point t ≡ ((test_number t == 0) || (test_number t == 5))
point_by Equal = refl
point_by NotEqual = refl
point_by (Below v) = refl
point_by (Above v) = refl
point_by (Between v w) = refl
point_by (OneOf n) = refl
point_by Like = refl
point_by IsNull = refl
point_by NotNull = refl
point_by (Same c) = grind (arith, nat_tests)

range_by : (t : Test) → is_range t ≡ ((test_number t == 2) || ((test_number t == 3) || (test_number t == 4)))
range_by Equal = refl
range_by NotEqual = refl
range_by (Below v) = refl
range_by (Above v) = refl
range_by (Between v w) = refl
range_by (OneOf n) = refl
range_by Like = refl
range_by IsNull = refl
range_by NotNull = refl
range_by (Same c) = grind (arith, nat_tests)

-- a kind of tests that agrees at alike predicates
abbrev pub Agrees : Catalogue → Block → Block → (Test → Bool) → Type 0
Agrees cat a b kind = (p q : Pred) → SamePred cat a b p q → kind p.test ≡ kind q.test

pub equality_agrees : (cat : Catalogue) (a b : Block) → (p q : Pred) → SamePred cat a b p q → is_equality p.test ≡ is_equality q.test
equality_agrees cat a b p q h = equality_by p.test ∙ ap (λ (n : ℕ). n == 0) h.number ∙ sym (equality_by q.test)

pub point_agrees : (cat : Catalogue) (a b : Block) → (p q : Pred) → SamePred cat a b p q → is_point p.test ≡ is_point q.test
point_agrees cat a b p q h = point_by p.test ∙ ap (λ (n : ℕ). (n == 0) || (n == 5)) h.number ∙ sym (point_by q.test)

pub range_agrees : (cat : Catalogue) (a b : Block) → (p q : Pred) → SamePred cat a b p q → is_range p.test ≡ is_range q.test
range_agrees cat a b p q h = range_by p.test ∙ ap (λ (n : ℕ). (n == 2) || ((n == 3) || (n == 4))) h.number ∙ sym (range_by q.test)
