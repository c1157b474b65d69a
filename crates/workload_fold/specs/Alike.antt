-- Statements that are alike: they differ in nothing that an advisor prices. Selectivities enter as parts, so literals may
-- differ where they are estimated the same.
use Rattle.std.specs.Prelude.{ℕ, ◌+◌, ◌==◌, nat_eq, Bool, true, false, ◌&&◌, List, Option, Some, None}
use Rattle.std.specs.Bool.{beq}
use Rattle.std.specs.Cmp.Lexicographic.{pointwise}
use Rattle.adv_base.specs.declared.catalogue.Catalogue.{Catalogue}
use Rattle.adv_base.specs.declared.workload.Work.{Work}
use Rattle.adv_base.specs.declared.workload.Work.TheVariants.{Select, Update, Delete, Insert}
use Rattle.adv_base.specs.declared.workload.block.Block.{Block}
use Rattle.adv_base.specs.declared.workload.parts.Edge.{Edge}
use Rattle.adv_base.specs.declared.workload.parts.Item.{Item}
use Rattle.adv_base.specs.declared.workload.parts.Slot.{Slot}
use Rattle.adv_base.specs.declared.workload.predicate.Pred.{Pred}
use Rattle.adv_base.specs.declared.workload.predicate.Test.{Test}
use Rattle.adv_base.specs.declared.workload.predicate.Test.TheVariants.{Equal, NotEqual, Below, Above, Between, OneOf, Like, IsNull, NotNull, Same}
use Rattle.adv_base.specs.Items.{is_same_item}
use Rattle.adv_base.specs.Parts.{pred_part}

-- slots of one table, with the same needed columns; the names by which they go are free
abbrev pub alike_slots : Slot → Slot → Bool
alike_slots x y = x.table == y.table && pointwise nat_eq x.needed y.needed

-- the same columns of the same slots, side by side
abbrev pub alike_edges : Edge → Edge → Bool
alike_edges x y = (x.left == y.left && x.left_column == y.left_column) && (x.right == y.right && x.right_column == y.right_column)

-- a number for each kind of test; an equality of two columns has one for each second column
abbrev pub test_number : Test → ℕ
test_number Equal = 0
test_number NotEqual = 1
test_number (Below v) = 2
test_number (Above v) = 3
test_number (Between v w) = 4
test_number (OneOf n) = 5
test_number Like = 6
test_number IsNull = 7
test_number NotNull = 8
test_number (Same c) = 9 + c

-- tests of one kind on the same column, with the same second column if they have one, which keep equal parts of the rows
abbrev pub alike_preds : Catalogue → Block → Block → Pred → Pred → Bool
alike_preds cat a b p q =
    ((p.slot == q.slot) && (p.column == q.column)) && ((test_number p.test == test_number q.test) && pred_part cat a p == pred_part cat b q)

-- the same list to group by, or none
abbrev pub alike_groups : Option (List Item) → Option (List Item) → Bool
alike_groups None None = true
alike_groups (Some x) (Some y) = pointwise is_same_item x y
alike_groups x y = false

-- blocks that agree in all but the names of their slots and the literals of their predicates; the order of slots,
-- predicates and edges counts
unfoldable pub alike_blocks : Catalogue → Block → Block → Bool
alike_blocks cat a b =
    pointwise alike_slots a.slots b.slots
    && (pointwise (alike_preds cat a b) a.preds b.preds
    && (pointwise alike_edges a.edges b.edges
    && (alike_groups a.group b.group && (pointwise is_same_item a.order b.order && beq a.may_cover b.may_cover))))

-- statements of one kind with such blocks; two UPDATEs set the same columns, two INSERTs add as many rows to one table
abbrev pub is_alike : Catalogue → Work → Work → Bool
is_alike cat (Select a) (Select b) = alike_blocks cat a b
is_alike cat (Update a set) (Update b other) = alike_blocks cat a b && pointwise nat_eq set other
is_alike cat (Delete a) (Delete b) = alike_blocks cat a b
is_alike cat (Insert t rows) (Insert u more) = t == u && rows == more
is_alike cat p q = false
