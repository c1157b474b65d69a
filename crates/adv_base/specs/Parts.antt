-- Selectivities, as parts of 10^9: a table of factors in the manner of System R's, with this project's numbers.
use Rattle.std.specs.Prelude.{ℕ, ◌*◌, ◌-◌, ◌==◌, min, max, nat_lt, if◌then◌else◌, ℤ, List, length, Option, Some, None, slice_get}
use Rattle.std.specs.Int.{int_min, int_max}
use Rattle.adv_base.specs.declared.catalogue.Catalogue.{Catalogue}
use Rattle.adv_base.specs.declared.catalogue.column.Column.{Column}
use Rattle.adv_base.specs.declared.catalogue.table.Table.{Table}
use Rattle.adv_base.specs.declared.workload.block.Block.{Block}
use Rattle.adv_base.specs.declared.workload.parts.Edge.{Edge}
use Rattle.adv_base.specs.declared.workload.predicate.Pred.{Pred}
use Rattle.adv_base.specs.declared.workload.predicate.Test.{Test}
use Rattle.adv_base.specs.declared.workload.predicate.Test.TheVariants.{Equal, NotEqual, Below, Above, Between, OneOf, Like, IsNull, NotNull, Same}
use Rattle.adv_base.specs.declared.workload.predicate.Value.{Value}
use Rattle.adv_base.specs.declared.workload.predicate.Value.TheVariants.{Number, Plain}
use Rattle.adv_base.specs.declared.limits.TheConstants.{WHOLE}
use Rattle.adv_base.specs.Sums.{clamped_part, height}
use Rattle.adv_base.specs.Shares.{share}
use Rattle.adv_base.specs.Lookups.{table_distinct, slot_distinct, slot_table}

-- `c = value`: one of the distinct values, or a tenth where their number is unknown
abbrev pub equal_part : Option ℕ → ℕ
equal_part (Some distinct) = clamped_part WHOLE distinct
equal_part None = 100000000

-- `c1 = c2`: by the greater number of distinct values that is known
abbrev pub tied_part : Option ℕ → Option ℕ → ℕ
tied_part (Some left) (Some right) = equal_part (Some (max left right))
tied_part left None = equal_part left
tied_part None right = equal_part right

-- the share of a range that a length is, where both ends are given and the low one is below the high one
abbrev pub range_part : Option ℤ → Option ℤ → (ℤ → ℤ → ℕ) → ℕ → ℕ
range_part (Some low) (Some high) share unknown =
    if nat_lt 0 (height high low) then clamped_part (WHOLE * share low high) (height high low) else unknown
range_part low high share unknown = unknown

-- by the shares of a histogram, at least 1; by the range where there is none
abbrev pub shared_part : List ℤ → ℕ → ℕ → ℕ
shared_part bounds shared ranged = if length bounds == 0 then ranged else max 1 shared

-- `c > v`, `c >= v`: the share of the rows above v, or of the range; a third where neither is known
abbrev pub above_part : Column → Value → ℕ
above_part column (Number v) = shared_part column.bounds (WHOLE - share column.bounds v)
    (range_part column.low column.high (λ low high. height high v) 333333334)
above_part column Plain = 333333334

-- `c < v`, `c <= v`: the share of the rows below v, or of the range; a third where neither is known
abbrev pub below_part : Column → Value → ℕ
below_part column (Number v) = shared_part column.bounds (share column.bounds v)
    (range_part column.low column.high (λ low high. height v low) 333333334)
below_part column Plain = 333333334

-- `c BETWEEN v AND w`: the share of the rows from v to w, or of the range; a quarter where neither is known
abbrev pub between_part : Column → Value → Value → ℕ
between_part column (Number v) (Number w) = shared_part column.bounds (share column.bounds w - share column.bounds v)
    (range_part column.low column.high (λ low high. height (int_min w high) (int_max v low)) 250000000)
between_part column v w = 250000000

-- each kind of test, on a column of a table
abbrev pub test_part : Table → Column → Test → ℕ
test_part table column Equal = equal_part column.distinct
test_part table column NotEqual = max 1 (WHOLE - equal_part column.distinct)
test_part table column (Below v) = below_part column v
test_part table column (Above v) = above_part column v
test_part table column (Between v w) = between_part column v w
-- repeated items count
test_part table column (OneOf items) = min 500000000 (items * equal_part column.distinct)
test_part table column Like = 100000000
test_part table column IsNull = 100000000
test_part table column NotNull = WHOLE
test_part table column (Same other) = tied_part column.distinct (table_distinct table other)

abbrev pub column_test_part : Table → Option Column → Test → ℕ
column_test_part table (Some column) test = test_part table column test
column_test_part table None test = WHOLE

abbrev pub table_pred_part : Option Table → Pred → ℕ
table_pred_part (Some table) pred = column_test_part table (slice_get table.columns pred.column) pred.test
table_pred_part None pred = WHOLE

-- the part of a predicate of the block; one that names no column keeps all rows
unfoldable pub pred_part : Catalogue → Block → Pred → ℕ
pred_part cat block pred = table_pred_part (slot_table cat block pred.slot) pred

-- the part of a join edge of the block
unfoldable pub edge_part : Catalogue → Block → Edge → ℕ
edge_part cat block edge =
    tied_part (slot_distinct cat block edge.left edge.left_column) (slot_distinct cat block edge.right edge.right_column)
