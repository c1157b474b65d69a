-- Laws of the definitions, for callers: each part is from 1 to 10^9, each number of rows from 1 to 10^12.
use Rattle.std.proofs.Common.{ℕ, zero, suc, ◌*◌, ◌≤◌, List, [], ◌∷◌, length, map, refl, arith, min, max}
use Rattle.std.specs.Prelude.{Bool, true, false, fold, if◌then◌else◌, ◌-◌, Option, Some, None, ℤ}
use Rattle.std.specs.Option.{option_map_or}
use Rattle.std.proofs.Math.Nat.{mul-le-mul}
use Rattle.adv_base.specs.declared.catalogue.Catalogue.{Catalogue}
use Rattle.adv_base.specs.declared.catalogue.column.Column.{Column}
use Rattle.adv_base.specs.declared.catalogue.table.Table.{Table}
use Rattle.adv_base.specs.declared.workload.block.Block.{Block}
use Rattle.adv_base.specs.declared.workload.parts.Edge.{Edge}
use Rattle.adv_base.specs.declared.workload.predicate.Pred.{Pred}
use Rattle.adv_base.specs.declared.workload.predicate.Test.{Test}
use Rattle.adv_base.specs.declared.workload.predicate.Test.TheVariants.{Equal, NotEqual, Below, Above, Between, OneOf, Like, IsNull, NotNull, Same}
use Rattle.adv_base.specs.declared.workload.predicate.Value.{Value}
use Rattle.adv_base.specs.declared.workload.predicate.Value.TheVariants.{Number, Plain}
use Rattle.adv_base.specs.declared.limits.TheConstants.{MOST_ROWS, WHOLE}
use Rattle.adv_base.specs.Limits.Tests.{TestLimits}
use Rattle.adv_base.specs.Lookups.{slot_table, slot_distinct, table_distinct}
use Rattle.adv_base.specs.Parts.{equal_part, tied_part, range_part, shared_part, above_part, below_part, between_part, test_part, column_test_part, table_pred_part, pred_part, edge_part}
use Rattle.adv_base.specs.Rows.{AreRows, table_rows, slot_preds, filtered_rows, edges_back, rows_below, set_rows}
use Rattle.adv_base.specs.Sets.{has_slot}
use Rattle.adv_base.specs.Sums.{clamped_part, times_part, capped}
use Rattle.adv_base.specs.Shares.{share}
use Rattle.adv_base.proofs.ShareLaws.{share-most}
use Rattle.adv_base.proofs.SumLemmas.{times_part-bounds}

-- a selectivity: a part of 10^9, at least 1
pub record IsPart (part : ℕ) : Type 0 where
  pub least : 1 ≤ part
  pub most : part ≤ WHOLE

pub clamped_part-bounds : (n d : ℕ) → IsPart (clamped_part n d)
unfolding clamped_part
clamped_part-bounds n d = record { least = omega arith; most = omega arith }

pub equal_part-bounds : (distinct : Option ℕ) → IsPart (equal_part distinct)
equal_part-bounds (Some d) = clamped_part-bounds WHOLE d
equal_part-bounds None = record { least = omega arith; most = omega arith }

pub tied_part-bounds : (left right : Option ℕ) → IsPart (tied_part left right)
tied_part-bounds (Some l) (Some r) = equal_part-bounds (Some (max l r))
tied_part-bounds (Some l) None = equal_part-bounds (Some l)
tied_part-bounds None (Some r) = equal_part-bounds (Some r)
tied_part-bounds None None = equal_part-bounds None

known-bounds : (b : Bool) (n d unknown : ℕ) → IsPart unknown → IsPart (if b then clamped_part n d else unknown)
known-bounds true n d unknown is = clamped_part-bounds n d
known-bounds false n d unknown is = is

pub range_part-bounds : (low high : Option ℤ) (share : ℤ → ℤ → ℕ) (unknown : ℕ) → IsPart unknown → IsPart (range_part low high share unknown)
range_part-bounds (Some l) (Some h) share unknown is = known-bounds _ _ _ unknown is
range_part-bounds (Some l) None share unknown is = is
range_part-bounds None (Some h) share unknown is = is
range_part-bounds None None share unknown is = is

a_third : IsPart 333333334
a_third = record { least = omega arith; most = omega arith }

a_quarter : IsPart 250000000
a_quarter = record { least = omega arith; most = omega arith }

either-bounds : (b : Bool) (shared ranged : ℕ) → shared ≤ WHOLE → IsPart ranged → IsPart (if b then ranged else max 1 shared)
either-bounds true shared ranged most is = is
either-bounds false shared ranged most is = record { least = omega arith; most = omega arith }

shared_part-bounds : (bounds : List ℤ) (shared ranged : ℕ) → shared ≤ WHOLE → IsPart ranged → IsPart (shared_part bounds shared ranged)
shared_part-bounds bounds shared ranged most is = either-bounds _ shared ranged most is

above_part-bounds : (column : Column) (v : Value) → IsPart (above_part column v)
above_part-bounds column (Number v) =
    shared_part-bounds column.bounds (WHOLE - share column.bounds v) _ (omega arith) (range_part-bounds column.low column.high _ _ a_third)
above_part-bounds column Plain = a_third

below_part-bounds : (column : Column) (v : Value) → IsPart (below_part column v)
below_part-bounds column (Number v) =
    shared_part-bounds column.bounds (share column.bounds v) _ (share-most column.bounds v) (range_part-bounds column.low column.high _ _ a_third)
below_part-bounds column Plain = a_third

between_part-bounds : (column : Column) (v w : Value) → IsPart (between_part column v w)
between_part-bounds column (Number v) (Number w) =
    let most : share column.bounds w ≤ WHOLE = share-most column.bounds w in
    shared_part-bounds column.bounds (share column.bounds w - share column.bounds v) _ (omega arith) (range_part-bounds column.low column.high _ _ a_quarter)
between_part-bounds column (Number v) Plain = a_quarter
between_part-bounds column Plain (Number w) = a_quarter
between_part-bounds column Plain Plain = a_quarter

one_of-bounds : (items part : ℕ) → 1 ≤ items → IsPart part → IsPart (min 500000000 (items * part))
one_of-bounds items part some is = let least : 1 * 1 ≤ items * part = mul-le-mul some is.least in record { least = omega arith; most = omega arith }

test_part-bounds : (table : Table) (column : Column) (test : Test) → TestLimits test → IsPart (test_part table column test)
test_part-bounds table column Equal limits = equal_part-bounds column.distinct
test_part-bounds table column NotEqual limits = record { least = omega arith; most = let equal : IsPart (equal_part column.distinct) = equal_part-bounds column.distinct in omega arith }
test_part-bounds table column (Below v) limits = below_part-bounds column v
test_part-bounds table column (Above v) limits = above_part-bounds column v
test_part-bounds table column (Between v w) limits = between_part-bounds column v w
test_part-bounds table column (OneOf items) limits = one_of-bounds items _ (limits.items items refl) (equal_part-bounds column.distinct)
test_part-bounds table column Like limits = record { least = omega arith; most = omega arith }
test_part-bounds table column IsNull limits = record { least = omega arith; most = omega arith }
test_part-bounds table column NotNull limits = record { least = omega arith; most = omega arith }
test_part-bounds table column (Same other) limits = tied_part-bounds column.distinct (table_distinct table other)

column_test_part-bounds : (table : Table) (column : Option Column) (test : Test) → TestLimits test → IsPart (column_test_part table column test)
column_test_part-bounds table (Some column) test limits = test_part-bounds table column test limits
column_test_part-bounds table None test limits = record { least = omega arith; most = omega arith }

table_pred_part-bounds : (table : Option Table) (pred : Pred) → IsPart (table_pred_part table pred)
table_pred_part-bounds (Some table) pred = column_test_part-bounds table _ pred.test pred.limits
table_pred_part-bounds None pred = record { least = omega arith; most = omega arith }

-- the part of a predicate
pub pred_part-bounds : (cat : Catalogue) (block : Block) (pred : Pred) → IsPart (pred_part cat block pred)
unfolding pred_part
pred_part-bounds cat block pred = table_pred_part-bounds (slot_table cat block pred.slot) pred

-- the part of a join edge
pub edge_part-bounds : (cat : Catalogue) (block : Block) (edge : Edge) → IsPart (edge_part cat block edge)
unfolding edge_part
edge_part-bounds cat block edge = tied_part-bounds (slot_distinct cat block edge.left edge.left_column) (slot_distinct cat block edge.right edge.right_column)

-- what a number of at least 1 is taken through stays between 1 and that number
pub record IsWithin (n start : ℕ) : Type 0 where
  pub least : 1 ≤ n
  pub most : n ≤ start

pub through-bounds : {A : Type 0} (part : A → ℕ) → ((x : A) → IsPart (part x)) → (start : ℕ) → 1 ≤ start → (xs : List A) → IsWithin (fold times_part start (map part xs)) start
through-bounds part is start some [] = record { least = some; most = omega arith }
through-bounds part is start some (x ∷ xs) =
    let p : IsPart (part x) = is x in
    let one : (1 ≤ times_part start (part x)) × (times_part start (part x) ≤ start) = times_part-bounds start (part x) some p.least p.most in
    let rest : IsWithin (fold times_part (times_part start (part x)) (map part xs)) (times_part start (part x)) = through-bounds part is (times_part start (part x)) one.0 xs in
    record { least = rest.least; most = omega arith }

table_rows-bounds : (table : Option Table) → AreRows (option_map_or table_rows table 1)
table_rows-bounds (Some table) = record { least = omega arith; most = let most : table.rows ≤ MOST_ROWS = table.limits.rows_most in omega arith }
table_rows-bounds None = record { least = omega arith; most = omega arith }

-- the filtered rows of a slot
pub filtered_rows-bounds : (cat : Catalogue) (block : Block) (s : ℕ) → AreRows (filtered_rows cat block s)
unfolding filtered_rows
filtered_rows-bounds cat block s =
    let start : AreRows (option_map_or table_rows (slot_table cat block s) 1) = table_rows-bounds (slot_table cat block s) in
    let within : IsWithin (fold times_part (option_map_or table_rows (slot_table cat block s) 1) (map (pred_part cat block) (slot_preds block s))) (option_map_or table_rows (slot_table cat block s) 1) =
    through-bounds (pred_part cat block) (pred_part-bounds cat block) (option_map_or table_rows (slot_table cat block s) 1) start.least (slot_preds block s) in
    record { least = within.least; most = omega (arith, start.most, within.most) }

capped-bounds : (m n : ℕ) → 1 ≤ m → 1 ≤ n → AreRows (capped (m * n))
capped-bounds m n m_some n_some = let least : 1 * 1 ≤ m * n = mul-le-mul m_some n_some in record { least = omega arith; most = omega arith }

one_more-bounds : (cat : Catalogue) (block : Block) (set s rows : ℕ) → AreRows rows → (b : Bool) →
    AreRows (if b then fold times_part (capped (rows * filtered_rows cat block s)) (map (edge_part cat block) (edges_back block set s)) else rows)
one_more-bounds cat block set s rows are true =
    let own : AreRows (filtered_rows cat block s) = filtered_rows-bounds cat block s in
    let start : AreRows (capped (rows * filtered_rows cat block s)) = capped-bounds rows (filtered_rows cat block s) are.least own.least in
    let within : IsWithin (fold times_part (capped (rows * filtered_rows cat block s)) (map (edge_part cat block) (edges_back block set s))) (capped (rows * filtered_rows cat block s)) =
    through-bounds (edge_part cat block) (edge_part-bounds cat block) (capped (rows * filtered_rows cat block s)) start.least (edges_back block set s) in
    record { least = within.least; most = omega (arith, start.most, within.most) }
one_more-bounds cat block set s rows are false = are

rows_below-bounds : (cat : Catalogue) (block : Block) (set s : ℕ) → AreRows (rows_below cat block set s)
unfolding rows_below
rows_below-bounds cat block set zero = record { least = omega arith; most = omega arith }
rows_below-bounds cat block set (suc s) = one_more-bounds cat block set s (rows_below cat block set s) (rows_below-bounds cat block set s) (has_slot set s)

-- the rows of the join of a set of slots
pub set_rows-bounds : (cat : Catalogue) (block : Block) (set : ℕ) → AreRows (set_rows cat block set)
unfolding set_rows
set_rows-bounds cat block set = rows_below-bounds cat block set (length block.slots)
