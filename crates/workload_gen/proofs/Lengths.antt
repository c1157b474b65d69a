-- The made texts are short.
use Rattle.std.proofs.Common.{ℕ, zero, suc, ◌+◌, ◌*◌, ◌/◌, ◌<◌, ◌≤◌, ◌^◌, Bool, true, false, if◌then◌else◌, List, length, arith, length-append}
use Rattle.std.specs.Prelude.{codes, decimal, ◌==◌}
use Rattle.std.proofs.lemmas.Fmt.{length-decimal-le_wide}
use Rattle.std.proofs.lemmas.Nat.{mod_below}
use Rattle.workload_gen.specs.declared.statements.Choice.{Choice}
use Rattle.workload_gen.specs.declared.tables.Sizes.{Sizes}
use Rattle.workload_gen.specs.Draws.{after, draw, next_state}
use Rattle.workload_gen.specs.Statements.{drawn_choice, sorted_text, range_text, join_text, group_text, update_text, next_table, query_text, statement_text, statements_text}
use Rattle.workload_gen.specs.Tables.{drawn_sizes, head_text, column_text, number_column_text, columns_text, index_text, table_text, tables_text}
use Rattle.workload_gen.specs.Texts.{catalogue_text, workload_text}

two_digits : (n : ℕ) → n ≤ 20 → length (decimal n) ≤ 2
two_digits n h = length-decimal-le_wide 2 n (omega arith) (omega arith) (omega arith)

four_digits : (n : ℕ) → n ≤ 1050 → length (decimal n) ≤ 4
four_digits n h = length-decimal-le_wide 4 n (omega arith) (omega arith) (omega arith)

seven_digits : (n : ℕ) → n ≤ 1000000 → length (decimal n) ≤ 7
seven_digits n h = length-decimal-le_wide 7 n (omega arith) (omega arith) (omega arith)

-- what is drawn lies below the number
draw_below : (k x : ℕ) → 0 < k → draw k x < k
unfolding draw
draw_below k x some = mod_below (next_state x / 2 ^ 33) k some

-- ## Statements

sorted_short : (table value : ℕ) → table ≤ 20 → value ≤ 1000 → length (sorted_text table value) ≤ 90
unfolding sorted_text
sorted_short table value t v = grind (arith, length-append, two_digits, four_digits)

range_short : (table value : ℕ) → table ≤ 20 → value ≤ 1000 → length (range_text table value) ≤ 90
unfolding range_text
range_short table value t v = grind (arith, length-append, two_digits, four_digits)

join_short : (table other value : ℕ) → table ≤ 20 → other ≤ 20 → value ≤ 1000 → length (join_text table other value) ≤ 90
unfolding join_text
join_short table other value t o v = grind (arith, length-append, two_digits, four_digits)

group_short : (table : ℕ) → table ≤ 20 → length (group_text table) ≤ 90
unfolding group_text
group_short table t = grind (arith, length-append, two_digits)

update_short : (table value : ℕ) → table ≤ 20 → value ≤ 1000 → length (update_text table value) ≤ 90
unfolding update_text
update_short table value t v = grind (arith, length-append, two_digits, four_digits)

either_short : (b : Bool) (xs ys : List ℕ) → length xs ≤ 90 → length ys ≤ 90 → length (if b then xs else ys) ≤ 90
either_short true xs ys h k = h
either_short false xs ys h k = k

next_within : (tables table : ℕ) → 0 < tables → tables ≤ 20 → next_table tables table ≤ 20
next_within tables table some few = omega (arith, mod_below table tables some)

query_short : (tables : ℕ) (choice : Choice) → 0 < tables → tables ≤ 20 → choice.table ≤ 20 → choice.value ≤ 1000 → length (query_text tables choice) ≤ 90
unfolding query_text
query_short tables choice some few t v =
    either_short (choice.kind == 0) _ _ (sorted_short choice.table choice.value t v)
    (either_short (choice.kind == 1) _ _ (range_short choice.table choice.value t v)
    (either_short (choice.kind == 2) _ _ (join_short choice.table (next_table tables choice.table) choice.value t (next_within tables choice.table some few) v)
    (either_short (choice.kind == 3) _ _ (group_short choice.table t) (update_short choice.table choice.value t v))))

statement_short : (tables : ℕ) (choice : Choice) → 0 < tables → tables ≤ 20 → choice.weight ≤ 100 → choice.table ≤ 20 → choice.value ≤ 1000 → length (statement_text tables choice) ≤ 110
unfolding statement_text
statement_short tables choice some few w t v = grind (arith, length-append, four_digits, query_short tables choice some few t v)

drawn_short : (tables x : ℕ) → 0 < tables → tables ≤ 20 → length (statement_text tables (drawn_choice tables x)) ≤ 110
unfolding drawn_choice
drawn_short tables x some few =
    statement_short tables (drawn_choice tables x) some few
    (omega (arith, draw_below 100 x (omega arith))) (omega (arith, draw_below tables (after 1 x) some)) (omega (arith, draw_below 1000 (after 2 x) (omega arith)))

statements_short : (count tables x : ℕ) → 0 < tables → tables ≤ 20 → length (statements_text count tables x) ≤ count * 110
statements_short zero tables x some few = omega arith
statements_short (suc count) tables x some few =
    omega (arith, length-append (statement_text tables (drawn_choice tables x)) (statements_text count tables (after 4 x)), drawn_short tables x some few, statements_short count tables (after 4 x) some few)

-- so many statements over so many tables
pub workload_short : (seed tables statements : ℕ) → 0 < tables → tables ≤ 20 → statements ≤ 500 → length (workload_text seed tables statements) ≤ 55000
unfolding workload_text
workload_short seed tables statements some few less = omega (arith, statements_short statements tables (after (3 * tables) seed) some few)

-- ## Tables

head_short : (number rows : ℕ) → number ≤ 20 → rows ≤ 1000000 → length (head_text number rows) ≤ 60
unfolding head_text
head_short number rows n r = grind (arith, length-append, two_digits number n, seven_digits rows r, seven_digits (rows / 50))

column_short : (name kind : List ℕ) (width distinct : ℕ) → length name ≤ 4 → length kind ≤ 4 → width ≤ 20 → distinct ≤ 1000000 → length (column_text name kind width distinct) ≤ 90
unfolding column_text
column_short name kind width distinct n k w d = grind (arith, length-append, two_digits width w, seven_digits distinct d)

number_column_short : (name : List ℕ) (values : ℕ) → length name ≤ 4 → values ≤ 1000000 → length (number_column_text name values) ≤ 120
unfolding number_column_text
number_column_short name values n v = grind (arith, length-append, seven_digits values v, column_short name (codes "int") 4 values n)

columns_short : (sizes : Sizes) → sizes.rows ≤ 1000000 → sizes.a_values ≤ 1000000 → sizes.b_values ≤ 1000000 → length (columns_text sizes) ≤ 600
unfolding columns_text
columns_short sizes r a b =
    grind (
      arith,
      length-append,
      column_short (codes "k") (codes "int") 8 sizes.rows,
      column_short (codes "f") (codes "int") 8 1000,
      column_short (codes "d") (codes "date") 4 3653,
      number_column_short (codes "a") sizes.a_values,
      number_column_short (codes "b") sizes.b_values,
    )

table_short : (number : ℕ) (sizes : Sizes) → number ≤ 20 → sizes.rows ≤ 1000000 → sizes.a_values ≤ 1000000 → sizes.b_values ≤ 1000000 → length (table_text number sizes) ≤ 800
unfolding table_text index_text
table_short number sizes n r a b = grind (arith, length-append, head_short number sizes.rows n r, columns_short sizes r a b)

drawn_table_short : (number x : ℕ) → number ≤ 20 → length (table_text number (drawn_sizes x)) ≤ 800
unfolding drawn_sizes
drawn_table_short number x n =
    table_short number (drawn_sizes x) n
    (omega (arith, draw_below 1000 x (omega arith))) (omega (arith, draw_below 991 (after 1 x) (omega arith))) (omega (arith, draw_below 991 (after 2 x) (omega arith)))

tables_short : (count number x : ℕ) → number + count ≤ 21 → length (tables_text count number x) ≤ count * 800
tables_short zero number x few = omega arith
tables_short (suc count) number x few =
    omega (arith, length-append (table_text number (drawn_sizes x)) (tables_text count (number + 1) (after 3 x)), drawn_table_short number x (omega arith), tables_short count (number + 1) (after 3 x) (omega arith))

-- so many tables
pub catalogue_short : (seed tables : ℕ) → tables ≤ 20 → length (catalogue_text seed tables) ≤ 17000
unfolding catalogue_text
catalogue_short seed tables few = grind (arith, length-append, tables_short tables 1 seed)
