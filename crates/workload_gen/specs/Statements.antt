-- The statements of a made workload, as SQL.
use Rattle.std.specs.Prelude.{ℕ, zero, suc, ◌+◌, ◌%◌, ◌==◌, if◌then◌else◌, List, [], ◌∷◌, ◌++◌, codes, decimal}
use Rattle.std.specs.List.{concat}
use Rattle.workload_gen.specs.declared.statements.Choice.{Choice}
use Rattle.workload_gen.specs.Draws.{draw, after}

-- the numbers of a statement over so many tables, from the state before them: four draws
unfoldable pub drawn_choice : ℕ → ℕ → Choice
drawn_choice tables x = record {
  weight = 1 + draw 100 x;
  table = 1 + draw tables (after 1 x);
  value = 1 + draw 1000 (after 2 x);
  kind = draw 5 (after 3 x);
}

-- rows with one value of a, in the order of b
unfoldable pub sorted_text : ℕ → ℕ → List ℕ
sorted_text table value =
    concat (
    codes "SELECT a, b FROM t" ∷ decimal table ∷ codes " WHERE a = " ∷ decimal value ∷ codes " ORDER BY b;\n" ∷ []
    )

-- rows with a value of b in a range of 51
unfoldable pub range_text : ℕ → ℕ → List ℕ
range_text table value =
    concat (
    codes "SELECT k, d FROM t" ∷ decimal table ∷ codes " WHERE b BETWEEN " ∷ decimal value ∷ codes " AND " ∷ decimal (value + 50) ∷ codes ";\n" ∷ []
    )

-- a table and the one that its foreign key points into
unfoldable pub join_text : ℕ → ℕ → ℕ → List ℕ
join_text table other value =
    concat (
    codes "SELECT x.a, y.b FROM t" ∷ decimal table ∷ codes " x, t" ∷ decimal other ∷ codes " y WHERE x.f = y.k AND x.b = " ∷ decimal value
    ∷ codes " ORDER BY x.a;\n" ∷ []
    )

-- a sum for each value of a
unfoldable pub group_text : ℕ → List ℕ
group_text table =
    concat (
    codes "SELECT a, sum(b) FROM t" ∷ decimal table ∷ codes " GROUP BY a;\n" ∷ []
    )

-- a change of the row with a key
unfoldable pub update_text : ℕ → ℕ → List ℕ
update_text table value =
    concat (
    codes "UPDATE t" ∷ decimal table ∷ codes " SET b = " ∷ decimal value ∷ codes " WHERE k = " ∷ decimal value ∷ codes ";\n" ∷ []
    )

-- the table after this one; the first stands after the last
abbrev pub next_table : ℕ → ℕ → ℕ
next_table tables table = table % tables + 1

unfoldable pub query_text : ℕ → Choice → List ℕ
query_text tables choice =
    if choice.kind == 0 then sorted_text choice.table choice.value
    else (if choice.kind == 1 then range_text choice.table choice.value
    else (if choice.kind == 2 then join_text choice.table (next_table tables choice.table) choice.value
    else (if choice.kind == 3 then group_text choice.table
    else update_text choice.table choice.value)))

-- a line with the weight, and the line of the statement
unfoldable pub statement_text : ℕ → Choice → List ℕ
statement_text tables choice = concat (codes "-- weight " ∷ decimal choice.weight ∷ codes "\n" ∷ []) ++ query_text tables choice

-- so many statements
abbrev pub statements_text : ℕ → ℕ → ℕ → List ℕ
statements_text zero tables x = []
statements_text (suc count) tables x = statement_text tables (drawn_choice tables x) ++ statements_text count tables (after 4 x)
