-- The tables of a made catalogue, as TOML.
use Rattle.std.specs.Prelude.{ℕ, zero, suc, ◌+◌, ◌*◌, ◌/◌, List, [], ◌∷◌, ◌++◌, codes, decimal}
use Rattle.std.specs.List.{concat}
use Rattle.workload_gen.specs.declared.tables.Sizes.{Sizes}
use Rattle.workload_gen.specs.Draws.{draw, after}

-- the numbers of a table, from the state before them: three draws
unfoldable pub drawn_sizes : ℕ → Sizes
drawn_sizes x = record {
  rows = 1000 * (1 + draw 1000 x);
  a_values = 10 + draw 991 (after 1 x);
  b_values = 10 + draw 991 (after 2 x);
}

-- a table's name, its rows and its pages
unfoldable pub head_text : ℕ → ℕ → List ℕ
head_text number rows =
    concat (
    codes "[[table]]\nname = \"t" ∷ decimal number ∷ codes "\"\nrows = " ∷ decimal rows ∷ codes "\npages = " ∷ decimal (rows / 50) ∷ codes "\n" ∷ []
    )

unfoldable pub column_text : List ℕ → List ℕ → ℕ → ℕ → List ℕ
column_text name kind width distinct =
    concat (
    codes "[[table.column]]\nname = \"" ∷ name ∷ codes "\"\nkind = \"" ∷ kind ∷ codes "\"\nwidth = " ∷ decimal width
    ∷ codes "\ndistinct = " ∷ decimal distinct ∷ codes "\n" ∷ []
    )

-- a column of numbers from 1 on, each of which stands in some row
unfoldable pub number_column_text : List ℕ → ℕ → List ℕ
number_column_text name values =
    column_text name (codes "int") 4 values ++ concat (codes "low = 1\nhigh = " ∷ decimal values ∷ codes "\n" ∷ [])

-- the columns: a key, a foreign key, two numbers and a day
unfoldable pub columns_text : Sizes → List ℕ
columns_text sizes =
    column_text (codes "k") (codes "int") 8 sizes.rows
    ++ column_text (codes "f") (codes "int") 8 1000
    ++ number_column_text (codes "a") sizes.a_values
    ++ number_column_text (codes "b") sizes.b_values
    ++ column_text (codes "d") (codes "date") 4 3653 ++ codes "low = \"2000-01-01\"\nhigh = \"2009-12-31\"\n"

-- the unique index on the key
unfoldable pub index_text : List ℕ
index_text = codes "[[table.index]]\nname = \"pk\"\nkeys = [\"k\"]\nunique = true\n"

unfoldable pub table_text : ℕ → Sizes → List ℕ
table_text number sizes = head_text number sizes.rows ++ columns_text sizes ++ index_text

-- so many tables, numbered from a number on
abbrev pub tables_text : ℕ → ℕ → ℕ → List ℕ
tables_text zero number x = []
tables_text (suc count) number x = table_text number (drawn_sizes x) ++ tables_text count (number + 1) (after 3 x)
