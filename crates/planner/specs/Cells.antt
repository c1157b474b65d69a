-- Rows of cells: one row for each set of slots, in it one cell for each front.
use Rattle.std.specs.Prelude.{ℕ, ◌*◌, List, take, drop, slice_index_or}
use Rattle.planner.specs.declared.cell.Cell.{Cell}
use Rattle.planner.specs.declared.cell.TheConstants.{IMPOSSIBLE}

-- no plan
abbrev pub blank : Cell
blank = record { cost = IMPOSSIBLE; any = IMPOSSIBLE }

abbrev pub cell_at : List Cell → ℕ → Cell
cell_at row f = slice_index_or row f blank

abbrev pub cost_at : List Cell → ℕ → ℕ
cost_at row f = (cell_at row f).cost

abbrev pub any_at : List Cell → ℕ → ℕ
any_at row f = (cell_at row f).any

-- the row of a set in a table whose rows have a width
abbrev pub row_of : ℕ → List Cell → ℕ → List Cell
row_of width cells set = take width (drop (set * width) cells)
