use Rattle.std.proofs.Common.{◌≡◌, ℕ, ◌<◌}
use Rattle.planner.specs.Cells.{cell_at, blank}
use Rattle.planner.proofs.row.clear_row.Given as goal

abbrev pub invariant-loop-cell : goal.invariant-loop-cell
invariant-loop-cell l = (k : ℕ) → k < l.cell-index → cell_at l.row k ≡ blank
