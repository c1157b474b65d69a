use Rattle.std.proofs.Common.{ℕ, ◌<◌}
use Rattle.planner.specs.Cells.{row_of}
use Rattle.planner.specs.Cuts.{cut_at}
use Rattle.planner.specs.Rows.{width, cuts_of, IsCutBy}
use Rattle.planner.proofs.again.find_join.Given as goal

abbrev pub invariant-loop-k : goal.invariant-loop-k
invariant-loop-k l =
    (i : ℕ) → i < l.k → ¬ (IsCutBy l.ways (row_of (width l.ways) l.cells) (cut_at (cuts_of l.ways l.set) i) l.f l.cost)
