use Rattle.std.proofs.Common.{◌≡◌, ℕ, ◌<◌, ◌≤◌}
use Rattle.std.specs.List.{list_all}
use Rattle.plan_model.specs.Plans.{is_column_of}
use Rattle.planner.specs.Fronts.{asked}
use Rattle.planner.specs.Cells.{cell_at}
use Rattle.planner.specs.inner.Steps.{finished}
use Rattle.planner.proofs.row.finish_row.Given as goal

abbrev pub invariant-loop-f : goal.invariant-loop-f
invariant-loop-f l =
    record {
      done : (k : ℕ) → k < l.f → cell_at l.row k ≡ finished (cell_at l.initial.row k) (list_all (is_column_of l.set) (asked l.list l.fronts k)) l.sorted;
      left : (k : ℕ) → l.f ≤ k → cell_at l.row k ≡ cell_at l.initial.row k;
    }
