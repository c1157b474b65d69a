use Rattle.std.proofs.Common.{◌≡◌, ◌*◌, All, length}
use Rattle.planner.specs.Cells.{blank}
use Rattle.planner.proofs.fill.blank_rows.Given as goal

abbrev pub invariant-loop-set : goal.invariant-loop-set
invariant-loop-set l =
    record {
      count : length l.cells.items ≡ l._set * length l.row;
      blanks : All (λ cell. cell ≡ blank) l.cells.items;
    }
