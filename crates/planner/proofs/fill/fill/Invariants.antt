use Rattle.planner.specs.Cells.{row_of}
use Rattle.planner.specs.Rows.{width, AreRows, IsTable}
use Rattle.planner.proofs.fill.fill.Given as goal

abbrev pub invariant-loop-set : goal.invariant-loop-set
invariant-loop-set g l =
    record {
      table : IsTable l.ways l.cells;
      done : AreRows l.ways (g.O.Offers.table l.offers) (row_of (width l.ways) l.cells) l.set;
    }
