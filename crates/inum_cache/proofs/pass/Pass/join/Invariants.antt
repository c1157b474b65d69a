use Rattle.planner.specs.Cuts.{cut_at}
use Rattle.planner.specs.Rows.{cuts_of}
use Rattle.inum_cache.specs.inner.Cells.{SomeBelow, Takes}
use Rattle.inum_cache.specs.inner.Passes.{row_in, CutGives}
use Rattle.inum_cache.proofs.pass.Pass.join.Given as goal

abbrev pub invariant-loop-cut : goal.invariant-loop-cut
invariant-loop-cut l =
    Takes l.self.choices.now.orders (SomeBelow l.cut-index (λ k. CutGives l.self.ways (row_in l.rows) l.front (cut_at (cuts_of l.self.ways l.set) k))) l.initial.cell.items l.cell.items
