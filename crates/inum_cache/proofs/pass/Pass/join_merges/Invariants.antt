use Rattle.planner.specs.Cuts.{merge_at}
use Rattle.planner.specs.Rows.{merges_in}
use Rattle.inum_cache.specs.inner.Cells.{SomeBelow, Takes}
use Rattle.inum_cache.specs.inner.Passes.{row_in, MergeGives}
use Rattle.inum_cache.proofs.pass.Pass.join_merges.Given as goal

abbrev pub invariant-loop-merge : goal.invariant-loop-merge
invariant-loop-merge l =
    Takes l.self.choices.now.orders (SomeBelow l.merge-index (λ j. MergeGives l.self.ways (row_in l.rows) l.front l.cut (merge_at (merges_in l.self.ways l.cut) j))) l.initial.cell.items l.cell.items
