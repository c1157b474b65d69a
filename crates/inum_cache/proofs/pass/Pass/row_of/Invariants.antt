use Rattle.inum_cache.specs.inner.Passes.{row_in}
use Rattle.inum_cache.proofs.Rowing.{AreCells}
use Rattle.inum_cache.proofs.pass.Pass.row_of.Given as goal

abbrev pub invariant-loop-front : goal.invariant-loop-front
invariant-loop-front l =
    AreCells l.self.ways l.self.choices.now.orders (row_in l.rows) l.set l.row.items l.front
