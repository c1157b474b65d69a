use Rattle.std.proofs.Common.{◌≡◌, length}
use Rattle.inum_cache.specs.inner.Passes.{AreRowsOf}
use Rattle.inum_cache.proofs.pass.Pass.rows.Given as goal

abbrev pub invariant-loop-set : goal.invariant-loop-set
invariant-loop-set l =
    record {
      count : length l.rows.items ≡ l.set;
      done : AreRowsOf l.self.ways l.self.choices.now.orders l.rows.items l.set;
    }
