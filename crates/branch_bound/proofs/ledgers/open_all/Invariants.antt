use Rattle.std.proofs.Common.{◌≡◌, ◌<◌, ℕ, length, get_or}
use Rattle.lagrange_bound.specs.declared.ledger.Ledger.{Ledger}
use Rattle.lagrange_bound.specs.Ledgers.{HasPlaces, HasRoom}
use Rattle.branch_bound.specs.inner.Runs as runs
use Rattle.branch_bound.proofs.ledgers.open_all.Given as goal

abbrev pub invariant-loop-set : goal.invariant-loop-set
invariant-loop-set l =
    record {
      opened : runs.AreOpen l.task.programme.now l.zeros l.sets l.set l.ledgers.each.items;
      rest : (k : ℕ) (d : Ledger) → l.set < k → k < length l.ledgers.each.items → HasRoom l.task.programme.now (get_or l.ledgers.each.items k d);
      long : length l.ledgers.each.items ≡ length l.fn.ledgers.each.items;
      places : HasPlaces l.cheaper l.ledgers.rows;
    }
