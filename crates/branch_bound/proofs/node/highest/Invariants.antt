use Rattle.branch_bound.specs.inner.Runs as runs
use Rattle.branch_bound.proofs.node.highest.Given as goal

abbrev pub invariant-loop-set : goal.invariant-loop-set
invariant-loop-set l =
    record {
      best : runs.IsHighest (runs.rules_of l.frame) l.fix l.set l.best.set l.best.value;
      ledgers : runs.AreLedgers (runs.rules_of l.frame) l.ledgers.each.items;
    }
