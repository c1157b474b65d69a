use Rattle.branch_bound.specs.inner.Runs.{rules_of}
use Rattle.branch_bound.proofs.Explored.{outside-inside}
use Rattle.branch_bound.proofs.explore.outside.Goals as goal

pub returns-clause-inside : goal.returns-clause-inside
returns-clause-inside c = outside-inside (rules_of c.args.frame.now) c.args.fix.now c.fixed.result c.args.index c.fixed.ensures c.requires.choice
