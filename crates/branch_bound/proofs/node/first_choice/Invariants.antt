use Rattle.branch_bound.specs.inner.Runs as runs
use Rattle.branch_bound.proofs.node.first_choice.Given as goal

abbrev pub invariant-loop-index : goal.invariant-loop-index
invariant-loop-index l = runs.NoChoiceBelow (runs.rules_of l.frame) l.fix l.index
