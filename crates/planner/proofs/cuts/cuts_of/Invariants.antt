use Rattle.planner.specs.Cuts.{AreCuts}
use Rattle.planner.proofs.cuts.cuts_of.Given as goal

abbrev pub invariant-loop-set : goal.invariant-loop-set
invariant-loop-set l = AreCuts l.task l.links l.made.cuts.items l.made.merges.items l.made.starts.items l.made.covered.items l.set
