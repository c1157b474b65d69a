use Rattle.planner.specs.Fronts.{listed, AreNeeded, AreLinks}
use Rattle.planner.specs.inner.Growing.{AreFronts}
use Rattle.planner.proofs.needs.needs_of.Given as goal

abbrev pub invariant-loop-k : goal.invariant-loop-k
invariant-loop-k l =
    record {
      fronts : AreFronts l.fronts.items;
      needed : AreNeeded l.task.edges l.fronts.items;
      links : AreLinks (listed l.task) l.fronts.items l.task.edges l.links.items l.k;
    }
