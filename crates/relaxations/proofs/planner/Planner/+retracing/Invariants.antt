use Rattle.relaxations.proofs.planner.Planner.+retracing.Given as goal

abbrev pub decreases-retrace : goal.decreases-retrace
decreases-retrace l = l.levels
