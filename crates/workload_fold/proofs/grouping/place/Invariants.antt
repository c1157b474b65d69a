use Rattle.std.proofs.Common.{◌≡◌, drop}
use Rattle.workload_fold.specs.inner.Gathering.{place_from}
use Rattle.workload_fold.proofs.grouping.place.Given as goal

abbrev pub invariant-places : goal.invariant-places
invariant-places l = place_from l.cat l.statement l.at (drop l.at l.groups) ≡ place_from l.cat l.statement 0 l.groups
