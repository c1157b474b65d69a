use Rattle.std.proofs.Common.{◌≡◌, ◌++◌, drop}
use Rattle.planner.specs.Cuts.{merges_of}
use Rattle.planner.proofs.cuts.add_merges.Given as goal

abbrev pub invariant-loop-link : goal.invariant-loop-link
invariant-loop-link l = l.merges.items ++ merges_of (drop l.link-index l.links) l.a l.b ≡ l.initial.merges.items ++ merges_of l.links l.a l.b
