use Rattle.std.proofs.Common.{◌≡◌, length}
use Rattle.search_tests.proofs.problems.shapes_of.Given as goal

abbrev pub invariant-loop-at : goal.invariant-loop-at
invariant-loop-at g l = length l.shapes.items ≡ l.at
