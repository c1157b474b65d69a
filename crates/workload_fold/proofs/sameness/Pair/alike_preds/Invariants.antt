use Rattle.std.proofs.Common.{◌≡◌, drop}
use Rattle.std.specs.Cmp.Lexicographic.{pointwise}
use Rattle.workload_fold.specs.Alike.{alike_preds}
use Rattle.workload_fold.proofs.sameness.Pair.alike_preds.Given as goal

abbrev pub invariant-places : goal.invariant-places
invariant-places l =
    pointwise (alike_preds l.self.cat.now l.self.first.now l.self.second.now) (drop l.at l.first) (drop l.at l.second)
    ≡ pointwise (alike_preds l.self.cat.now l.self.first.now l.self.second.now) l.first l.second
