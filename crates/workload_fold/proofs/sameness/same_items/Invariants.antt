use Rattle.std.proofs.Common.{◌≡◌, drop}
use Rattle.std.specs.Cmp.Lexicographic.{pointwise}
use Rattle.adv_base.specs.Items.{is_same_item}
use Rattle.workload_fold.proofs.sameness.same_items.Given as goal

abbrev pub invariant-places : goal.invariant-places
invariant-places l = pointwise is_same_item (drop l.at l.first) (drop l.at l.second) ≡ pointwise is_same_item l.first l.second
