use Rattle.std.proofs.Common.{◌≡◌, ◌*◌, ◌≤◌, take}
use Rattle.plan_model.specs.Lagrangian as lagrangian
use Rattle.gap_checker.specs.inner.Judges.{setting_of}
use Rattle.bip_model.specs.Views.{node_of}
use Rattle.gap_checker.specs.inner.Sums as sums
use Rattle.gap_checker.proofs.lagrangian.costs_inside.Given as goal

abbrev pub invariant-loop-a : goal.invariant-loop-a
invariant-loop-a l =
    record {
      sum_is : l.sum ≡ lagrangian.costs_inside (setting_of l.judge) (sums.the_multipliers l.set.rents) (node_of l.at) 1 (take l.a l.judge.setting.now.shapes.now);
      most : l.sum ≤ l.a * sums.most_candidate_cost;
    }
