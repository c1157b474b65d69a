use Rattle.std.proofs.Common.{◌≡◌, ◌*◌, ◌≤◌, take}
use Rattle.std.specs.Prelude.{sum_by}
use Rattle.adv_base.specs.declared.limits.TheConstants.{MOST_WEIGHT}
use Rattle.bip_model.specs.Values as values
use Rattle.bip_model.proofs.costs.weighted_plans.Given as goal

abbrev pub invariant-loop-part : goal.invariant-loop-part
invariant-loop-part l =
    record {
      sum : l.sum ≡ sum_by (λ part. part.weight * values.part_cost part l.config) (take l.part-index l.parts);
      most : l.sum ≤ l.part-index * (MOST_WEIGHT * values.MOST_PLAN);
    }
