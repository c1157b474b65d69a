use Rattle.std.proofs.Common.{◌≡◌, ◌*◌, ◌≤◌, take}
use Rattle.std.specs.Prelude.{sum_by}
use Rattle.adv_base.specs.Upkeep.{upkeep}
use Rattle.adv_base.specs.declared.limits.TheConstants.{MOST_UPKEEP, MOST_WEIGHT}
use Rattle.hypo_indexes.proofs.figures.weighted_upkeep.Given as goal

abbrev pub invariant-loop-statement : goal.invariant-loop-statement
invariant-loop-statement l =
    record {
      sum_is : l.sum ≡ sum_by (λ statement. statement.weight * upkeep l.setting.cat.now statement.work l.shape) (take l.statement-index l.setting.statements.now);
      most : l.sum ≤ l.statement-index * (MOST_WEIGHT * MOST_UPKEEP);
    }
