use Rattle.std.proofs.Common.{◌≡◌, ◌*◌, ◌≤◌, take}
use Rattle.std.specs.Prelude.{sum_by}
use Rattle.adv_base.specs.Upkeep.{kept_upkeep}
use Rattle.adv_base.specs.declared.limits.TheConstants.{MOST_INDEXES, MOST_UPKEEP, MOST_WEIGHT}
use Rattle.hypo_indexes.proofs.figures.weighted_kept.Given as goal

abbrev pub invariant-loop-statement : goal.invariant-loop-statement
invariant-loop-statement l =
    record {
      sum_is : l.sum ≡ sum_by (λ statement. statement.weight * kept_upkeep l.setting.cat.now statement.work) (take l.statement-index l.setting.statements.now);
      most : l.sum ≤ l.statement-index * (MOST_WEIGHT * (MOST_INDEXES * MOST_UPKEEP));
    }
