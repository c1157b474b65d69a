use Rattle.std.proofs.Common.{◌≡◌, ◌*◌, ◌≤◌, map, take}
use Rattle.std.specs.Prelude.{All}
use Rattle.adv_base.specs.declared.limits.TheConstants.{MOST_STATEMENTS, MOST_UPKEEP, MOST_WEIGHT}
use Rattle.adv_base.specs.Upkeep as write
use Rattle.adv_base.specs.Settings.{the_setting}
use Rattle.hypo_indexes.proofs.figures.upkeep_of.Given as goal

abbrev pub invariant-loop-shape : goal.invariant-loop-shape
invariant-loop-shape l =
    record {
      are : l.costs.items ≡ map (write.weighted_upkeep (the_setting l.setting)) (take l.shape-index l.setting.shapes.now);
      most : All (λ cost. cost ≤ MOST_STATEMENTS * (MOST_WEIGHT * MOST_UPKEEP)) l.costs.items;
    }
