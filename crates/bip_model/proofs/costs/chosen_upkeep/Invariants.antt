use Rattle.std.proofs.Common.{◌≡◌, ◌+◌, ◌*◌, ◌≤◌, drop, sum}
use Rattle.adv_base.specs.Configs as configs
use Rattle.adv_base.specs.declared.limits.TheConstants.{MOST_STATEMENTS, MOST_UPKEEP, MOST_WEIGHT}
use Rattle.bip_model.proofs.costs.chosen_upkeep.Given as goal

abbrev pub invariant-loop-a : goal.invariant-loop-a
invariant-loop-a l =
    record {
      rest : l.sum + sum (configs.chosen (drop l.a l.config.on) (drop l.a l.upkeep)) ≡ sum (configs.chosen l.config.on l.upkeep);
      most : l.sum ≤ l.a * (MOST_STATEMENTS * (MOST_WEIGHT * MOST_UPKEEP));
    }
