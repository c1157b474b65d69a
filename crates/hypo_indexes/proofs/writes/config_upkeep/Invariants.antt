use Rattle.std.proofs.Common.{◌≡◌, ◌≤◌, ◌+◌, ◌*◌, drop}
use Rattle.std.specs.Prelude.{sum_by}
use Rattle.adv_base.specs.Configs.{chosen}
use Rattle.adv_base.specs.Upkeep.{upkeep, config_upkeep}
use Rattle.adv_base.specs.declared.limits.TheConstants.{MOST_CANDIDATES, MOST_UPKEEP}
use Rattle.hypo_indexes.proofs.writes.config_upkeep.Given as goal

abbrev pub invariant-loop-i : goal.invariant-loop-i
invariant-loop-i l = record {
  rest : l.sum + sum_by (upkeep l.cat l.statement.work) (chosen (drop l.i l.config.on) (drop l.i l.shapes)) ≡ config_upkeep l.cat l.shapes l.config l.statement.work;
  most : l.sum ≤ MOST_UPKEEP * l.i;
  places : l.i ≤ MOST_CANDIDATES;
}
