use Rattle.std.proofs.Common.{◌≡◌, ◌≤◌, ◌+◌, ◌*◌, drop}
use Rattle.std.specs.Prelude.{sum_by}
use Rattle.adv_base.specs.Configs.{chosen}
use Rattle.adv_base.specs.Sizes.{shape_pages}
use Rattle.adv_base.specs.declared.limits.TheConstants.{MOST_CANDIDATES, MOST_INDEX_PAGES}
use Rattle.hypo_indexes.proofs.budget.config_pages.Given as goal

abbrev pub invariant-loop-i : goal.invariant-loop-i
invariant-loop-i l = record {
  rest : l.sum + sum_by (shape_pages l.cat) (chosen (drop l.i l.config.on) (drop l.i l.shapes)) ≡ sum_by (shape_pages l.cat) (chosen l.config.on l.shapes);
  most : l.sum ≤ MOST_INDEX_PAGES * l.i;
  places : l.i ≤ MOST_CANDIDATES;
}
