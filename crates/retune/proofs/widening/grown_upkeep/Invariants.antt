use Rattle.std.proofs.Common.{◌≡◌, map, take}
use Rattle.adv_base.specs.Settings.{the_setting}
use Rattle.adv_base.specs.Upkeep.{weighted_upkeep}
use Rattle.retune.proofs.widening.grown_upkeep.Given as goal

abbrev pub invariant-loop-at : goal.invariant-loop-at
invariant-loop-at l = l.costs.items ≡ map (weighted_upkeep (the_setting l.setting)) (take l.at l.setting.shapes.now)
