use Rattle.std.proofs.Common.{◌≡◌}
use Rattle.adv_base.specs.Settings.{the_setting}
use Rattle.adv_base.specs.Upkeep.{upkeep, weighted_upkeep}
use Rattle.retune.proofs.UpkeepWeights.{moved, partly}
use Rattle.retune.proofs.weights.reweigh_upkeep.Given as goal

-- the first costs are moved
abbrev pub invariant-loop-a : goal.invariant-loop-a
invariant-loop-a l =
    l.costs-inside.items.items
    ≡ partly (weighted_upkeep (the_setting l.setting)) (λ shape. moved (λ work. upkeep l.setting.cat.now work shape) l.setting.statements.now l.statement l.weight) l.a l.setting.shapes.now
