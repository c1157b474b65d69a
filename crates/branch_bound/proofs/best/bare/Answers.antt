use Rattle.std.proofs.Common.{◌∙◌, ap}
use Rattle.adv_base.specs.declared.setting.Config.{Config}
use Rattle.bip_model.specs.Values.{value}
use Rattle.branch_bound.proofs.Sound.{sound-bare}
use Rattle.branch_bound.proofs.best.bare.Goals as goal

pub returns-clause-sound : goal.returns-clause-sound
returns-clause-sound c = sound-bare c.args.programme.now c.args.shapes.now c.args.budget c.args.root.now _ c.requires c.inside-config.ensures (c.value-cost.ensures.exact ∙ ap (λ (config : Config). value c.args.programme.now config) c.inside-config.ensures)
