use Rattle.std.proofs.Common.{◌≡◌, [], length, ap, arith}
use Rattle.adv_base.specs.Settings.{the_setting}
use Rattle.retune.proofs.Renewed.{renewed-by}
use Rattle.retune.proofs.widening.renewed_before.Goals as goal

pub returns : goal.returns
returns c =
    let fresh = c.args.fresh.now in
    let some : fresh ≡ [] → ⊥ = λ none. let short : length fresh ≡ 0 = ap length none in grind (arith, short) in
    renewed-by (the_setting c.args.setting.now) c.by.result fresh c.args.last c.in_ok-parts.parts.items some c.by.ensures c.in_ok-parts.ensures
