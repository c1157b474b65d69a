use Rattle.std.proofs.Common.{◌≡◌, length, arith, rules}
use Rattle.bip_model.specs.declared.grant.Grant.{Grant}
use Rattle.bip_model.proofs.Pricing.{grant-step}
use Rattle.bip_model.proofs.costs.write_row.Goals as goal

pub loop-grant-preserved : goal.loop-grant-preserved
loop-grant-preserved c = λ o below.
    let grant : Grant = c.grant-item.result in
    let one_each : length grant.prices ≡ length c.args.slot.now.base = search rules in
    grant-step c.args.config.now c.args.slot.now c.args.slot.now.grants c.loop-grant.grant-index o grant _ _ (search rules) (search rules) (c.loop-grant.invariant o below) (c.grant_row.ensures o (omega (arith, below, one_each)))
