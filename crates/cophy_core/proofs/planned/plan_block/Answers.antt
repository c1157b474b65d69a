use Rattle.std.proofs.Common.{◌<◌, length, sym, subst}
use Rattle.adv_base.specs.Offers.{OfferTable}
use Rattle.plan_model.proofs.CostBound.{whole_cost-most}
use Rattle.cophy_core.proofs.Offered.{offered}
use Rattle.cophy_core.proofs.planned.plan_block.Goals as goal

pub least-requires : goal.least-requires
least-requires c = λ slot h.
    let within : slot < length c.args.block.now.slots = rw (← c.in_ok-task.ensures.slots_are) h in
    let has : OfferTable → Type 0 = λ t. 0 < length (t slot) in
    subst has (sym c.in_ok-offers.ensures.offers_are) (offered c.args.setting.now.cat.now c.args.block.now _ _ slot c.requires within)

pub returns-clause-bound : goal.returns-clause-bound
returns-clause-bound c =
    rw (← c.in_ok-found.ensures.costs) (whole_cost-most c.in_ok-task.task _ c.in_ok-found.found.plan c.limits.ensures c.in_ok-found.ensures.valid)
