use Rattle.std.proofs.Common.{◌≡◌, subst}
use Rattle.std.proofs.lemmas.List.{take_all}
use Rattle.adv_base.specs.Configs.{has_candidate}
use Rattle.bip_model.specs.declared.grant.Grant.{Grant}
use Rattle.lagrange_bound.proofs.CarriedCosts.{AreAlike, all-more, alone-false}
use Rattle.lagrange_bound.proofs.carrying.differs_at.Goals as goal

pub loop-grant-preserved : goal.loop-grant-preserved
loop-grant-preserved c =
    all-more (λ (grant : Grant). has_candidate c.args.from.now grant.candidate ≡ has_candidate c.args.to.now grant.candidate) c.args.grants.now c.loop-grant.grant-index c.grant-item.result
    c.loop-grant-test.true c.grant-item.is c.loop-grant.invariant
    (alone-false c.has.result c.has-in-loop-grant.result (has_candidate c.args.from.now c.grant-item.result.candidate) (has_candidate c.args.to.now c.grant-item.result.candidate) c.one_alone.result
    c.one_alone.ensures c.has.ensures c.has-in-loop-grant.ensures c.if-one_alone.false)

pub returns : goal.returns
returns c = λ e.
    subst (AreAlike c.args.from.now c.args.to.now) (take_all c.loop-grant.grant-index c.args.grants.now c.loop-grant-test.false) c.loop-grant.invariant
