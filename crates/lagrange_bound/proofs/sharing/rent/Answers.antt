use Rattle.std.proofs.Common.{◌≤◌, rules}
use Rattle.adv_base.specs.declared.limits.TheConstants.{MOST_PAGE_PRICE}
use Rattle.bip_model.proofs.Sharing.{rents-same}
use Rattle.lagrange_bound.specs.Bounds.{candidate_cost}
use Rattle.lagrange_bound.specs.Rents.{uses}
use Rattle.lagrange_bound.proofs.WrittenRents.{rents-within}
use Rattle.lagrange_bound.proofs.sharing.rent.Goals as goal

pub returns-clause-within : goal.returns-clause-within
returns-clause-within c =
    let most : c.args.m ≤ MOST_PAGE_PRICE = search rules in
    rents-within c.args.programme.now c.write_multipliers.new.into c.args.m most c.write_multipliers.ensures.page c.write_multipliers.ensures.rents

pub returns-clause-shared : goal.returns-clause-shared
unfolding candidate_cost uses
returns-clause-shared c = λ setting stands. rents-same setting c.args.programme.now c.write_multipliers.new.into c.args.m stands c.write_multipliers.ensures.page c.write_multipliers.ensures.rents
