use Rattle.adv_base.proofs.ShareLaws.{share-rises, share-most}
use Rattle.adv_base.proofs.laws.shares_rise.Goals as goal

pub returns-clause-rise : goal.returns-clause-rise
returns-clause-rise c = share-rises

pub returns-clause-parts : goal.returns-clause-parts
returns-clause-parts c = share-most
