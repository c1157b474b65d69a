use Rattle.bip_model.proofs.Deciding.{space-same}
use Rattle.bip_model.proofs.Usefulness.{useful-from, useful-to, useful-counted}
use Rattle.bip_model.proofs.Using.{multipliers-used, multipliers-kept}
use Rattle.bip_model.proofs.laws.programme_decides.Goals as goal

pub returns-clause-space : goal.returns-clause-space
returns-clause-space c = space-same

pub returns-clause-useful : goal.returns-clause-useful
returns-clause-useful c = λ setting programme budget a stands. (useful-from setting programme budget a stands, useful-to setting programme budget a stands)

pub returns-clause-count : goal.returns-clause-count
returns-clause-count c = useful-counted

pub returns-clause-multipliers : goal.returns-clause-multipliers
returns-clause-multipliers c = multipliers-used

pub returns-clause-limits : goal.returns-clause-limits
returns-clause-limits c = multipliers-kept
