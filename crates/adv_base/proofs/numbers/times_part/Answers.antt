use Rattle.std.proofs.Common.{rules}
use Rattle.adv_base.specs.Sums.{times_part}
use Rattle.adv_base.proofs.numbers.times_part.Goals as goal

pub returns-clause-exact : goal.returns-clause-exact
unfolding times_part
returns-clause-exact c = search rules
