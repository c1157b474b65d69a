use Rattle.std.proofs.Common.{arith}
use Rattle.adv_base.proofs.SumLemmas.{leading-digits}
use Rattle.adv_base.proofs.numbers.binary_digits.Goals as goal

pub returns-clause-exact : goal.returns-clause-exact
returns-clause-exact c = (leading-digits c.args.n (omega arith)).0

pub returns-clause-above : goal.returns-clause-above
returns-clause-above c = (leading-digits c.args.n (omega arith)).1

pub returns-clause-least : goal.returns-clause-least
returns-clause-least c = (leading-digits c.args.n (omega arith)).2
