use Rattle.std.proofs.Common.{arith}
use Rattle.gap_checker.proofs.Numbers.{few-more, first-past}
use Rattle.gap_checker.proofs.claims.first_past.Goals as goal

pub returns-then-numbers-i-clause-found : goal.returns-then-numbers-i-clause-found
returns-then-numbers-i-clause-found c = λ number is. first-past c.args.numbers.now c.args.count c.loop-i.i number c.loop-i-test.true (omega arith) c.loop-i.invariant is

pub loop-i-preserved : goal.loop-i-preserved
loop-i-preserved c = few-more c.args.numbers.now c.args.count c.loop-i.i 0 c.loop-i-test.true (omega arith) c.loop-i.invariant
