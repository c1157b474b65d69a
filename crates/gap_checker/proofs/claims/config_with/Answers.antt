use Rattle.gap_checker.proofs.Numbers.{rise-within}
use Rattle.gap_checker.proofs.claims.config_with.Goals as goal

pub with_candidate-config-requires-clause-some : goal.with_candidate-config-requires-clause-some
with_candidate-config-requires-clause-some c = (rise-within 1 c.args.numbers.now c.loop-number.number-index 0 c.requires c.loop-number-test.true).0

pub with_candidate-config-requires-clause-within : goal.with_candidate-config-requires-clause-within
with_candidate-config-requires-clause-within c = (rise-within 1 c.args.numbers.now c.loop-number.number-index 0 c.requires c.loop-number-test.true).1
