use Rattle.programme_parts.proofs.Counting.{some-count, one-count}
use Rattle.programme_parts.proofs.laws.blocks_have_one_count.Goals as goal

pub returns-clause-some : goal.returns-clause-some
returns-clause-some c = some-count

pub returns-clause-one : goal.returns-clause-one
returns-clause-one c = one-count
