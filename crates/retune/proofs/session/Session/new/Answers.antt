use Rattle.std.proofs.Common.{subst}
use Rattle.candidates.specs.Growing.{IsProposed}
use Rattle.retune.proofs.session.Session.new.Goals as goal

pub over-requires-clause-proposed : goal.over-requires-clause-proposed
over-requires-clause-proposed c = rw c.as_slice.ensures at c.in_ok-proposed.ensures
