use Rattle.std.proofs.Common.{subst}
use Rattle.certificate.specs.declared.state.State.{State}
use Rattle.certificate.specs.inner.States.{StandsForAt}
use Rattle.certificate.proofs.Reached.{breaks-here}
use Rattle.certificate.proofs.state.State.end.Goals as goal

pub returns-in-Broken-clause-fault : goal.returns-in-Broken-clause-fault
returns-in-Broken-clause-fault c = λ text stands. breaks-here text c.in-Broken.number (subst (λ (s : State). StandsForAt s text) c.in-Broken.is stands)
