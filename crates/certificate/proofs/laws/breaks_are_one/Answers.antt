use Rattle.certificate.proofs.OneLine.{one-break}
use Rattle.certificate.proofs.laws.breaks_are_one.Goals as goal

pub returns : goal.returns
returns c = one-break
