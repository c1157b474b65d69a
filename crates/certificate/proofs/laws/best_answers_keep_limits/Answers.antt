use Rattle.certificate.proofs.Best.{best-keeps}
use Rattle.certificate.proofs.laws.best_answers_keep_limits.Goals as goal

pub returns : goal.returns
returns c = best-keeps
