use Rattle.certificate.proofs.Heads.{heads-keep-limits}
use Rattle.certificate.proofs.laws.heads_keep_limits.Goals as goal

pub returns : goal.returns
returns c = heads-keep-limits
