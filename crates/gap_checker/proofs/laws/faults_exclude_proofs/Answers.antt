use Rattle.gap_checker.proofs.Excluding.{excluded, sets-rise}
use Rattle.gap_checker.proofs.laws.faults_exclude_proofs.Goals as goal

pub returns : goal.returns
returns c = λ setting root cert fault limits proof is. excluded setting root cert fault limits (sets-rise cert.sets limits.sets) proof is
