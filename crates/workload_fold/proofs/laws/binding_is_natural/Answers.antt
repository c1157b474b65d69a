use Rattle.workload_fold.proofs.BindStatements.{works_alike}
use Rattle.workload_fold.proofs.laws.binding_is_natural.Goals as goal

pub returns : goal.returns
returns c = λ cat t at there a b work same is. works_alike cat t at there a b same work is
