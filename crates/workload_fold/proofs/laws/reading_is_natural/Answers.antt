use Rattle.workload_fold.proofs.ReadStatements.{statements_read_alike}
use Rattle.workload_fold.proofs.laws.reading_is_natural.Goals as goal

pub returns : goal.returns
returns c = statements_read_alike
