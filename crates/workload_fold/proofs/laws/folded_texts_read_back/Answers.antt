use Rattle.workload_fold.proofs.FoldedBack.{read_back}
use Rattle.workload_fold.proofs.ReadStatements.{statements_read_alike}
use Rattle.workload_fold.proofs.laws.folded_texts_read_back.Goals as goal

pub returns : goal.returns
returns c = read_back statements_read_alike
