use Rattle.workload_fold.proofs.Candidates.{same_fresh, same_candidates}
use Rattle.workload_fold.proofs.Totals.{same_total}
use Rattle.workload_fold.proofs.laws.folding_keeps_totals.Goals as goal

pub returns-clause-proposals : goal.returns-clause-proposals
returns-clause-proposals c = same_fresh

pub returns-clause-left_over : goal.returns-clause-left_over
returns-clause-left_over c = same_candidates

pub returns-clause-total : goal.returns-clause-total
returns-clause-total c = same_total
