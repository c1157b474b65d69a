use Rattle.workload_fold.proofs.FoldedAsGroups.{folded_tokens}
use Rattle.workload_fold.proofs.laws.folded_texts_keep_tokens.Goals as goal

pub returns : goal.returns
returns c = folded_tokens
