use Rattle.sql_tokens.proofs.Weights.{weight_is}
use Rattle.sql_tokens.proofs.laws.one_weight.Goals as goal

pub returns : goal.returns
returns c = weight_is
