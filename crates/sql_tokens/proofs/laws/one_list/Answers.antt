use Rattle.sql_tokens.proofs.OneCut.{one_list}
use Rattle.sql_tokens.proofs.laws.one_list.Goals as goal

pub returns : goal.returns
returns c = one_list
