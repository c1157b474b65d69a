use Rattle.sql_tokens.proofs.Reached.{one_fault}
use Rattle.sql_tokens.proofs.laws.one_fault.Goals as goal

pub returns : goal.returns
returns c = one_fault
