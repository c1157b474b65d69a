use Rattle.sql_tokens.proofs.Reached.{no_fault}
use Rattle.sql_tokens.proofs.laws.tokens_or_fault.Goals as goal

pub returns : goal.returns
returns c = no_fault
