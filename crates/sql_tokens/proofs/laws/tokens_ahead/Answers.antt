use Rattle.sql_tokens.proofs.Ahead.{tells_ahead}
use Rattle.sql_tokens.proofs.laws.tokens_ahead.Goals as goal

pub returns : goal.returns
returns c = λ text. tells_ahead text
