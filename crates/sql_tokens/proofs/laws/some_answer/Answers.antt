use Rattle.sql_tokens.proofs.Ahead.{answered}
use Rattle.sql_tokens.proofs.laws.some_answer.Goals as goal

pub returns : goal.returns
returns c = λ text. answered text
