use Rattle.sql_reader.proofs.OneTooMany.{begins_one_too_many}
use Rattle.sql_reader.proofs.law.one_too_many.Goals as goal

pub returns : goal.returns
returns c = λ text place h. begins_one_too_many text place h
