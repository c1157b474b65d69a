use Rattle.sql_reader.proofs.Begun.{begin_at_starts}
use Rattle.sql_reader.proofs.law.statements_begin.Goals as goal

pub returns : goal.returns
returns c = λ terminals progress h. begin_at_starts terminals progress h
