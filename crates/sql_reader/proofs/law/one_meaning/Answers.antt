use Rattle.sql_reader.proofs.Unique.{one_progress}
use Rattle.sql_reader.proofs.law.one_meaning.Goals as goal

pub returns : goal.returns
returns c = λ start terminals first second h1 h2. one_progress start terminals first second h1 h2
