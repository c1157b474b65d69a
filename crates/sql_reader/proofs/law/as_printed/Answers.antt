use Rattle.sql_reader.proofs.AsPrinted.{is_as_printed}
use Rattle.sql_reader.proofs.law.as_printed.Goals as goal

pub returns : goal.returns
returns c = is_as_printed
