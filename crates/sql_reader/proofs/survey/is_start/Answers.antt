use Rattle.std.proofs.Common.{sym}
use Rattle.sql_reader.specs.Terminals.{bytes_of}
use Rattle.sql_reader.proofs.Surveys.{no_start, not_word}
use Rattle.sql_reader.proofs.survey.is_start.Goals as goal

pub returns-in_default : goal.returns-in_default
returns-in_default c = sym (no_start c.args.token.kind (bytes_of c.args.text.now c.args.token) (not_word c.args.token.kind c.in_default.not-Word))
