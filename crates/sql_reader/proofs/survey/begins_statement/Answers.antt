use Rattle.std.proofs.Common.{sym, ◌∙◌, length}
use Rattle.std.proofs.lemmas.Bool.{ne_eqb}
use Rattle.sql_reader.proofs.Surveys.{other_length}
use Rattle.sql_reader.proofs.survey.begins_statement.Goals as goal

pub returns-else-word-eq6 : goal.returns-else-word-eq6
returns-else-word-eq6 c =
    let other = ne_eqb (length c.args.word.now) 6 c.if-word-eq6.false in
    other ∙ sym (other_length c.args.word.now other)
