use Rattle.sql_reader.proofs.Ahead.{few_terminals}
use Rattle.sql_reader.proofs.workload.read_surveyed.Goals as goal

pub read_terminals-requires-clause-few : goal.read_terminals-requires-clause-few
read_terminals-requires-clause-few c = few_terminals c.args.text.now c.requires.short c.requires.survey.are_tokens
