use Rattle.command_line.proofs.Rows.{row_ends}
use Rattle.command_line.proofs.arguments.Arguments.bench.Goals as goal

pub returns : goal.returns
returns c = rw (c.number.ensures.reads.step, c.number-2.ensures.reads.step, c.number-3.ensures.reads.step, c.number-4.ensures.reads.step, row_ends) c.end.ensures
