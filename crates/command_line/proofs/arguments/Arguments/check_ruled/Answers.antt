use Rattle.command_line.proofs.Rows.{row_ends}
use Rattle.command_line.proofs.arguments.Arguments.check_ruled.Goals as goal

pub returns : goal.returns
returns c = rw (c.file.ensures.reads.step, c.file-2.ensures.reads.step, c.file-3.ensures.reads.step, c.file-4.ensures.reads.step, row_ends) c.end.ensures
