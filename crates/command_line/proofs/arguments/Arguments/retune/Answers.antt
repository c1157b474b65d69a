use Rattle.std.proofs.Common.{rules}
use Rattle.command_line.proofs.Rows.{row_searches}
use Rattle.command_line.proofs.arguments.Arguments.retune.Goals as goal

pub returns-in_err-given : goal.returns-in_err-given
returns-in_err-given c = rw (c.file-cat.ensures.reads.step, c.file-load.ensures.reads.step, c.file-edits.ensures.reads.step, c.number-budget.ensures.reads.step, row_searches) (search rules)

pub returns : goal.returns
returns c = rw (c.file-cat.ensures.reads.step, c.file-load.ensures.reads.step, c.file-edits.ensures.reads.step, c.number-budget.ensures.reads.step, row_searches) (search rules)
