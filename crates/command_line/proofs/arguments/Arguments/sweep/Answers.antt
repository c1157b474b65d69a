use Rattle.std.proofs.Common.{true, rules}
use Rattle.command_line.specs.CommandLine.{PlainCommand, PlainOptions, Sweep, nodes_of}
use Rattle.command_line.proofs.Rows.{row_searches}
use Rattle.command_line.proofs.arguments.Arguments.sweep.Goals as goal

pub returns-in_err-given : goal.returns-in_err-given
returns-in_err-given c =
    let asks : PlainOptions → PlainCommand = λ options. Sweep c.file-cat.result.now c.file-load.result.now c.number-first.result c.number-step.result c.number-count.result (nodes_of options) options.cert in
    let together = rw c.last_budget.ensures at (c.together.ensures.step true asks) in
    rw (c.file-cat.ensures.reads.step, c.file-load.ensures.reads.step, c.number-first.ensures.reads.step, c.number-step.ensures.reads.step, c.number-count.ensures.reads.step, together, row_searches) (search rules)

pub returns : goal.returns
returns c =
    let asks : PlainOptions → PlainCommand = λ options. Sweep c.file-cat.result.now c.file-load.result.now c.number-first.result c.number-step.result c.number-count.result (nodes_of options) options.cert in
    let together = rw c.last_budget.ensures at (c.together.ensures.step true asks) in
    rw (c.file-cat.ensures.reads.step, c.file-load.ensures.reads.step, c.number-first.ensures.reads.step, c.number-step.ensures.reads.step, c.number-count.ensures.reads.step, together, row_searches) (search rules)
