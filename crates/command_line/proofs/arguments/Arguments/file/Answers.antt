use Rattle.std.proofs.Common.{◌+◌, [], arith}
use Rattle.command_line.specs.CommandLine.{texts}
use Rattle.command_line.proofs.Rows.{file_read, file_fault}
use Rattle.command_line.proofs.arguments.Arguments.file.Goals as goal

pub returns-in-Ok-clause-reads : goal.returns-in-Ok-clause-reads
returns-in-Ok-clause-reads c = record {
  step = λ tail kinds asked.
      let line = c.args.self.now in
      file_read tail line.so_far (texts line.words.now) line.at (line.at + 1) kinds asked c.in-Ok.word.now (omega arith) c.in-Ok.ensures;
}

pub returns-in-Err-clause-reads : goal.returns-in-Err-clause-reads
returns-in-Err-clause-reads c = record {
  step = λ tail kinds asked.
      let line = c.args.self.now in
      file_fault tail line.so_far (texts line.words.now) line.at (line.at + 1) kinds asked [] c.in-Err.fault (omega arith) c.in-Err.ensures;
}
