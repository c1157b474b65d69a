use Rattle.std.proofs.Common.{◌+◌, sym, arith}
use Rattle.command_line.specs.CommandLine.{texts}
use Rattle.command_line.proofs.Rows.{number_read, number_fault}
use Rattle.command_line.proofs.arguments.Arguments.number.Goals as goal

pub returns-in-Ok-clause-reads : goal.returns-in-Ok-clause-reads
returns-in-Ok-clause-reads c = record {
  step = λ tail kinds asked.
      let line = c.args.self.now in
      number_read tail line.so_far (texts line.words.now) line.at (line.at + 1) c.args.least c.args.most kinds asked c.in-Ok.number (omega arith) (sym c.in-Ok.ensures.exact);
}

pub returns-in-Err-clause-reads : goal.returns-in-Err-clause-reads
returns-in-Err-clause-reads c = record {
  step = λ tail kinds asked.
      let line = c.args.self.now in
      number_fault tail line.so_far (texts line.words.now) line.at (line.at + 1) c.args.least c.args.most kinds asked 0 c.in-Err.fault (omega arith) (sym c.in-Err.ensures.exact);
}
