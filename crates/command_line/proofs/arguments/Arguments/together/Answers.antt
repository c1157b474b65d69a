use Rattle.std.proofs.Common.{refl}
use Rattle.command_line.specs.CommandLine.{texts}
use Rattle.command_line.proofs.Rows.{row_together}
use Rattle.command_line.proofs.arguments.Arguments.together.Goals as goal

pub returns : goal.returns
returns c = record {
  at_is = refl;
  step = λ certifies command.
      let line = c.args.self.now in
      row_together certifies c.args.go_together line.so_far c.judged-self.result (texts line.words.now) line.at command c.judged-self.ensures;
}
