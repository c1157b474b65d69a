use Rattle.command_line.specs.CommandLine.{plain_command}
use Rattle.cophy_core.proofs.Works.{workload_short, third_short, no_certificate}
use Rattle.cophy_core.proofs.commands.work.Goals as goal

pub over-requires-clause-short : goal.over-requires-clause-short
over-requires-clause-short g c = workload_short (plain_command c.args.command.now) _ c.args.inputs c.requires.range c.requires.read

pub over-requires-clause-third_short : goal.over-requires-clause-third_short
over-requires-clause-third_short g c = third_short (plain_command c.args.command.now) _ c.args.inputs.whole c.requires.read.0

pub over-requires-clause-certificate : goal.over-requires-clause-certificate
over-requires-clause-certificate g c =
    no_certificate (plain_command c.args.command.now) _ c.args.inputs.scanner c.requires.read.1 c.in-None.is

pub checked-requires-clause-third_short : goal.checked-requires-clause-third_short
checked-requires-clause-third_short g c = third_short (plain_command c.args.command.now) _ c.args.inputs.whole c.requires.read.0
