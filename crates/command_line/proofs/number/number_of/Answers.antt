use Rattle.std.proofs.Common.{arith}
use Rattle.command_line.proofs.NumberLaws.{number_told}
use Rattle.command_line.proofs.number.number_of.Goals as goal

pub returns-clause-exact : goal.returns-clause-exact
returns-clause-exact c = number_told c.args.least c.args.most c.args.text.now c.read_number.result (omega (arith, c.ranges.most.fits)) c.read_number.ensures.exact
