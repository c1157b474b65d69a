use Rattle.std.proofs.Common.{ℕ, List, Result, Ok, Err}
use Rattle.std.specs.Prelude.{IfOk}
use Rattle.command_line.specs.CommandLine.{texts, plain_command, GivesBy, command_of}
use Rattle.command_line.specs.Spellings.{IsInRange}
use Rattle.command_line.specs.declared.commands.Command.{Command}
use Rattle.command_line.specs.declared.fault.WordFault.{WordFault}
use Rattle.command_line.proofs.Grammar.{reads, in_grammar, in_range}
use Rattle.command_line.proofs.commands.read_words.Goals as goal

pub returns-clause-grammar : goal.returns-clause-grammar
returns-clause-grammar c = λ command. (in_grammar (texts c.args.words.now) command, reads (texts c.args.words.now) command)

pub returns-clause-range : goal.returns-clause-range
returns-clause-range c = within (texts c.args.words.now) c.command_of.result c.command_of.ensures
  where
    within : (words : List (List ℕ)) (r : Result Command WordFault) → GivesBy plain_command r (command_of words) → IfOk r (λ command. IsInRange (plain_command command))
    within words (Ok command) gives = in_range words (plain_command command) gives
    within words (Err fault) gives = tt
