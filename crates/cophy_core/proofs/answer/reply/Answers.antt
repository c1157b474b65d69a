use Rattle.cophy_core.specs.Endings.{plain_puts}
use Rattle.command_line.specs.CommandLine.{texts}
use Rattle.cophy_core.proofs.CauseLemmas.{told_fault}
use Rattle.cophy_core.proofs.answer.reply.Goals as goal

pub returns-in-Err-clause-reply : goal.returns-in-Err-clause-reply
returns-in-Err-clause-reply g c =
    told_fault (texts c.args.words.now) _ _ _ c.in-Err.fault c.plain.result.done (plain_puts c.plain.result.puts) c.plain.result.text
    c.in-Err.ensures.reads c.plain.ensures.done c.plain.ensures.puts c.plain.ensures.text
