use Rattle.cophy_core.specs.Endings.{plain_puts}
use Rattle.command_line.specs.CommandLine.{plain_command, texts}
use Rattle.cophy_core.proofs.CauseLemmas.{told_reply, told_stop}
use Rattle.command_line.proofs.Grammar.{in_range}
use Rattle.cophy_core.proofs.answer.reply_to.Goals as goal

pub answer-requires : goal.answer-requires
answer-requires g c = in_range (texts c.args.words.now) (plain_command c.args.command.now) c.requires

pub returns-in-Ok-clause-reply : goal.returns-in-Ok-clause-reply
returns-in-Ok-clause-reply g c =
    told_reply (texts c.args.words.now) (plain_command c.args.command.now) _ _ _ c.in-Ok.reply.done (plain_puts c.in-Ok.reply.puts) c.in-Ok.reply.text c.requires c.in-Ok.ensures.reply

pub returns-in-Err-clause-reply : goal.returns-in-Err-clause-reply
returns-in-Err-clause-reply g c =
    told_stop (texts c.args.words.now) (plain_command c.args.command.now) _ _ _ c.in-Err.stop c.plain.result.done (plain_puts c.plain.result.puts) c.plain.result.text
    c.requires c.in-Err.ensures.stop (rw c.done.ensures.done at c.plain.ensures.done) c.plain.ensures.puts c.plain.ensures.text
