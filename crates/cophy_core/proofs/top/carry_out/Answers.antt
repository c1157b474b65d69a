use Rattle.command_line.specs.CommandLine.{texts}
use Rattle.cophy_core.specs.Endings.{outside, plain_puts}
use Rattle.cophy_core.specs.Files.{counts}
use Rattle.cophy_core.proofs.CauseLemmas as cause
use Rattle.cophy_core.proofs.top.carry_out.Goals as goal

pub returns-clause-run : goal.returns-clause-run
returns-clause-run g c =
    let shelf = c.give.new.shelf in
    let out = c.give.new.out in
    let new = outside (g.S.Shelf.files shelf) (counts (g.S.Shelf.read_faults shelf) (g.S.Shelf.read_faults_at shelf)) (g.S.Shelf.put_faults shelf) (g.O.Sink.written out) (g.O.Sink.faults out) in
    let same = cause.same_counts _ _ _ _ c.give.ensures.reads c.give.ensures.reads_at in
    cause.run_of (texts c.args.words.now) _ _ _ _ _ _ _ _ new c.reply-reply.result.done (plain_puts c.reply-reply.result.puts) c.reply-reply.result.text c.give.result
    c.reply-reply.ensures.files c.reply-reply.ensures.puts same c.reply-reply.ensures.reply c.give.ensures.ends

pub returns-clause-bound : goal.returns-clause-bound
returns-clause-bound g c =
    cause.bound _ _ c.reply-reply.result.done (plain_puts c.reply-reply.result.puts) c.reply-reply.result.text c.give.result c.give.ensures.ends c.reply-reply.ensures.bound
