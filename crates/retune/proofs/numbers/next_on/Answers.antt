use Rattle.std.proofs.Common.{◌∙◌, arith}
use Rattle.retune.proofs.Numbering.{until-other}
use Rattle.retune.proofs.numbers.next_on.Goals as goal

pub loop-at-preserved : goal.loop-at-preserved
loop-at-preserved c =
    until-other c.args.shapes.now c.args.table c.loop-at.at c.index-shapes-at.result (omega arith)
    c.if-shapes-at.false
    ∙ c.loop-at.invariant
