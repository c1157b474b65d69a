use Rattle.std.proofs.Common.{arith}
use Rattle.adv_base.proofs.LineLaws.{line-none}
use Rattle.adv_base.proofs.lines.first_line.Goals as goal

pub returns-else-len-bytes : goal.returns-else-len-bytes
returns-else-len-bytes c = λ line rest.
    line-none c.args.bytes.now line rest (λ k within. c.line_len-len.ensures.before k (omega (arith, c.if-len-bytes.false)))
