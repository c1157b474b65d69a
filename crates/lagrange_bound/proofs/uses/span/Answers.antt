use Rattle.std.proofs.Common.{◌+◌, arith}
use Rattle.lagrange_bound.proofs.FlatSlots.{starts-order}
use Rattle.lagrange_bound.proofs.uses.span.Goals as goal

pub returns-then-i-parts-clause-order : goal.returns-then-i-parts-clause-order
returns-then-i-parts-clause-order c =
    let first = c.requires.starts c.args.i c.requires.within in
    let second = c.requires.starts (c.args.i + 1) c.if-i-parts.true in
    let order = starts-order c.args.parts.now c.args.i c.requires.within in
    omega (arith, first, second, order)
