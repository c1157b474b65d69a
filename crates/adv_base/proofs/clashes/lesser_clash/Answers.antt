use Rattle.std.proofs.Common.{arith}
use Rattle.adv_base.proofs.Clashing.{no_lesser}
use Rattle.adv_base.proofs.clashes.lesser_clash.Goals as goal

pub returns : goal.returns
returns c =
    no_lesser c.args.shapes.now c.args.config.now c.args.second (λ k low high. c.loop-first.invariant k low (omega (arith, high, c.loop-first-test.false)))
