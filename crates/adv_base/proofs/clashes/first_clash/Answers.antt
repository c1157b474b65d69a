use Rattle.std.proofs.Common.{arith}
use Rattle.adv_base.proofs.Clashing.{none_more, none_at_all}
use Rattle.adv_base.proofs.clashes.first_clash.Goals as goal

pub loop-second-preserved : goal.loop-second-preserved
loop-second-preserved c = none_more c.args.shapes.now c.args.config.now c.loop-second.second c.loop-second.invariant c.in_default.ensures

pub returns : goal.returns
returns c = none_at_all c.args.shapes.now c.args.config.now c.loop-second.second (omega (arith, c.has_all_flags.ensures, c.loop-second-test.false)) c.loop-second.invariant
