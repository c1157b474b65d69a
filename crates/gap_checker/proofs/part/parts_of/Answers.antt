use Rattle.std.proofs.Common.{take}
use Rattle.adv_base.specs.Settings.{the_setting}
use Rattle.bip_model.proofs.Lists.{each-more}
use Rattle.gap_checker.specs.inner.Parts as kept
use Rattle.gap_checker.proofs.Lists.{take-next}
use Rattle.gap_checker.proofs.part.parts_of.Goals as goal

pub loop-statement-preserved : goal.loop-statement-preserved
loop-statement-preserved c =
    let ss = c.args.setting.now.statements.now in
    let i = c.loop-statement.statement-index in
    rw (take-next ss i c.statement-item.result c.loop-statement-test.true c.statement-item.is, c.in_ok-push.ensures.items)
    (each-more (kept.HasPart (the_setting c.args.setting.now)) (take i ss) c.loop-statement.parts.items c.statement-item.result c.in_ok-part.part c.loop-statement.invariant c.in_ok-part.ensures)
