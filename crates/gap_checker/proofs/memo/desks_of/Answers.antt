use Rattle.std.proofs.Common.{take}
use Rattle.bip_model.proofs.Lists.{each-more}
use Rattle.gap_checker.specs.inner.Parts as kept
use Rattle.gap_checker.proofs.Lists.{take-next}
use Rattle.gap_checker.proofs.memo.desks_of.Goals as goal

pub loop-part-preserved : goal.loop-part-preserved
loop-part-preserved c =
    let parts = c.args.parts.now in
    let i = c.loop-part.part-index in
    rw (take-next parts i c.part-item.result c.loop-part-test.true c.part-item.is, c.in_ok-push.ensures.items)
    (each-more kept.IsDeskOf (take i parts) c.loop-part.desks.items c.part-item.result c.in_ok-desk.desk c.loop-part.invariant c.in_ok-desk.ensures)
