use Rattle.std.proofs.Common.{take}
use Rattle.bip_model.specs.StandsFor.{AreEach}
use Rattle.gap_checker.specs.inner.Parts as kept
use Rattle.gap_checker.proofs.memo.desks_of.Given as goal

abbrev pub invariant-loop-part : goal.invariant-loop-part
invariant-loop-part l = AreEach kept.IsDeskOf (take l.part-index l.parts) l.desks.items
