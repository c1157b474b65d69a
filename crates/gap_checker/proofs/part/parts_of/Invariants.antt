use Rattle.std.proofs.Common.{take}
use Rattle.bip_model.specs.StandsFor.{AreEach}
use Rattle.adv_base.specs.Settings.{the_setting}
use Rattle.gap_checker.specs.inner.Parts as kept
use Rattle.gap_checker.proofs.part.parts_of.Given as goal

abbrev pub invariant-loop-statement : goal.invariant-loop-statement
invariant-loop-statement l =
    AreEach (kept.HasPart (the_setting l.setting)) (take l.statement-index l.setting.statements.now) l.parts.items
