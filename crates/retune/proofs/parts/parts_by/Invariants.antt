use Rattle.adv_base.specs.Settings.{the_setting}
use Rattle.programme_parts.specs.Parts.{ArePartsBelow}
use Rattle.retune.proofs.parts.parts_by.Given as goal

abbrev pub invariant-loop-at : goal.invariant-loop-at
invariant-loop-at l = ArePartsBelow (the_setting l.setting) l.at l.parts.items
