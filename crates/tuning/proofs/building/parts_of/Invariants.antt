use Rattle.std.proofs.Common.{take}
use Rattle.adv_base.specs.Settings.{the_setting}
use Rattle.programme_parts.specs.Combinations.{AreFew}
use Rattle.programme_parts.specs.Parts.{ArePartsBelow}
use Rattle.tuning.proofs.building.parts_of.Given as goal

abbrev pub invariant-loop-at : goal.invariant-loop-at
invariant-loop-at l =
    record {
      parts : ArePartsBelow (the_setting l.setting) l.at l.parts.items;
      few : AreFew l.setting.cat.now (take l.at l.setting.statements.now);
    }
