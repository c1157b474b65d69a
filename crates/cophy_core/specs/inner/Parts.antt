-- The parts of a programme, one statement after the other.
use Rattle.std.specs.Prelude.{ℕ, ◌+◌, List, drop}
use Rattle.adv_base.specs.Settings.{TheSetting}
use Rattle.bip_model.specs.declared.part.Part.{Part}
use Rattle.bip_model.specs.StandsFor.{AreEach, IsPart, blocked_from}

-- those of the statements behind the first `at`
abbrev pub ArePartsFrom : TheSetting → ℕ → List Part → Type 0
ArePartsFrom setting at parts = AreEach (IsPart setting) (blocked_from (at + 1) (drop at setting.statements)) parts
