-- Parts of statements.
use Rattle.std.specs.Prelude.{ℕ, List, take}
use Rattle.adv_base.specs.declared.workload.block.Block.{Block}
use Rattle.adv_base.specs.Settings.{TheSetting}
use Rattle.bip_model.specs.declared.part.Part.{Part}
use Rattle.bip_model.specs.StandsFor.{AreEach, Blocked, IsPart, blocked_from}
use Rattle.programme_parts.specs.Kept.{HasKept}

-- a statement with a block
abbrev pub blocked : ℕ → ℕ → Block → Blocked
blocked number weight block = record { number = number; weight = weight; block = block }

-- the parts of the first k statements
pub record ArePartsBelow (setting : TheSetting) (k : ℕ) (parts : List Part) : Type 0 where
  pub parts_are : AreEach (IsPart setting) (blocked_from 1 (take k setting.statements)) parts
  pub kept : AreEach (HasKept setting.cat) (blocked_from 1 (take k setting.statements)) parts
