-- How many combinations of interesting orders a block has; and that a setting has one programme.
use Rattle.std.specs.Prelude.{◌≡◌, ℕ}
use Rattle.adv_base.specs.declared.catalogue.Catalogue.{Catalogue}
use Rattle.adv_base.specs.declared.workload.block.Block.{Block}
use Rattle.adv_base.specs.Named.{NamesBlock}
use Rattle.adv_base.specs.Settings.{TheSetting}
use Rattle.bip_model.specs.declared.programme.Programme.{Programme}
use Rattle.bip_model.specs.StandsFor.{AreEach, blocked_from, StandsFor}
use Rattle.programme_parts.specs.Combinations.{HasCombinations}
use Rattle.programme_parts.specs.Kept.{HasKept}

-- a number, where the catalogue has what the block names
abbrev pub BlocksHaveACount : Type 0
BlocksHaveACount = (cat : Catalogue) (block : Block) → NamesBlock cat block → (count : ℕ) × HasCombinations cat block count

-- and no other number
abbrev pub BlocksHaveNoOther : Type 0
BlocksHaveNoOther =
    (cat : Catalogue) (block : Block) (first second : ℕ) →
    HasCombinations cat block first → HasCombinations cat block second → first ≡ second

-- a programme stands for a setting, and its parts have the templates that are kept
pub record IsProgrammeOf (setting : TheSetting) (programme : Programme) : Type 0 where
  pub stands : StandsFor setting programme
  pub kept : AreEach (HasKept setting.cat) (blocked_from 1 setting.statements) programme.parts

-- a setting has one such programme at most
abbrev pub ProgrammesAreOne : Type 0
ProgrammesAreOne = (setting : TheSetting) (x y : Programme) → IsProgrammeOf setting x → IsProgrammeOf setting y → x ≡ y
