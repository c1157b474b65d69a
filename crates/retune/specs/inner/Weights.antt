-- Programmes in which one statement gets another weight.
use Rattle.std.specs.Prelude.{◌≡◌, ℕ, suc, ◌≤◌, ◌==◌, if◌then◌else◌, List, [], ◌∷◌}
use Rattle.adv_base.specs.declared.workload.Statement.{Statement}
use Rattle.adv_base.specs.Settings.{TheSetting}
use Rattle.bip_model.specs.declared.part.Part.{Part}

-- the same with other statements
abbrev pub with_statements : TheSetting → List Statement → TheSetting
with_statements setting statements = record { cat = setting.cat; statements = statements; shapes = setting.shapes }

-- a part, where the statement of a number gets a weight
pub record IsPartBy (number weight : ℕ) (old new : Part) : Type 0 where
  pub statement_is : new.statement ≡ old.statement
  pub weight_is : new.weight ≡ (if old.statement == number then weight else old.weight)
  pub templates_are : new.templates ≡ old.templates
  pub slots_are : new.slots ≡ old.slots

-- the numbers of parts rise, from a least one on
abbrev pub RiseFrom : ℕ → List Part → Type 0
RiseFrom least [] = Unit {0}
RiseFrom least (part ∷ parts) = (least ≤ part.statement) × RiseFrom (suc part.statement) parts
