-- Whether the candidates that rules make in can be, and what obeys rules. Candidates are numbered from 1.
use Rattle.std.specs.Prelude.{◌≡◌, ℕ, ◌<◌, ◌≤◌, ◌-◌, Bool, true, false, not, ◌&&◌, ◌||◌}
use Rattle.adv_base.specs.declared.setting.Config.{Config}
use Rattle.adv_base.specs.Configs.{has_candidate, config_pages, IsFirstClash}
use Rattle.adv_base.specs.Nodes as nodes
use Rattle.adv_base.specs.Settings.{TheSetting}
use Rattle.dba_rules.specs.declared.fault.RuleFault.{RuleFault}
use Rattle.dba_rules.specs.declared.fault.RuleFault.TheVariants as faults

-- ## What has to be

-- why a configuration can't be within a budget of pages: its pages exceed it, or else two of its members clash
abbrev pub IsFault : TheSetting → Config → ℕ → RuleFault → Type 0
IsFault setting config budget (faults.TooLarge size over) =
    (size ≡ config_pages setting.cat setting.shapes config) × (over ≡ budget) × (budget < config_pages setting.cat setting.shapes config)
IsFault setting config budget (faults.Clash first second) =
    (config_pages setting.cat setting.shapes config ≤ budget) × IsFirstClash setting.shapes config first second
IsFault setting config budget fault = ⊥

-- ## What obeys

-- a configuration lacks a candidate that is in, or has one that is out
abbrev pub is_broken : nodes.Node → Config → ℕ → Bool
is_broken node config a = (has_candidate node.inside a && not (has_candidate config a)) || (has_candidate node.outside a && has_candidate config a)

-- the least candidate at which it isn't
pub record IsFirstBroken (node : nodes.Node) (config : Config) (number : ℕ) : Type 0 where
  pub is : is_broken node config number ≡ true
  pub first : (a : ℕ) → a < number → is_broken node config a ≡ false
