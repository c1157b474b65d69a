-- Laws of lines of rules, and of what is answered.
use Rattle.std.specs.Prelude.{◌≡◌, ◌↔◌, ℕ, List, Ok, Err}
use Rattle.adv_base.specs.declared.setting.Config.{Config}
use Rattle.adv_base.specs.Configs.{Fits}
use Rattle.adv_base.specs.Nodes as nodes
use Rattle.adv_base.specs.Settings.{TheSetting}
use Rattle.dba_rules.specs.declared.fault.RuleFault.{RuleFault}
use Rattle.dba_rules.specs.declared.fault.RuleFault.TheVariants.{BadLine}
use Rattle.dba_rules.specs.declared.line.Rule.{Rule}
use Rattle.dba_rules.specs.Lines.{IsRule, rule_in}
use Rattle.dba_rules.specs.Settled.{IsFault, IsFirstBroken}

-- a line is read as a rule exactly where it is spelled so
abbrev pub LinesAreSpelled : Type 0
LinesAreSpelled = (number : ℕ) (line : List ℕ) (rule : Rule) → (rule_in number line ≡ Ok rule) ↔ IsRule line rule

-- each other line is a bad one
abbrev pub OthersAreBad : Type 0
OthersAreBad = (number : ℕ) (line : List ℕ) → ((rule : Rule) → ¬ (IsRule line rule)) → rule_in number line ≡ Err (BadLine number)

-- of what has to be at most one fault is told, and none where it fits
pub record OneFault : Type 0 where
  pub one : (setting : TheSetting) (config : Config) (budget : ℕ) (fault other : RuleFault) → IsFault setting config budget fault → IsFault setting config budget other → other ≡ fault
  pub none : (setting : TheSetting) (config : Config) (budget : ℕ) (fault : RuleFault) → IsFault setting config budget fault →
      Fits setting.cat setting.shapes config budget → ⊥

-- at most one candidate is told at which a configuration isn't below a node, and none where it is
pub record OneBroken : Type 0 where
  pub one : (node : nodes.Node) (config : Config) (a b : ℕ) → IsFirstBroken node config a → IsFirstBroken node config b → a ≡ b
  pub none : (node : nodes.Node) (config : Config) (a : ℕ) → IsFirstBroken node config a → nodes.IsBelow node config → ⊥
