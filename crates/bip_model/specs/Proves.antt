-- What proves that a configuration is best, or near it.
use Rattle.std.specs.Prelude.{◌≡◌, ℕ, ◌-◌, ◌<◌, List, All, Some, slice_get, ℤ}
use Rattle.adv_base.specs.declared.catalogue.index.IndexShape.{IndexShape}
use Rattle.adv_base.specs.declared.setting.Config.{Config}
use Rattle.adv_base.specs.declared.workload.Statement.{Statement}
use Rattle.adv_base.specs.declared.workload.block.Block.{Block}
use Rattle.adv_base.specs.declared.workload.parts.Slot.{Slot}
use Rattle.adv_base.specs.Configs.{IsConfigOf, Fits}
use Rattle.adv_base.specs.Nodes as nodes
use Rattle.adv_base.specs.Settings.{TheSetting}
use Rattle.plan_model.specs.Lagrangian.{TheMultipliers}
use Rattle.plan_model.specs.Totals.{no_candidates, block_of, IsTotal}
use Rattle.bip_model.specs.declared.answer.Node.{Node}
use Rattle.bip_model.specs.Trees.{Tree, Rule, preorder, Shows}

-- statement q has a slot s, and candidate a is on its table
pub record NamesUse (setting : TheSetting) (q s a : ℕ) : Type 0 where
  pub some_statement : 0 < q
  pub statement : Statement
  pub statement_found : slice_get setting.statements (q - 1) ≡ Some statement
  pub block : Block
  pub block_is : block_of statement.work ≡ Some block
  pub slot : Slot
  pub slot_found : slice_get block.slots s ≡ Some slot
  pub some_candidate : 0 < a
  pub shape : IndexShape
  pub shape_found : slice_get setting.shapes (a - 1) ≡ Some shape
  pub on_table : shape.table ≡ slot.table

-- only uses of candidates have rents
abbrev pub RentsUses : TheSetting → TheMultipliers → Type 0
RentsUses setting multipliers = (q s a : ℕ) → 0 < multipliers.rent q s a → NamesUse setting q s a

-- a list is a tree that shows a bound below a node, by a rule of what is overfull
pub record IsShownBy (rule : Rule) (setting : TheSetting) (budget : ℕ) (bound : ℤ) (sets : List TheMultipliers) (root : nodes.Node) (list : List Node) : Type 0 where
  pub tree : Tree
  pub list_is : list ≡ preorder tree
  pub shows : Shows rule setting budget bound sets root tree

-- the node at which each candidate is free
abbrev pub free_node : nodes.Node
free_node = record { inside = no_candidates; outside = no_candidates }

-- A configuration of candidates that fits the budget, its cost, and a bound that sets of multipliers and a tree from the
-- root show, by a rule of what is overfull.
pub record Proves (rule : Rule) (setting : TheSetting) (budget : ℕ) (root : nodes.Node) (config : Config) (cost : ℕ) (bound : ℤ) (sets : List TheMultipliers) (list : List Node) : Type 0 where
  pub members : IsConfigOf setting.shapes config
  pub fits : Fits setting.cat setting.shapes config budget
  pub cost_is : IsTotal setting.cat setting.shapes config setting.statements cost
  pub rents : All (RentsUses setting) sets
  pub shown : IsShownBy rule setting budget bound sets root list
