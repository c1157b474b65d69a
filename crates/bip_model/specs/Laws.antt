-- Theorems about programmes that stand for a setting, and about trees that show bounds.
use Rattle.std.specs.Prelude.{◌≡◌, ℕ, true, List, ℤ, pos, ◌≤ℤ◌}
use Rattle.adv_base.specs.declared.setting.Config.{Config}
use Rattle.adv_base.specs.Configs.{IsConfigOf, Fits}
use Rattle.adv_base.specs.Laws.{IsRent}
use Rattle.adv_base.specs.Named.{NamesBlock}
use Rattle.adv_base.specs.Nodes as nodes
use Rattle.adv_base.specs.Settings.{TheSetting, KeepsLimits}
use Rattle.plan_model.specs.Lagrangian.{TheMultipliers, IsLagrangian, IsAtMost}
use Rattle.plan_model.specs.Totals.{IsTotal, IsBlockCost}
use Rattle.plan_model.specs.Useful.{IsUseful}
use Rattle.bip_model.specs.declared.part.Part.{Part}
use Rattle.bip_model.specs.declared.programme.Programme.{Programme}
use Rattle.bip_model.specs.Values.{part_cost, value}
use Rattle.bip_model.specs.declared.answer.Node.{Node}
use Rattle.bip_model.specs.StandsFor.{Blocked, IsPart, StandsFor}
use Rattle.bip_model.specs.Trees.{Tree, Rule, zeros, in_side, out_side, IsBranch, Shows}
use Rattle.bip_model.specs.Proves.{free_node, Proves}

-- the value of a programme is the total of its setting, for every configuration
abbrev pub ValueIsTotal : Type 0
ValueIsTotal =
    (setting : TheSetting) (programme : Programme) (config : Config) → KeepsLimits setting → StandsFor setting programme →
    IsTotal setting.cat setting.shapes config setting.statements (value programme config)

-- the cost of a part is that of a least plan of its block
abbrev pub PartCostIsLeast : Type 0
PartCostIsLeast =
    (setting : TheSetting) (blocked : Blocked) (part : Part) (config : Config) → NamesBlock setting.cat blocked.block → IsPart setting blocked part →
    IsBlockCost setting.cat setting.shapes config blocked.block (part_cost part config)

-- a cost is a configuration's total in each setting that a programme stands for
abbrev pub IsTotalInEach : Programme → Config → ℕ → Type 0
IsTotalInEach programme config cost =
    (setting : TheSetting) → KeepsLimits setting → StandsFor setting programme →
    IsTotal setting.cat setting.shapes config setting.statements cost

-- and that of a least plan for each block that a part is of
abbrev pub IsBlockCostInEach : Part → Config → ℕ → Type 0
IsBlockCostInEach part config cost =
    (setting : TheSetting) (blocked : Blocked) → NamesBlock setting.cat blocked.block → IsPart setting blocked part →
    IsBlockCost setting.cat setting.shapes config blocked.block cost

-- What a tree shows below a node is at most the total of every fitting configuration below it; so is the least of the
-- Lagrangian values of its bounded leaves.
abbrev pub TreesBound : Type 0
TreesBound =
    (rule : Rule) (setting : TheSetting) (budget : ℕ) (bound : ℤ) (sets : List TheMultipliers) (node : nodes.Node) (tree : Tree) (config : Config) (total : ℕ) →
    KeepsLimits setting → Shows rule setting budget bound sets node tree → IsConfigOf setting.shapes config →
    Fits setting.cat setting.shapes config budget → nodes.IsBelow node config →
    IsTotal setting.cat setting.shapes config setting.statements total → IsAtMost bound total

-- what is proved bounds the total of every fitting configuration below the root
abbrev pub ProofsBound : Type 0
ProofsBound =
    (rule : Rule) (setting : TheSetting) (budget : ℕ) (root : nodes.Node) (config : Config) (cost : ℕ) (bound : ℤ) (sets : List TheMultipliers) (list : List Node) (other : Config) (total : ℕ) →
    KeepsLimits setting → Proves rule setting budget root config cost bound sets list → IsConfigOf setting.shapes other →
    Fits setting.cat setting.shapes other budget → nodes.IsBelow root other →
    IsTotal setting.cat setting.shapes other setting.statements total → IsAtMost bound total

-- each fitting configuration costs at least the bound, and the bound is at most a cost
pub record BoundsAll (setting : TheSetting) (budget cost : ℕ) (bound : ℤ) : Type 0 where
  pub all : (other : Config) (total : ℕ) → IsConfigOf setting.shapes other → Fits setting.cat setting.shapes other budget →
      IsTotal setting.cat setting.shapes other setting.statements total → IsAtMost bound total
  pub own : IsAtMost bound cost

-- where the root leaves every candidate free, that is every fitting configuration, the proved one among them
abbrev pub FreeProofsBound : Type 0
FreeProofsBound =
    (rule : Rule) (setting : TheSetting) (budget : ℕ) (config : Config) (cost : ℕ) (bound : ℤ) (sets : List TheMultipliers) (list : List Node) →
    KeepsLimits setting → Proves rule setting budget free_node config cost bound sets list → BoundsAll setting budget cost bound

-- each rent is within its limit
abbrev pub RentsWithin : TheMultipliers → Type 0
RentsWithin multipliers = (q : ℕ) → IsRent (multipliers.rent q)

-- to make a free candidate out never lowers the Lagrangian value
abbrev pub OutNeverLowers : Type 0
OutNeverLowers =
    (setting : TheSetting) (budget : ℕ) (node : nodes.Node) (a : ℕ) (multipliers : TheMultipliers) (before after : ℤ) →
    RentsWithin multipliers → IsBranch setting node a →
    IsLagrangian setting budget node multipliers before → IsLagrangian setting budget (out_side node a) multipliers after → before ≤ℤ after

-- nor does it to make an open one in
abbrev pub InNeverLowers : Type 0
InNeverLowers =
    (setting : TheSetting) (budget : ℕ) (node : nodes.Node) (a : ℕ) (multipliers : TheMultipliers) (before after : ℤ) →
    RentsWithin multipliers → IsBranch setting node a → nodes.is_open setting.cat setting.shapes budget node a ≡ true →
    IsLagrangian setting budget node multipliers before → IsLagrangian setting budget (in_side node a) multipliers after → before ≤ℤ after

-- no open candidate is useful
abbrev pub NoneUseful : TheSetting → ℕ → nodes.Node → Type 0
NoneUseful setting budget node = (a : ℕ) → nodes.is_open setting.cat setting.shapes budget node a ≡ true → IsUseful setting budget a → ⊥

-- then the Lagrangian value without rents is the total of the candidates that are in
abbrev pub NoneUsefulIsTotal : Type 0
NoneUsefulIsTotal =
    (setting : TheSetting) (budget : ℕ) (node : nodes.Node) (value : ℤ) (count : ℕ) → KeepsLimits setting →
    IsConfigOf setting.shapes node.inside → NoneUseful setting budget node → IsLagrangian setting budget node zeros value →
    IsTotal setting.cat setting.shapes node.inside setting.statements count → value ≡ pos count
