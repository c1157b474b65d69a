-- Trees of a search for a configuration, and what a tree shows.
use Rattle.std.specs.Prelude.{◌≡◌, ℕ, zero, suc, ◌-◌, ◌<◌, ◌≤◌, true, List, [], ◌∷◌, ◌++◌, length, Option, Some, slice_get, slice_set, ℤ, ◌≤ℤ◌}
use Rattle.adv_base.specs.declared.setting.Config.{Config}
use Rattle.adv_base.specs.Configs.{config_pages, Fits}
use Rattle.adv_base.specs.Nodes as nodes
use Rattle.adv_base.specs.Settings.{TheSetting}
use Rattle.plan_model.specs.Lagrangian.{TheMultipliers, IsLagrangian}
use Rattle.bip_model.specs.declared.answer.Node.{Node}
use Rattle.bip_model.specs.declared.answer.Node.TheVariants.{Branch, Bounded, Overfull}

-- a tree: a branch on a candidate, with the side where it is in and that where it is out; a leaf with the number of its set
-- of multipliers; a leaf that doesn't fit
pub data Tree : Type 0 where
  Branches : ℕ → Tree → Tree → Tree
  Leaf : ℕ → Tree
  Full : Tree

-- a tree as the list of its nodes in preorder
abbrev pub preorder : Tree → List Node
preorder (Branches a inside outside) = Branch a ∷ (preorder inside ++ preorder outside)
preorder (Leaf k) = Bounded k ∷ []
preorder Full = Overfull ∷ []

-- a configuration with one candidate more, which is numbered from 1
abbrev pub with_candidate : Config → ℕ → Config
with_candidate config a = record { on = slice_set config.on (a - 1) true }

-- the sides of a branch
abbrev pub in_side : nodes.Node → ℕ → nodes.Node
in_side node a = record { inside = with_candidate node.inside a; outside = node.outside }

abbrev pub out_side : nodes.Node → ℕ → nodes.Node
out_side node a = record { inside = node.inside; outside = with_candidate node.outside a }

-- the multipliers that are all 0
abbrev pub zeros : TheMultipliers
zeros = record { rent = λ q s a. 0; page = 0 }

-- the set of a number: 0 is that of zeros, k the k-th of the sets
abbrev pub set_at : List TheMultipliers → ℕ → Option TheMultipliers
set_at sets zero = Some zeros
set_at sets (suc k) = slice_get sets k

-- the Lagrangian value of a node under the set of a number is at least the bound
pub record IsBounded (setting : TheSetting) (budget : ℕ) (bound : ℤ) (sets : List TheMultipliers) (node : nodes.Node) (k : ℕ) : Type 0 where
  pub multipliers : TheMultipliers
  pub found : set_at sets k ≡ Some multipliers
  pub value : ℤ
  pub value_is : IsLagrangian setting budget node multipliers value
  pub at_least : bound ≤ℤ value

-- a branch names a candidate that is free at its node
pub record IsBranch (setting : TheSetting) (node : nodes.Node) (a : ℕ) : Type 0 where
  pub some : 1 ≤ a
  pub within : a ≤ length setting.shapes
  pub free : nodes.is_free node a ≡ true

-- by what a leaf may be called overfull: by the pages of what is in there alone, or as that doesn't fit
pub data Rule : Type 0 where
  ByPages : Rule
  ByFit : Rule

-- what is in at a node is too much: its pages exceed the budget, or it doesn't fit, as two of it may clash, too
abbrev pub IsOverfull : Rule → TheSetting → ℕ → nodes.Node → Type 0
IsOverfull ByPages setting budget node = budget < config_pages setting.cat setting.shapes node.inside
IsOverfull ByFit setting budget node = ¬ (Fits setting.cat setting.shapes node.inside budget)

-- A tree shows a bound below a node: each branch names a candidate that is free there, each leaf is bounded, and each that
-- is called overfull is so, by a rule.
abbrev pub Shows : Rule → TheSetting → ℕ → ℤ → List TheMultipliers → nodes.Node → Tree → Type 0
Shows rule setting budget bound sets node (Branches a inside outside) =
    IsBranch setting node a × Shows rule setting budget bound sets (in_side node a) inside × Shows rule setting budget bound sets (out_side node a) outside
Shows rule setting budget bound sets node (Leaf k) = IsBounded setting budget bound sets node k
Shows rule setting budget bound sets node Full = IsOverfull rule setting budget node
