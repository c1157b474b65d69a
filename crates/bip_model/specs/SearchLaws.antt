-- Theorems that a search over a programme stands on.
use Rattle.std.specs.Prelude.{◌≡◌, ◌≢◌, ◌↔◌, ℕ, ◌+◌, ◌^◌, ◌≤◌, true, List, length, Some, slice_get, ℤ, pos, ◌≤ℤ◌, ◌<ℤ◌}
use Rattle.adv_base.specs.declared.limits.TheConstants.{MOST_CANDIDATES}
use Rattle.adv_base.specs.Configs.{space_of, config_pages, IsConfigOf, Fits}
use Rattle.adv_base.specs.Nodes as nodes
use Rattle.adv_base.specs.Settings.{TheSetting, KeepsLimits}
use Rattle.plan_model.specs.Lagrangian.{TheMultipliers, IsLagrangian}
use Rattle.plan_model.specs.Useful.{IsUseful, AreUseful}
use Rattle.bip_model.specs.declared.multipliers.Multipliers.{Multipliers}
use Rattle.bip_model.specs.declared.programme.Programme.{Programme}
use Rattle.bip_model.specs.Best.{Subproblem, subproblems, AreWorthwhile, NoneCostsLess, IsTight}
use Rattle.bip_model.specs.Candidates as candidates
use Rattle.bip_model.specs.Laws.{RentsWithin}
use Rattle.bip_model.specs.StandsFor.{StandsFor}
use Rattle.bip_model.specs.Trees.{Tree, Full}
use Rattle.bip_model.specs.Uses.{multipliers_in, AreMultipliersIn}
use Rattle.bip_model.specs.Views.{space_in, multipliers_of, AreMultipliers}

-- ## What a programme decides

-- the space: so the pages of a configuration, whether it fits, and which candidates are open or available at a node
abbrev pub SpaceIsDecided : Type 0
SpaceIsDecided =
    (setting : TheSetting) (programme : Programme) (budget : ℕ) → StandsFor setting programme →
    space_of setting.cat setting.shapes budget ≡ space_in programme budget

-- which are useful, and how many
abbrev pub UsefulIsDecided : Type 0
UsefulIsDecided =
    (setting : TheSetting) (programme : Programme) (budget a : ℕ) → StandsFor setting programme →
    (candidates.is_useful programme budget a ≡ true) ↔ IsUseful setting budget a

abbrev pub UsefulAreCounted : Type 0
UsefulAreCounted =
    (setting : TheSetting) (programme : Programme) (budget : ℕ) → StandsFor setting programme →
    AreUseful setting budget (candidates.useful_below programme budget (length programme.sizes))

-- multipliers of its grants are multipliers of the setting's uses
abbrev pub GrantsAreUses : Type 0
GrantsAreUses =
    (setting : TheSetting) (programme : Programme) (multipliers : Multipliers) → StandsFor setting programme →
    multipliers_of programme multipliers ≡ multipliers_in setting multipliers

abbrev pub LimitsAreThose : Type 0
LimitsAreThose =
    (setting : TheSetting) (programme : Programme) (multipliers : Multipliers) → StandsFor setting programme →
    AreMultipliers programme multipliers → AreMultipliersIn setting multipliers

-- ## What trees keep whose branches are on open and useful candidates

-- no Lagrangian value falls below that of the root
abbrev pub ValuesNeverFall : Type 0
ValuesNeverFall =
    (setting : TheSetting) (budget : ℕ) (root : nodes.Node) (tree : Tree) (multipliers : TheMultipliers) (above value : ℤ) (i : ℕ) (s : Subproblem) →
    RentsWithin multipliers → AreWorthwhile setting budget (subproblems root tree) → slice_get (subproblems root tree) i ≡ Some s →
    IsLagrangian setting budget root multipliers above → IsLagrangian setting budget s.node multipliers value → above ≤ℤ value

-- the pages of what is in are within the budget at every node, where they are at the root
abbrev pub NodesHaveSpace : Type 0
NodesHaveSpace =
    (setting : TheSetting) (budget : ℕ) (root : nodes.Node) (tree : Tree) (i : ℕ) (s : Subproblem) →
    AreWorthwhile setting budget (subproblems root tree) → config_pages setting.cat setting.shapes root.inside ≤ budget →
    slice_get (subproblems root tree) i ≡ Some s → config_pages setting.cat setting.shapes s.node.inside ≤ budget

-- what is in fits at each node that isn't called overfull
abbrev pub NodesFit : TheSetting → ℕ → List Subproblem → Type 0
NodesFit setting budget list =
    (i : ℕ) (s : Subproblem) → slice_get list i ≡ Some s → (s.tree ≢ Full) → Fits setting.cat setting.shapes s.node.inside budget

-- a node has a flag for each candidate that there may be
pub record IsWhole (node : nodes.Node) : Type 0 where
  pub inside : length node.inside.on ≡ MOST_CANDIDATES
  pub outside : length node.outside.on ≡ MOST_CANDIDATES

-- A tree with a tight leaf below the cost, at whose nodes but the overfull ones what is in fits, has at least two nodes fewer
-- than a whole tree over the useful candidates, which has 2^(useful + 1) - 1.
abbrev pub TreesStaySmall : Type 0
TreesStaySmall =
    (setting : TheSetting) (budget useful : ℕ) (root : nodes.Node) (tree : Tree) (sets : List TheMultipliers) (bound : ℤ) (cost : ℕ) →
    KeepsLimits setting → AreUseful setting budget useful → IsWhole root → IsConfigOf setting.shapes root.inside →
    NodesFit setting budget (subproblems root tree) → AreWorthwhile setting budget (subproblems root tree) →
    NoneCostsLess setting budget (subproblems root tree) cost → IsTight setting budget bound sets (subproblems root tree) →
    bound <ℤ pos cost → length (subproblems root tree) + 3 ≤ 2 ^ (useful + 1)
