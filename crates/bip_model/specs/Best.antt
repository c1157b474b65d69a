-- When the answer of a search is best: it is proved, wastes no node, and gives up only where its nodes are spent, with the
-- highest bound that its tree and its sets of multipliers show.
use Rattle.std.specs.Prelude.{◌≡◌, ℕ, suc, ◌+◌, ◌-◌, ◌^◌, ◌<◌, ◌≤◌, ◌==◌, not, true, false, List, [], ◌∷◌, ◌++◌, length, map, All, sum_by, count_by, Some, slice_get, slice_set, ℤ, pos, ◌≤ℤ◌, ◌<ℤ◌}
use Rattle.adv_base.specs.declared.limits.TheConstants.{MOST_ENTRIES, MOST_SETS}
use Rattle.adv_base.specs.declared.setting.Config.{Config}
use Rattle.adv_base.specs.Configs.{has_candidate, Fits}
use Rattle.adv_base.specs.Nodes as nodes
use Rattle.adv_base.specs.Settings.{TheSetting}
use Rattle.plan_model.specs.Lagrangian.{TheMultipliers, IsLagrangian}
use Rattle.plan_model.specs.Totals.{IsTotal}
use Rattle.plan_model.specs.Useful.{IsUseful, AreUseful}
use Rattle.bip_model.specs.declared.answer.Answer.{Answer}
use Rattle.bip_model.specs.declared.multipliers.Multipliers.{Multipliers}
use Rattle.bip_model.specs.Proves.{Proves}
use Rattle.bip_model.specs.Trees.{Tree, Branches, Leaf, Full, ByFit, with_candidate, in_side, out_side, zeros, set_at}
use Rattle.bip_model.specs.Uses.{multipliers_in, AreMultipliersIn, rent_multipliers}

-- ## Subproblems

-- a node of a tree: what it makes of each candidate, and the tree below it
pub record Subproblem : Type 0 where
  pub node : nodes.Node
  pub tree : Tree

-- the nodes of a tree from a root, in preorder
abbrev pub subproblems : nodes.Node → Tree → List Subproblem
subproblems node (Branches a inside outside) =
    record { node = node; tree = Branches a inside outside } ∷ (subproblems (in_side node a) inside ++ subproblems (out_side node a) outside)
subproblems node (Leaf k) = record { node = node; tree = Leaf k } ∷ []
subproblems node Full = record { node = node; tree = Full } ∷ []

-- ## What holds of a total, and of a Lagrangian value

pub record HasTotal (setting : TheSetting) (config : Config) (P : ℕ → Type 0) : Type 0 where
  pub total : ℕ
  pub total_is : IsTotal setting.cat setting.shapes config setting.statements total
  pub holds : P total

pub record HasLagrangian (setting : TheSetting) (budget : ℕ) (node : nodes.Node) (multipliers : TheMultipliers) (P : ℤ → Type 0) : Type 0 where
  pub value : ℤ
  pub value_is : IsLagrangian setting budget node multipliers value
  pub holds : P value

-- ## No node is wasted

-- A value is below the total of what is in at each of the first nodes, where that fits.
abbrev pub IsBelowTotals : TheSetting → ℕ → List Subproblem → ℕ → ℤ → Type 0
IsBelowTotals setting budget list count value =
    (k : ℕ) (earlier : Subproblem) → k < count → slice_get list k ≡ Some earlier →
    Fits setting.cat setting.shapes earlier.node.inside budget → HasTotal setting earlier.node.inside (λ total. value <ℤ pos total)

-- The branch at place i of the nodes names a candidate that is open and useful; and there the Lagrangian value without
-- rents is below the total of what is in at each fitting node up to it: something cheaper may be below.
pub record IsWorthwhile (setting : TheSetting) (budget : ℕ) (list : List Subproblem) (i : ℕ) (node : nodes.Node) (a : ℕ) : Type 0 where
  pub is_open : nodes.is_open setting.cat setting.shapes budget node a ≡ true
  pub useful : IsUseful setting budget a
  pub promising : HasLagrangian setting budget node zeros (IsBelowTotals setting budget list (suc i))

-- each branch is so
abbrev pub AreWorthwhile : TheSetting → ℕ → List Subproblem → Type 0
AreWorthwhile setting budget list =
    (i : ℕ) (subproblem : Subproblem) (a : ℕ) (inside outside : Tree) → slice_get list i ≡ Some subproblem →
    subproblem.tree ≡ Branches a inside outside → IsWorthwhile setting budget list i subproblem.node a

-- ## A search that gave up

-- a bounded leaf whose value is the bound, which no set of the answer and no set of zeros raises
pub record IsTight (setting : TheSetting) (budget : ℕ) (bound : ℤ) (sets : List TheMultipliers) (list : List Subproblem) : Type 0 where
  pub number : ℕ
  pub leaf : Subproblem
  pub leaf_found : slice_get list number ≡ Some leaf
  pub set : ℕ
  pub leaf_is : leaf.tree ≡ Leaf set
  pub multipliers : TheMultipliers
  pub set_found : set_at sets set ≡ Some multipliers
  pub value_is : IsLagrangian setting budget leaf.node multipliers bound
  pub highest : (k : ℕ) (other : TheMultipliers) → set_at sets k ≡ Some other → HasLagrangian setting budget leaf.node other (λ value. value ≤ℤ bound)

-- what the sets of an answer say of a setting
abbrev pub sets_in : TheSetting → Answer → List TheMultipliers
sets_in setting answer = map (multipliers_in setting) answer.sets

-- all nodes are spent but perhaps one, which no branch could use; they were fewer than a whole tree over the useful
-- candidates has; and the bound is as high as the tree and the sets show
pub record HasGivenUp (setting : TheSetting) (budget node_budget : ℕ) (answer : Answer) (list : List Subproblem) : Type 0 where
  pub spent : node_budget ≤ length answer.tree + 1
  pub fewer : node_budget < 2 ^ (answer.useful + 1) - 1
  pub tight : IsTight setting budget answer.bound (sets_in setting answer) list

-- ## No cheaper configuration was passed over

-- a configuration with one candidate less, which is numbered from 1
abbrev pub without_candidate : Config → ℕ → Config
without_candidate config a = record { on = slice_set config.on (a - 1) false }

-- no fitting configuration with one candidate more costs less, none with one less costs as little; only candidates that the
-- root leaves free are tried
pub record IsLocallyBest (setting : TheSetting) (budget : ℕ) (root : nodes.Node) (config : Config) (cost : ℕ) : Type 0 where
  pub with_one_more : (a : ℕ) → 1 ≤ a → a ≤ length setting.shapes → nodes.is_free root a ≡ true → has_candidate config a ≡ false →
      Fits setting.cat setting.shapes (with_candidate config a) budget → HasTotal setting (with_candidate config a) (λ total. cost ≤ total)
  pub with_one_less : (a : ℕ) → nodes.is_free root a ≡ true → has_candidate config a ≡ true →
      HasTotal setting (without_candidate config a) (λ total. cost < total)

-- what is in at a node of the tree, where it fits, costs no less
abbrev pub NoneCostsLess : TheSetting → ℕ → List Subproblem → ℕ → Type 0
NoneCostsLess setting budget list cost =
    (i : ℕ) (subproblem : Subproblem) → slice_get list i ≡ Some subproblem →
    Fits setting.cat setting.shapes subproblem.node.inside budget → HasTotal setting subproblem.node.inside (λ total. cost ≤ total)

-- ## Rents and limits

-- the bound at the root under the rent multipliers of a price of a page is no higher
abbrev pub IsAtLeastRents : TheSetting → ℕ → nodes.Node → ℤ → ℕ → Type 0
IsAtLeastRents setting budget root bound page =
    HasLagrangian setting budget root (rent_multipliers setting page) (λ value. value ≤ℤ bound)

-- the rents that aren't 0
abbrev pub entry_count : List Multipliers → ℕ
entry_count sets = sum_by (λ set. count_by (λ rent. not (rent == 0)) set.lambda) sets

-- the sets of an answer keep their limits, those of a certificate
pub record AreSets (setting : TheSetting) (sets : List Multipliers) : Type 0 where
  pub most : length sets ≤ MOST_SETS
  pub each : All (AreMultipliersIn setting) sets
  pub entries_most : entry_count sets ≤ MOST_ENTRIES

-- ## Best

-- An answer of a search from a root with a space budget, in pages, and a budget of nodes is best.
pub record IsBest (setting : TheSetting) (budget node_budget : ℕ) (root : nodes.Node) (answer : Answer) : Type 0 where
  -- it is proved, its configuration obeys the root, and its bound is at most its cost
  pub proves : Proves ByFit setting budget root answer.config answer.cost answer.bound (sets_in setting answer) answer.tree
  pub obeys : nodes.IsBelow root answer.config
  pub bound_most : answer.bound ≤ℤ pos answer.cost
  -- no node is wasted, and there are no more than the budget
  pub worthwhile : AreWorthwhile setting budget (subproblems root proves.shown.tree)
  pub nodes_most : length answer.tree ≤ node_budget
  -- where the bound is below the cost, the search gave up
  pub gave_up : answer.bound <ℤ pos answer.cost →
      HasGivenUp setting budget node_budget answer (subproblems root proves.shown.tree)
  -- no cheaper configuration was passed over
  pub locally_best : IsLocallyBest setting budget root answer.config answer.cost
  pub in_tree : NoneCostsLess setting budget (subproblems root proves.shown.tree) answer.cost
  -- the bound is at least those of the 41 rent multipliers, whose prices of a page are 0 and the powers of 2 below 2^40
  pub rents_none : IsAtLeastRents setting budget root answer.bound 0
  pub rents : (j : ℕ) → j < 40 → IsAtLeastRents setting budget root answer.bound (2 ^ j)
  -- the count of useful candidates, and the limits
  pub useful : AreUseful setting budget answer.useful
  pub limits : AreSets setting answer.sets
