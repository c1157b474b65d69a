-- The nodes of a tree in preorder, each with what the branches above it make of the candidates.
use Rattle.std.specs.Prelude.{ℕ, ℤ, List, [], ◌∷◌}
use Rattle.adv_base.specs.Nodes as nodes
use Rattle.adv_base.specs.Settings.{TheSetting}
use Rattle.plan_model.specs.Lagrangian.{TheMultipliers}
use Rattle.bip_model.specs.declared.answer.Node.{Node}
use Rattle.bip_model.specs.declared.answer.Node.TheVariants.{Branch, Bounded, Overfull}
use Rattle.bip_model.specs.Trees.{Rule, in_side, out_side, IsBranch, IsBounded, IsOverfull}

-- a node of a tree, and the node of the search at which it stands
pub record Visit : Type 0 where
  pub at : nodes.Node
  pub node : Node

-- Trees in preorder, one behind another; `starts` has the nodes of the search at which they begin.
abbrev pub visits : List nodes.Node → List Node → List Visit
visits starts [] = []
visits [] (node ∷ list) = []
visits (at ∷ starts) (Branch a ∷ list) = record { at = at; node = Branch a } ∷ visits (in_side at a ∷ out_side at a ∷ starts) list
visits (at ∷ starts) (Bounded k ∷ list) = record { at = at; node = Bounded k } ∷ visits starts list
visits (at ∷ starts) (Overfull ∷ list) = record { at = at; node = Overfull } ∷ visits starts list

-- what a node has to show where it stands: a branch, that its candidate is free; a leaf, its bound; one that is called
-- overfull, that it is, by a rule
abbrev pub IsRightAt : Rule → TheSetting → ℕ → ℤ → List TheMultipliers → nodes.Node → Node → Type 0
IsRightAt rule setting budget bound sets at (Branch a) = IsBranch setting at a
IsRightAt rule setting budget bound sets at (Bounded k) = IsBounded setting budget bound sets at k
IsRightAt rule setting budget bound sets at Overfull = IsOverfull rule setting budget at

abbrev pub IsRight : Rule → TheSetting → ℕ → ℤ → List TheMultipliers → Visit → Type 0
IsRight rule setting budget bound sets visit = IsRightAt rule setting budget bound sets visit.at visit.node
