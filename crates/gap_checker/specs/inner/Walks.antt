-- From node to node.
use Rattle.std.specs.Prelude.{◌≡◌, ℕ, ◌+◌, ◌-◌, ◌≤◌, true, List, ◌∷◌}
use Rattle.adv_base.specs.declared.limits.TheConstants.{MOST_CANDIDATES}
use Rattle.adv_base.specs.Nodes as nodes
use Rattle.bip_model.specs.declared.answer.Node.{Node}
use Rattle.bip_model.specs.declared.answer.Node.TheVariants.{Branch, Bounded, Overfull}
use Rattle.bip_model.specs.Trees.{in_side, out_side}

-- where the trees behind a node start
abbrev pub sides : nodes.Node → Node → List nodes.Node → List nodes.Node
sides at (Branch a) starts = in_side at a ∷ out_side at a ∷ starts
sides at (Bounded k) starts = starts
sides at Overfull starts = starts

-- a branch's candidate is free
abbrev pub HasSides : nodes.Node → Node → Type 0
HasSides at (Branch a) = (1 ≤ a) × (a ≤ MOST_CANDIDATES) × (nodes.is_free at a ≡ true)
HasSides at (Bounded k) = Unit {0}
HasSides at Overfull = Unit {0}

-- how many trees start behind a node
abbrev pub trees_after : ℕ → Node → ℕ
trees_after trees (Branch a) = trees + 1
trees_after trees (Bounded k) = trees - 1
trees_after trees Overfull = trees - 1

-- so many nodes may make so many trees, as far as their counts say
pub record TreesFit (trees left : ℕ) : Type 0 where
  pub few : trees ≤ left
  pub none : trees ≡ 0 → left ≡ 0
