-- Lists of nodes as trees.
use Rattle.std.specs.Prelude.{◌≡◌, ◌↔◌, ℕ, List, [], ◌∷◌, ◌++◌, length}
use Rattle.bip_model.specs.declared.answer.Node.{Node}
use Rattle.bip_model.specs.Trees.{Tree, preorder}
use Rattle.certificate.specs.Limits.{AreTrees}

-- trees one behind another, each in preorder
abbrev pub preorders : List Tree → List Node
preorders [] = []
preorders (tree ∷ trees) = preorder tree ++ preorders trees

-- a list is so many trees in preorder
pub record ArePreorders (count : ℕ) (nodes : List Node) : Type 0 where
  pub trees : List Tree
  pub count_is : length trees ≡ count
  pub nodes_are : nodes ≡ preorders trees

-- a list is a tree in preorder
pub record IsPreorder (nodes : List Node) : Type 0 where
  pub tree : Tree
  pub nodes_are : nodes ≡ preorder tree

-- nodes are so many whole trees exactly where they are so many trees in preorder
abbrev pub TreesArePreorders : Type 0
TreesArePreorders = (count : ℕ) (nodes : List Node) → AreTrees count nodes ↔ ArePreorders count nodes

-- so of one tree
abbrev pub TreeIsPreorder : Type 0
TreeIsPreorder = (nodes : List Node) → AreTrees 1 nodes ↔ IsPreorder nodes

-- a tree is told by its list
abbrev pub OneTree : Type 0
OneTree = (tree other : Tree) → preorder tree ≡ preorder other → tree ≡ other
