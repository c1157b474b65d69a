use Rattle.certificate.proofs.TreeLaws.{trees-preorders, tree-preorder, one-tree}
use Rattle.certificate.proofs.laws.whole_trees_are_preorders.Goals as goal

pub returns-clause-many : goal.returns-clause-many
returns-clause-many c = trees-preorders

pub returns-clause-whole : goal.returns-clause-whole
returns-clause-whole c = tree-preorder

pub returns-clause-once : goal.returns-clause-once
returns-clause-once c = one-tree
