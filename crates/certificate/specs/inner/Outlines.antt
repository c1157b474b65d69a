-- An outline of the lines so far, and the tree so far beside it.
use Rattle.std.specs.Prelude.{ℕ, ℤ, List}
use Rattle.bip_model.specs.declared.answer.Node.{Node}
use Rattle.certificate.specs.declared.cert.Entry.{Entry}
use Rattle.certificate.specs.declared.cert.SparseSet.{SparseSet}
use Rattle.certificate.specs.declared.outline.Outline.{Outline}
use Rattle.certificate.specs.declared.stage.Stage.{Stage}

-- all that the lines so far say, and what they leave to come
pub record Draft : Type 0 where
  pub stage : Stage
  pub version : ℕ
  pub budget : ℕ
  pub config : List ℕ
  pub cost : ℕ
  pub bound : ℤ
  pub sets : List SparseSet
  pub sets_left : ℕ
  pub mu : ℕ
  pub entries : List Entry
  pub entries_left : ℕ
  pub least : ℕ
  pub spare : ℕ
  pub tree : List Node
  pub nodes_left : ℕ
  pub trees_left : ℕ

-- an outline with the tree
abbrev pub with_tree : Outline → List Node → Draft
with_tree outline tree = record {
  stage = outline.stage;
  version = outline.version;
  budget = outline.budget;
  config = outline.config;
  cost = outline.cost;
  bound = outline.bound;
  sets = outline.sets;
  sets_left = outline.sets_left;
  mu = outline.mu;
  entries = outline.entries;
  entries_left = outline.entries_left;
  least = outline.least;
  spare = outline.spare;
  tree = tree;
  nodes_left = outline.nodes_left;
  trees_left = outline.trees_left;
}
