-- What a statement holds, without the proofs of its limits.
use Rattle.std.specs.Prelude.{ℕ, Bool, List, map, Option}
use Rattle.adv_base.specs.declared.workload.Statement.{Statement}
use Rattle.adv_base.specs.declared.workload.Work.{Work}
use Rattle.adv_base.specs.declared.workload.Work.TheVariants as works
use Rattle.adv_base.specs.declared.workload.block.Block.{Block}
use Rattle.adv_base.specs.declared.workload.parts.Edge.{Edge}
use Rattle.adv_base.specs.declared.workload.parts.Item.{Item}
use Rattle.adv_base.specs.declared.workload.parts.Slot.{Slot}
use Rattle.adv_base.specs.declared.workload.predicate.Pred.{Pred}
use Rattle.adv_base.specs.declared.workload.predicate.Test.{Test}

pub record PlainPred : Type 0 where
  pub slot : ℕ
  pub column : ℕ
  pub test : Test

pub record PlainEdge : Type 0 where
  pub left : ℕ
  pub left_column : ℕ
  pub right : ℕ
  pub right_column : ℕ

pub record PlainBlock : Type 0 where
  pub slots : List Slot
  pub preds : List PlainPred
  pub edges : List PlainEdge
  pub group : Option (List Item)
  pub order : List Item
  pub may_cover : Bool

pub data PlainWork : Type 0 where
  Select : PlainBlock → PlainWork
  Update : PlainBlock → List ℕ → PlainWork
  Delete : PlainBlock → PlainWork
  Insert : ℕ → ℕ → PlainWork

pub record PlainStatement : Type 0 where
  pub weight : ℕ
  pub work : PlainWork

abbrev pub plain_pred : Pred → PlainPred
plain_pred x = record { slot = x.slot; column = x.column; test = x.test }

abbrev pub plain_edge : Edge → PlainEdge
plain_edge x = record { left = x.left; left_column = x.left_column; right = x.right; right_column = x.right_column }

abbrev pub plain_preds : List Pred → List PlainPred
plain_preds xs = map plain_pred xs

abbrev pub plain_edges : List Edge → List PlainEdge
plain_edges xs = map plain_edge xs

abbrev pub plain_block : Block → PlainBlock
plain_block x = record { slots = x.slots; preds = plain_preds x.preds; edges = plain_edges x.edges; group = x.group; order = x.order; may_cover = x.may_cover }

abbrev pub plain_work : Work → PlainWork
plain_work (works.Select block) = Select (plain_block block)
plain_work (works.Update block columns) = Update (plain_block block) columns
plain_work (works.Delete block) = Delete (plain_block block)
plain_work (works.Insert table rows) = Insert table rows

abbrev pub plain_statement : Statement → PlainStatement
plain_statement x = record { weight = x.weight; work = plain_work x.work }

abbrev pub plain_statements : List Statement → List PlainStatement
plain_statements xs = map plain_statement xs
