-- The tables and columns that a block, a statement or an index shape names exist in a catalogue.
use Rattle.std.specs.Prelude.{◌≡◌, ℕ, ◌<◌, nat_lt, Bool, true, List, length, All}
use Rattle.std.specs.Option.{ForSome}
use Rattle.adv_base.specs.declared.catalogue.Catalogue.{Catalogue}
use Rattle.adv_base.specs.declared.catalogue.index.IndexShape.{IndexShape}
use Rattle.adv_base.specs.declared.workload.Work.{Work}
use Rattle.adv_base.specs.declared.workload.Work.TheVariants.{Select, Update, Delete, Insert}
use Rattle.adv_base.specs.declared.workload.block.Block.{Block}
use Rattle.adv_base.specs.declared.workload.parts.Edge.{Edge}
use Rattle.adv_base.specs.declared.workload.parts.Item.{Item}
use Rattle.adv_base.specs.declared.workload.parts.Item.TheVariants.{Up, Down, Made}
use Rattle.adv_base.specs.declared.workload.parts.Slot.{Slot}
use Rattle.adv_base.specs.declared.workload.predicate.Pred.{Pred}
use Rattle.adv_base.specs.declared.workload.predicate.Test.TheVariants.{Same}
use Rattle.adv_base.specs.Lookups.{column_count, slot_columns}

pub record NamesSlot (cat : Catalogue) (slot : Slot) : Type 0 where
  pub table : slot.table < length cat.tables
  pub needed : All (λ column. column < column_count cat slot.table) slot.needed

pub record NamesPred (cat : Catalogue) (block : Block) (pred : Pred) : Type 0 where
  pub column : pred.column < slot_columns cat block pred.slot
  pub same : (other : ℕ) → pred.test ≡ Same other → other < slot_columns cat block pred.slot

pub record NamesEdge (cat : Catalogue) (block : Block) (edge : Edge) : Type 0 where
  pub left : edge.left_column < slot_columns cat block edge.left
  pub right : edge.right_column < slot_columns cat block edge.right

-- a made item names no column
abbrev pub names_item : Catalogue → Block → Item → Bool
names_item cat block (Up slot column) = nat_lt column (slot_columns cat block slot)
names_item cat block (Down slot column) = nat_lt column (slot_columns cat block slot)
names_item cat block (Made number) = true

abbrev pub NamesItems : Catalogue → Block → List Item → Type 0
NamesItems cat block items = All (λ item. names_item cat block item ≡ true) items

pub record NamesBlock (cat : Catalogue) (block : Block) : Type 0 where
  pub slots : All (NamesSlot cat) block.slots
  pub preds : All (NamesPred cat block) block.preds
  pub edges : All (NamesEdge cat block) block.edges
  pub group : ForSome block.group (NamesItems cat block)
  pub order : NamesItems cat block block.order

-- an update sets columns of its slot
pub record NamesUpdate (cat : Catalogue) (block : Block) (columns : List ℕ) : Type 0 where
  pub block_named : NamesBlock cat block
  pub set : All (λ column. column < slot_columns cat block 0) columns

pub record NamesWork (cat : Catalogue) (work : Work) : Type 0 where
  pub selects : (block : Block) → work ≡ Select block → NamesBlock cat block
  pub updates : (block : Block) (columns : List ℕ) → work ≡ Update block columns → NamesUpdate cat block columns
  pub deletes : (block : Block) → work ≡ Delete block → NamesBlock cat block
  pub inserts : (table rows : ℕ) → work ≡ Insert table rows → table < length cat.tables

pub record NamesShape (cat : Catalogue) (shape : IndexShape) : Type 0 where
  pub table : shape.table < length cat.tables
  pub keys : All (λ key. key < column_count cat shape.table) shape.keys
