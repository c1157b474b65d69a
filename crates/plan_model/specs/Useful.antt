-- Candidates that may be of use: each fits the budget alone, and gives some slot an interesting order for less than all
-- that exists.
use Rattle.std.specs.Prelude.{◌≡◌, ℕ, ◌-◌, ◌<◌, ◌≤◌, ◌↔◌, Bool, true, false, List, length, All, count_by, Some, slice_get, slice_index_or}
use Rattle.std.specs.List.{list_any}
use Rattle.adv_base.specs.declared.catalogue.index.IndexShape.{IndexShape}
use Rattle.adv_base.specs.declared.catalogue.table.Table.{Table}
use Rattle.adv_base.specs.declared.workload.Statement.{Statement}
use Rattle.adv_base.specs.declared.workload.block.Block.{Block}
use Rattle.adv_base.specs.declared.workload.parts.Slot.{Slot}
use Rattle.adv_base.specs.Items.{Order, BeginsWith, is_same_order}
use Rattle.adv_base.specs.Lookups.{table_at}
use Rattle.adv_base.specs.Offers.{offers, index_offer}
use Rattle.adv_base.specs.Settings.{TheSetting}
use Rattle.adv_base.specs.Sizes.{shape_pages}
use Rattle.plan_model.specs.declared.task.Task.{Task}
use Rattle.plan_model.specs.Orders.{interesting_orders}
use Rattle.plan_model.specs.BlockTask.{IsTaskOf}
use Rattle.plan_model.specs.Totals.{no_candidates, block_of}

-- at a slot of a block an index gives some interesting order, at a price below every existing offer that gives it
pub record IsCheaper (setting : TheSetting) (block : Block) (s : ℕ) (shape : IndexShape) : Type 0 where
  pub slot : Slot
  pub slot_found : slice_get block.slots s ≡ Some slot
  pub on_table : slot.table ≡ shape.table
  pub table : Table
  pub table_found : table_at setting.cat slot.table ≡ Some table
  pub task : Task
  pub task_is : IsTaskOf setting.cat block task
  pub order : Order
  pub interesting : list_any (is_same_order order) (interesting_orders task s) ≡ true
  pub gives : BeginsWith (index_offer setting.cat block s slot table shape).0 order
  pub below : All (λ offer. BeginsWith offer.0 order → (index_offer setting.cat block s slot table shape).1 < offer.1) (offers setting.cat block setting.shapes no_candidates s)

-- the candidate of a number, from 1
pub record IsUseful (setting : TheSetting) (budget a : ℕ) : Type 0 where
  pub some : 0 < a
  pub shape : IndexShape
  pub found : slice_get setting.shapes (a - 1) ≡ Some shape
  pub fits : shape_pages setting.cat shape ≤ budget
  pub number : ℕ
  pub statement : Statement
  pub statement_found : slice_get setting.statements number ≡ Some statement
  pub block : Block
  pub block_is : block_of statement.work ≡ Some block
  pub slot : ℕ
  pub cheaper : IsCheaper setting block slot shape

-- how many are useful
pub record AreUseful (setting : TheSetting) (budget count : ℕ) : Type 0 where
  pub flags : List Bool
  pub one_each : length flags ≡ length setting.shapes
  pub each : (a : ℕ) → 0 < a → (slice_index_or flags (a - 1) false ≡ true) ↔ IsUseful setting budget a
  pub counted : count ≡ count_by (λ flag. flag) flags
