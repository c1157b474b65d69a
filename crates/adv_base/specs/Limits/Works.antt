-- Limits of statements.
use Rattle.std.specs.Prelude.{◌≡◌, ℕ, ◌≤◌, true, false, List, length}
use Rattle.adv_base.specs.declared.limits.TheConstants.{MOST_ROWS, MOST_WEIGHT}
use Rattle.adv_base.specs.declared.workload.Work.{Work}
use Rattle.adv_base.specs.declared.workload.Work.TheVariants.{Select, Update, Delete, Insert}
use Rattle.adv_base.specs.declared.workload.block.Block.{Block}

-- a block that changes rows has one slot, and no index stands for the table there
pub record ChangeLimits (block : Block) : Type 0 where
  pub one_slot : length block.slots ≡ 1
  pub reads_table : block.may_cover ≡ false

pub record StatementLimits (weight : ℕ) (work : Work) : Type 0 where
  pub weight_least : 1 ≤ weight
  pub weight_most : weight ≤ MOST_WEIGHT
  pub selects : (block : Block) → work ≡ Select block → block.may_cover ≡ true
  pub updates : (block : Block) (columns : List ℕ) → work ≡ Update block columns → ChangeLimits block
  pub deletes : (block : Block) → work ≡ Delete block → ChangeLimits block
  pub inserts : (table rows : ℕ) → work ≡ Insert table rows → (1 ≤ rows) × (rows ≤ MOST_ROWS)
