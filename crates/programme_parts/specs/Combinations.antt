-- How many combinations of interesting orders blocks have.
use Rattle.std.specs.Prelude.{◌≡◌, ℕ, ◌-◌, ◌<◌, ◌≤◌, List, All, take, Some, slice_get}
use Rattle.adv_base.specs.declared.catalogue.Catalogue.{Catalogue}
use Rattle.adv_base.specs.declared.limits.TheConstants.{MOST_COMBINATIONS}
use Rattle.adv_base.specs.declared.workload.Statement.{Statement}
use Rattle.adv_base.specs.declared.workload.block.Block.{Block}
use Rattle.plan_model.specs.declared.task.Task.{Task}
use Rattle.plan_model.specs.BlockTask.{IsTaskOf}
use Rattle.plan_model.specs.Orders.{combinations}
use Rattle.plan_model.specs.Totals.{block_of}

-- the task of a block has so many combinations
pub record HasCombinations (cat : Catalogue) (block : Block) (count : ℕ) : Type 0 where
  pub task : Task
  pub task_is : IsTaskOf cat block task
  pub count_is : combinations task ≡ count

-- a block has no more of them than a cache takes
abbrev pub IsFew : Catalogue → Block → Type 0
IsFew cat block = (count : ℕ) → HasCombinations cat block count → count ≤ MOST_COMBINATIONS

-- so it is with the block of a statement, if it has one
abbrev pub HasFew : Catalogue → Statement → Type 0
HasFew cat statement = (block : Block) → block_of statement.work ≡ Some block → IsFew cat block

-- and with every statement
abbrev pub AreFew : Catalogue → List Statement → Type 0
AreFew cat statements = All (HasFew cat) statements

-- the block of a statement has more, and so many
pub record IsBeyond (cat : Catalogue) (statement : Statement) (count : ℕ) : Type 0 where
  pub block : Block
  pub block_is : block_of statement.work ≡ Some block
  pub has : HasCombinations cat block count
  pub beyond : MOST_COMBINATIONS < count

-- statement number n, from 1, is the first whose block has more, and it has so many
pub record IsFirstBeyond (cat : Catalogue) (statements : List Statement) (n count : ℕ) : Type 0 where
  pub from_one : 1 ≤ n
  pub statement : Statement
  pub found : slice_get statements (n - 1) ≡ Some statement
  pub is : IsBeyond cat statement count
  pub few_before : AreFew cat (take (n - 1) statements)
