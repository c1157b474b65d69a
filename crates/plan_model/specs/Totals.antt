-- What statements and a workload cost under a configuration.
use Rattle.std.specs.Prelude.{◌≡◌, ℕ, ◌+◌, ◌*◌, ◌<◌, ◌≤◌, false, List, [], ◌∷◌, length, replicate, All, Some}
use Rattle.adv_base.specs.declared.catalogue.Catalogue.{Catalogue}
use Rattle.adv_base.specs.declared.catalogue.index.IndexShape.{IndexShape}
use Rattle.adv_base.specs.declared.limits.TheConstants.{MOST_CANDIDATES, MOST_STATEMENTS}
use Rattle.adv_base.specs.declared.setting.Config.{Config}
use Rattle.adv_base.specs.declared.workload.Statement.{Statement}
use Rattle.adv_base.specs.declared.workload.Work.{Work}
use Rattle.adv_base.specs.declared.workload.Work.TheVariants.{Select, Update, Delete, Insert}
use Rattle.adv_base.specs.declared.workload.block.Block.{Block}
use Rattle.adv_base.specs.Offers.{offers}
use Rattle.adv_base.specs.OfferTables.{OfferTableLimits}
use Rattle.adv_base.specs.Upkeep.{kept_upkeep, config_upkeep}
pub use Rattle.adv_base.specs.Works.{block_of}
use Rattle.plan_model.specs.declared.plan.TheConstants.{MOST_TOTAL}
use Rattle.plan_model.specs.declared.task.Task.{Task}
use Rattle.plan_model.specs.BlockTask.{IsTaskOf}
use Rattle.plan_model.specs.Least.{Least}

-- no candidate
abbrev pub no_candidates : Config
no_candidates = record { on = replicate MOST_CANDIDATES false }

-- the cost of a least plan of a block under a configuration
pub record IsBlockCost (cat : Catalogue) (shapes : List IndexShape) (config : Config) (block : Block) (cost : ℕ) : Type 0 where
  pub task : Task
  pub task_is : IsTaskOf cat block task
  pub least : Least task (offers cat block shapes config) cost

-- a statement's part that its plan costs; an INSERT has no plan
abbrev pub IsPlanCost : Catalogue → List IndexShape → Config → Work → ℕ → Type 0
IsPlanCost cat shapes config (Select block) cost = IsBlockCost cat shapes config block cost
IsPlanCost cat shapes config (Update block columns) cost = IsBlockCost cat shapes config block cost
IsPlanCost cat shapes config (Delete block) cost = IsBlockCost cat shapes config block cost
IsPlanCost cat shapes config (Insert table rows) cost = cost ≡ 0

-- the cost of a statement, without its weight: its plan and the upkeep of all indexes
pub record IsCost (cat : Catalogue) (shapes : List IndexShape) (config : Config) (work : Work) (cost : ℕ) : Type 0 where
  pub plan : ℕ
  pub plan_is : IsPlanCost cat shapes config work plan
  pub sum : cost ≡ plan + (kept_upkeep cat work + config_upkeep cat shapes config work)

-- the cost of each statement
abbrev pub AreCosts : Catalogue → List IndexShape → Config → List Statement → List ℕ → Type 0
AreCosts cat shapes config [] [] = Unit {0}
AreCosts cat shapes config (statement ∷ statements) (cost ∷ costs) =
    IsCost cat shapes config statement.work cost × AreCosts cat shapes config statements costs
AreCosts cat shapes config statements costs = ⊥

-- the sum of weight times cost
abbrev pub weighted_sum : List Statement → List ℕ → ℕ
weighted_sum [] costs = 0
weighted_sum (statement ∷ statements) [] = 0
weighted_sum (statement ∷ statements) (cost ∷ costs) = statement.weight * cost + weighted_sum statements costs

-- what the workload costs under the configuration
pub record IsTotal (cat : Catalogue) (shapes : List IndexShape) (config : Config) (statements : List Statement) (total : ℕ) : Type 0 where
  pub costs : List ℕ
  pub costs_are : AreCosts cat shapes config statements costs
  pub sum : total ≡ weighted_sum statements costs

-- the offers of each statement's block keep their limits
abbrev pub OffersKeepLimits : Catalogue → List IndexShape → Config → List Statement → Type 0
OffersKeepLimits cat shapes config statements =
    All (λ statement. (block : Block) → block_of statement.work ≡ Some block → OfferTableLimits (offers cat block shapes config)) statements

-- a workload's total is less than 10^31
abbrev pub TotalStaysBelow : Type 0
TotalStaysBelow =
    (cat : Catalogue) (shapes : List IndexShape) (config : Config) (statements : List Statement) (total : ℕ) →
    length shapes ≤ MOST_CANDIDATES → length statements ≤ MOST_STATEMENTS → OffersKeepLimits cat shapes config statements →
    IsTotal cat shapes config statements total → total < MOST_TOTAL
