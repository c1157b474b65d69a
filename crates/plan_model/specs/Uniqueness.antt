-- What is one: the task of a block, and each cost.
use Rattle.std.specs.Prelude.{◌≡◌, ℕ, List, ℤ}
use Rattle.adv_base.specs.declared.catalogue.Catalogue.{Catalogue}
use Rattle.adv_base.specs.declared.catalogue.index.IndexShape.{IndexShape}
use Rattle.adv_base.specs.declared.setting.Config.{Config}
use Rattle.adv_base.specs.declared.workload.Statement.{Statement}
use Rattle.adv_base.specs.declared.workload.Work.{Work}
use Rattle.adv_base.specs.declared.workload.block.Block.{Block}
use Rattle.adv_base.specs.Nodes.{Node}
use Rattle.adv_base.specs.Settings.{TheSetting}
use Rattle.plan_model.specs.declared.task.Task.{Task}
use Rattle.plan_model.specs.BlockTask.{IsTaskOf}
use Rattle.plan_model.specs.Lagrangian.{TheMultipliers, IsLagrangian}
use Rattle.plan_model.specs.Totals.{IsBlockCost, IsCost, IsTotal}

-- a block has one task
abbrev pub TaskIsOne : Type 0
TaskIsOne = (cat : Catalogue) (block : Block) (first second : Task) → IsTaskOf cat block first → IsTaskOf cat block second → first ≡ second

-- its least plans have one cost
abbrev pub BlockCostIsOne : Type 0
BlockCostIsOne =
    (cat : Catalogue) (shapes : List IndexShape) (config : Config) (block : Block) (first second : ℕ) →
    IsBlockCost cat shapes config block first → IsBlockCost cat shapes config block second → first ≡ second

-- a statement has one cost
abbrev pub CostIsOne : Type 0
CostIsOne =
    (cat : Catalogue) (shapes : List IndexShape) (config : Config) (work : Work) (first second : ℕ) →
    IsCost cat shapes config work first → IsCost cat shapes config work second → first ≡ second

-- and a workload one total
abbrev pub TotalIsOne : Type 0
TotalIsOne =
    (cat : Catalogue) (shapes : List IndexShape) (config : Config) (statements : List Statement) (first second : ℕ) →
    IsTotal cat shapes config statements first → IsTotal cat shapes config statements second → first ≡ second

-- a node has one Lagrangian value under multipliers
abbrev pub LagrangianIsOne : Type 0
LagrangianIsOne =
    (setting : TheSetting) (budget : ℕ) (node : Node) (multipliers : TheMultipliers) (first second : ℤ) →
    IsLagrangian setting budget node multipliers first → IsLagrangian setting budget node multipliers second → first ≡ second
