-- Laws of alike statements, and of folded workloads.
use Rattle.std.specs.Prelude.{◌≡◌, ◌↔◌, ℕ, true, List}
use Rattle.adv_base.specs.declared.catalogue.Catalogue.{Catalogue}
use Rattle.adv_base.specs.declared.catalogue.index.IndexShape.{IndexShape}
use Rattle.adv_base.specs.declared.setting.Config.{Config}
use Rattle.adv_base.specs.declared.workload.Statement.{Statement}
use Rattle.adv_base.specs.declared.workload.Work.{Work}
use Rattle.adv_base.specs.declared.workload.block.Block.{Block}
use Rattle.adv_base.specs.Offers.{offers}
use Rattle.adv_base.specs.Upkeep.{upkeep}
use Rattle.candidates.specs.Proposals.{work_proposals}
use Rattle.candidates.specs.Candidates.{fresh_proposals, AreCandidates}
use Rattle.plan_model.specs.declared.task.Task.{Task}
use Rattle.plan_model.specs.BlockTask.{IsTaskOf}
use Rattle.plan_model.specs.Totals.{IsCost, IsTotal}
use Rattle.workload_fold.specs.Alike.{alike_blocks, is_alike}
use Rattle.workload_fold.specs.Groups.{IsFolded}

-- ## Of two statements that are alike

-- they propose the same indexes
abbrev pub ProposeTheSame : Type 0
ProposeTheSame = (cat : Catalogue) (p q : Work) → is_alike cat p q ≡ true → work_proposals cat p ≡ work_proposals cat q

-- blocks that are alike have one task
abbrev pub HaveOneTask : Type 0
HaveOneTask = (cat : Catalogue) (a b : Block) (task : Task) → alike_blocks cat a b ≡ true → IsTaskOf cat a task ↔ IsTaskOf cat b task

-- and the same offers under every configuration
abbrev pub HaveOneTable : Type 0
HaveOneTable =
    (cat : Catalogue) (shapes : List IndexShape) (config : Config) (a b : Block) → alike_blocks cat a b ≡ true →
    offers cat a shapes config ≡ offers cat b shapes config

-- they cost as much to keep at every index
abbrev pub HaveOneUpkeep : Type 0
HaveOneUpkeep = (cat : Catalogue) (p q : Work) (shape : IndexShape) → is_alike cat p q ≡ true → upkeep cat p shape ≡ upkeep cat q shape

-- so they cost the same under every configuration
abbrev pub HaveOneCost : Type 0
HaveOneCost =
    (cat : Catalogue) (shapes : List IndexShape) (config : Config) (p q : Work) (cost : ℕ) → is_alike cat p q ≡ true →
    IsCost cat shapes config p cost ↔ IsCost cat shapes config q cost

-- ## Of a workload and its folding

-- they have the same candidates, and as many are left over
abbrev pub FoldingKeepsCandidates : Type 0
FoldingKeepsCandidates =
    (cat : Catalogue) (statements folded : List Statement) → IsFolded cat statements folded → fresh_proposals cat statements ≡ fresh_proposals cat folded

abbrev pub FoldingKeepsLeftOver : Type 0
FoldingKeepsLeftOver =
    (cat : Catalogue) (statements folded : List Statement) (shapes : List IndexShape) (left_over : ℕ) → IsFolded cat statements folded →
    AreCandidates cat statements shapes left_over ↔ AreCandidates cat folded shapes left_over

-- and one total under every configuration
abbrev pub FoldingKeepsTotals : Type 0
FoldingKeepsTotals =
    (cat : Catalogue) (shapes : List IndexShape) (config : Config) (statements folded : List Statement) (total : ℕ) →
    IsFolded cat statements folded → IsTotal cat shapes config statements total ↔ IsTotal cat shapes config folded total
