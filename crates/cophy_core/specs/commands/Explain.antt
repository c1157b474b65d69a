-- What `explain` answers: a least plan of one statement under a configuration.
use Rattle.std.specs.Prelude.{◌≡◌, ◌+◌, ◌-◌, ℕ, List, [], length, slice_get, Option, Some, None}
use Rattle.access_paths.specs.Labels.{slot_labels, column_labels, offer_labels}
use Rattle.adv_base.specs.declared.setting.Config.{Config}
use Rattle.adv_base.specs.declared.workload.Statement.{Statement}
use Rattle.adv_base.specs.declared.workload.Work.{Work}
use Rattle.adv_base.specs.declared.workload.block.Block.{Block}
use Rattle.adv_base.specs.Offers.{offers}
use Rattle.adv_base.specs.Upkeep.{kept_upkeep, config_upkeep}
use Rattle.plan_model.specs.declared.labels.Labels.{Labels}
use Rattle.plan_model.specs.declared.plan.Whole.{Whole}
use Rattle.plan_model.specs.declared.task.Task.{Task}
use Rattle.plan_model.specs.BlockTask.{IsTaskOf}
use Rattle.plan_model.specs.Costs.{whole_cost}
use Rattle.plan_model.specs.Least.{Least}
use Rattle.plan_model.specs.Plans.{IsWhole}
use Rattle.plan_model.specs.PlanTexts.{whole_lines}
use Rattle.plan_model.specs.Totals.{block_of}
use Rattle.adv_base.specs.Settings.{TheSetting}
use Rattle.report.specs.declared.done.Done.{Done}
use Rattle.report.specs.declared.done.Done.TheVariants.{Explained as ExplainedDone}
use Rattle.report.specs.declared.done.Explained.{Explained}
use Rattle.report.specs.declared.done.Refusal.{Refusal}
use Rattle.report.specs.declared.done.Refusal.TheVariants.{NoStatement, BadConf}
use Rattle.cophy_core.specs.Confs.{IsConf, IsConfFault}

-- there are only so many statements, and the one of that number isn't among them
pub record LacksStatement (statements : List Statement) (number count : ℕ) : Type 0 where
  pub counts : count ≡ length statements
  pub beyond : slice_get statements (number - 1) ≡ None

-- the statement of that number is there, and that line of the configuration is the first that breaks a rule
pub record HasBadConf (setting : TheSetting) (conf : List ℕ) (number line : ℕ) : Type 0 where
  pub statement : Statement
  pub statement_is : slice_get setting.statements (number - 1) ≡ Some statement
  pub first : IsConfFault (length setting.shapes) conf line

-- no statement of that number; a line of the configuration
abbrev pub Refuses : ℕ → List ℕ → TheSetting → Refusal → Type 0
Refuses number conf setting (NoStatement n count) = (n ≡ number) × LacksStatement setting.statements number count
Refuses number conf setting (BadConf line) = HasBadConf setting conf number line
Refuses number conf setting why = ⊥

-- the words by which the plans of a block are told
pub record AreLabelsOf (setting : TheSetting) (config : Config) (block : Block) (labels : Labels) : Type 0 where
  pub slots : labels.slots ≡ slot_labels block
  pub columns : labels.columns ≡ column_labels setting.cat block
  pub offers_are : labels.offers ≡ offer_labels setting.cat block setting.shapes config

-- A least plan of a block over its indexes and a configuration's: it is valid and whole, it costs what is said, no valid
-- whole plan costs less, and the text has its lines.
pub record ExplainsBlock (setting : TheSetting) (config : Config) (block : Block) (explained : Explained) : Type 0 where
  pub task : Task
  pub plan : Whole
  pub labels : Labels
  pub task_is : IsTaskOf setting.cat block task
  pub labels_are : AreLabelsOf setting config block labels
  pub plan_is : explained.plan ≡ Some plan
  pub valid : IsWhole task (offers setting.cat block setting.shapes config) plan
  pub costs : whole_cost task (offers setting.cat block setting.shapes config) plan ≡ explained.cost
  pub least : Least task (offers setting.cat block setting.shapes config) explained.cost
  pub lines : explained.text ≡ whole_lines task (offers setting.cat block setting.shapes config) labels plan

-- an INSERT has no plan, so no cost of one and no lines
pub record ExplainsInsert (explained : Explained) : Type 0 where
  pub no_plan : explained.plan ≡ None
  pub no_cost : explained.cost ≡ 0
  pub no_lines : explained.text ≡ []

-- by a plan of the block that a statement has
abbrev pub ExplainsBy : TheSetting → Config → Option Block → Explained → Type 0
ExplainsBy setting config (Some block) explained = ExplainsBlock setting config block explained
ExplainsBy setting config None explained = ExplainsInsert explained

-- the statement of a number is explained, with the upkeep of all indexes
pub record Explains (setting : TheSetting) (config : Config) (number : ℕ) (work : Work) (explained : Explained) : Type 0 where
  pub number_is : explained.number ≡ number
  pub by_plan : ExplainsBy setting config (block_of work) explained
  pub upkeep_is : explained.upkeep ≡ kept_upkeep setting.cat work + config_upkeep setting.cat setting.shapes config work

-- the statement of the number is explained under the configuration that the bytes give
pub record ExplainsOne (number : ℕ) (conf : List ℕ) (setting : TheSetting) (explained : Explained) : Type 0 where
  pub statement : Statement
  pub config : Config
  pub statement_is : slice_get setting.statements (number - 1) ≡ Some statement
  pub config_is : IsConf (length setting.shapes) conf config
  pub explains : Explains setting config number statement.work explained

-- an explained plan
abbrev pub Gives : ℕ → List ℕ → TheSetting → Done → Type 0
Gives number conf setting (ExplainedDone explained) = ExplainsOne number conf setting explained
Gives number conf setting done = ⊥
