-- What is kept of each statement for its searches.
use Rattle.std.specs.Prelude.{◌≡◌, true, replicate, List, Option, Some, None}
use Rattle.adv_base.specs.declared.limits.TheConstants.{MOST_CANDIDATES, MOST_INDEX_PRICE}
use Rattle.adv_base.specs.declared.setting.Config.{Config}
use Rattle.adv_base.specs.declared.workload.Statement.{Statement}
use Rattle.adv_base.specs.declared.workload.block.Block.{Block}
use Rattle.adv_base.specs.OfferTables.{PricesWithin}
use Rattle.adv_base.specs.Settings.{TheSetting}
use Rattle.bip_model.specs.StandsFor.{AreEach}
use Rattle.access_paths.specs.ConfigOffers.{AreOffersOf, table_of}
use Rattle.plan_model.specs.BlockTask.{IsTaskOf}
use Rattle.plan_model.specs.Totals.{block_of}
use Rattle.gap_checker.specs.declared.part.Part.{Part}
use Rattle.gap_checker.specs.declared.desk.Desk.{Desk}

-- the configuration of all candidates
abbrev pub every_candidate : Config
every_candidate = record { on = replicate MOST_CANDIDATES true }

-- the task of a block, and its offers under all candidates
pub record IsPart (setting : TheSetting) (block : Block) (part : Part) : Type 0 where
  pub task_is : IsTaskOf setting.cat block part.task
  pub offers_are : AreOffersOf setting.cat block setting.shapes every_candidate part.offers.slots.items
  pub prices : PricesWithin MOST_INDEX_PRICE (table_of part.offers.slots.items)

-- the same of the statement's block, where it has one
pub record IsPlanned (setting : TheSetting) (statement : Statement) (part : Part) : Type 0 where
  pub block : Block
  pub block_is : block_of statement.work ≡ Some block
  pub part_is : IsPart setting block part

abbrev pub HasPart : TheSetting → Statement → Option Part → Type 0
HasPart setting statement None = block_of statement.work ≡ None
HasPart setting statement (Some part) = IsPlanned setting statement part

-- what searches a part
abbrev pub IsDeskOf : Option Part → Option Desk → Type 0
IsDeskOf None None = Unit {0}
IsDeskOf (Some part) (Some desk) = desk.part.now ≡ part
IsDeskOf part desk = ⊥

-- what searches the part of a statement
abbrev pub HasDesk : TheSetting → Statement → Option Desk → Type 0
HasDesk setting statement None = block_of statement.work ≡ None
HasDesk setting statement (Some desk) = IsPlanned setting statement desk.part.now

abbrev pub AreDesks : TheSetting → List (Option Desk) → Type 0
AreDesks setting desks = AreEach (HasDesk setting) setting.statements desks
