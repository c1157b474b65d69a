-- When a programme stands for a setting.
use Rattle.std.specs.Prelude.{◌≡◌, ℕ, suc, ◌==◌, if◌then◌else◌, List, [], ◌∷◌, length, map, filter, fold, take, Option, Some, None, slice_get}
use Rattle.std.specs.List.{enumerate_from}
use Rattle.adv_base.specs.declared.catalogue.index.IndexShape.{IndexShape}
use Rattle.adv_base.specs.declared.catalogue.table.Table.{Table}
use Rattle.adv_base.specs.declared.workload.Statement.{Statement}
use Rattle.adv_base.specs.declared.workload.block.Block.{Block}
use Rattle.adv_base.specs.declared.workload.parts.Slot.{Slot}
use Rattle.adv_base.specs.Items.{Order, is_same_order}
use Rattle.adv_base.specs.Lookups.{table_at}
use Rattle.adv_base.specs.Offers.{Offer, offers, index_offer}
use Rattle.adv_base.specs.Settings.{TheSetting}
use Rattle.adv_base.specs.Sizes.{shape_pages}
use Rattle.plan_model.specs.declared.task.Task.{Task}
use Rattle.plan_model.specs.BlockTask.{IsTaskOf}
use Rattle.plan_model.specs.Combinations.{Decompose}
use Rattle.plan_model.specs.Lagrangian.{weighted_upkeep, weighted_kept}
use Rattle.plan_model.specs.Orders.{interesting_orders}
use Rattle.plan_model.specs.Totals.{no_candidates, block_of}
use Rattle.bip_model.specs.declared.grant.Grant.{Grant}
use Rattle.bip_model.specs.declared.slot_part.SlotPart.{SlotPart}
use Rattle.bip_model.specs.declared.part.Part.{Part}
use Rattle.bip_model.specs.declared.programme.Programme.{Programme}
use Rattle.bip_model.specs.Values.{lesser}

-- the price at which an offer gives an order: it does where its own begins with it
abbrev pub given : Order → Offer → Option ℕ
given order offer = if is_same_order (take (length order) offer.0) order then Some offer.1 else None

-- the least price at which one of some offers gives an order
abbrev pub least_given : Order → List Offer → Option ℕ
least_given order list = fold (λ best offer. lesser best (given order offer)) None list

-- the candidates on a table, each with its number from 1
abbrev pub candidates_on : List IndexShape → ℕ → List (ℕ × IndexShape)
candidates_on shapes t = filter (λ numbered. numbered.1.table == t) (enumerate_from 1 shapes)

-- the elements of two lists of one length belong together, pair by pair
abbrev pub AreEach : {A B : Type 0} → (A → B → Type 0) → List A → List B → Type 0
AreEach P [] [] = Unit {0}
AreEach P (x ∷ xs) (y ∷ ys) = P x y × AreEach P xs ys
AreEach P xs ys = ⊥

-- the grant of a candidate at slot s of a block: its number, and its price for each order of the slot
pub record IsGrant (setting : TheSetting) (block : Block) (task : Task) (s : ℕ) (slot : Slot) (table : Table) (numbered : ℕ × IndexShape) (grant : Grant) : Type 0 where
  pub candidate_is : grant.candidate ≡ numbered.0
  pub prices_are : grant.prices ≡ map (λ order. given order (index_offer setting.cat block s slot table numbered.1)) (interesting_orders task s)

-- the prices of slot s of a block: the least of what exists for each order, and one grant for each candidate on its table
pub record IsSlotPart (setting : TheSetting) (block : Block) (task : Task) (s : ℕ) (slot : Slot) (own : SlotPart) : Type 0 where
  pub table : Table
  pub table_found : table_at setting.cat slot.table ≡ Some table
  pub base_is : own.base ≡ map (λ order. least_given order (offers setting.cat block setting.shapes no_candidates s)) (interesting_orders task s)
  pub grants_are : AreEach (IsGrant setting block task s slot table) (candidates_on setting.shapes slot.table) own.grants

-- a statement with a block: its number, from 1, and its weight
pub record Blocked : Type 0 where
  pub number : ℕ
  pub weight : ℕ
  pub block : Block

-- the part of such a statement
pub record IsPart (setting : TheSetting) (blocked : Blocked) (part : Part) : Type 0 where
  pub statement_is : part.statement ≡ blocked.number
  pub weight_is : part.weight ≡ blocked.weight
  pub task : Task
  pub task_is : IsTaskOf setting.cat blocked.block task
  pub decompose : Decompose task part.templates
  pub slots_count : length part.slots ≡ length blocked.block.slots
  pub slots_are : (s : ℕ) (slot : Slot) (own : SlotPart) → slice_get blocked.block.slots s ≡ Some slot → slice_get part.slots s ≡ Some own → IsSlotPart setting blocked.block task s slot own

abbrev pub blocked_in : ℕ → ℕ → Option Block → List Blocked → List Blocked
blocked_in q weight None rest = rest
blocked_in q weight (Some block) rest = record { number = q; weight = weight; block = block } ∷ rest

-- the statements that have a block, numbered from q
abbrev pub blocked_from : ℕ → List Statement → List Blocked
blocked_from q [] = []
blocked_from q (statement ∷ statements) = blocked_in q statement.weight (block_of statement.work) (blocked_from (suc q) statements)

-- The programme stands for the setting: sizes and weighted upkeep of the candidates, the weighted upkeep of what exists, and
-- a part for each statement that has a block.
pub record StandsFor (setting : TheSetting) (programme : Programme) : Type 0 where
  pub sizes_are : programme.sizes ≡ map (shape_pages setting.cat) setting.shapes
  pub upkeep_is : programme.upkeep ≡ map (weighted_upkeep setting) setting.shapes
  pub kept_is : programme.kept ≡ weighted_kept setting
  pub parts_are : AreEach (IsPart setting) (blocked_from 1 setting.statements) programme.parts
