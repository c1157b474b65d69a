-- The Lagrangian value of a node of a search for a configuration, after CoPhy. A plan may use a candidate that isn't
-- chosen, at a rent; and pages of the budget have a price. Both are multipliers.
use Rattle.std.specs.Prelude.{◌↔◌, ◌≡◌, true, ℕ, suc, ◌+◌, ◌-◌, ◌*◌, ◌<◌, ◌≤◌, ◌==◌, if◌then◌else◌, List, [], ◌∷◌, length, slice_get, ℤ, pos, negsuc}
use Rattle.std.specs.Option.{option_map_or}
use Rattle.adv_base.specs.declared.catalogue.index.IndexShape.{IndexShape}
use Rattle.adv_base.specs.declared.limits.TheConstants.{MOST_CANDIDATES}
use Rattle.adv_base.specs.declared.setting.Config.{Config}
use Rattle.adv_base.specs.declared.workload.Statement.{Statement}
use Rattle.adv_base.specs.declared.workload.Work.{Work}
use Rattle.adv_base.specs.declared.workload.Work.TheVariants.{Select, Update, Delete, Insert}
use Rattle.adv_base.specs.declared.workload.block.Block.{Block}
use Rattle.adv_base.specs.declared.workload.parts.Slot.{Slot}
use Rattle.adv_base.specs.Configs.{has_candidate, IsConfigOf, Fits}
use Rattle.adv_base.specs.Nodes.{Node, IsBelow, is_open, available}
use Rattle.adv_base.specs.Offers.{offers, charged_offers, numbered_on}
use Rattle.adv_base.specs.OfferTables.{OfferTableLimits}
use Rattle.adv_base.specs.Settings.{TheSetting}
use Rattle.adv_base.specs.Sizes.{shape_pages}
pub use Rattle.adv_base.specs.Upkeep.{weighted_upkeep, weighted_kept}
use Rattle.plan_model.specs.declared.task.Task.{Task}
use Rattle.plan_model.specs.BlockTask.{IsTaskOf}
use Rattle.plan_model.specs.Least.{Least}
use Rattle.plan_model.specs.Exchange.{sum_below}
use Rattle.plan_model.specs.Totals.{block_of, IsBlockCost, IsTotal, OffersKeepLimits, weighted_sum}

-- For each statement, from 1, slot, from 0, and candidate, from 1, the rent of one use; and the price of a page, in parts
-- of 65536.
pub record TheMultipliers : Type 0 where
  pub rent : ℕ → ℕ → ℕ → ℕ
  pub page : ℕ

-- ## What plans cost where candidates are rented

-- the cost of a least plan of a block, the rent added to each use of a candidate
pub record IsRentedCost (setting : TheSetting) (config : Config) (rent : ℕ → ℕ → ℕ) (block : Block) (cost : ℕ) : Type 0 where
  pub task : Task
  pub task_is : IsTaskOf setting.cat block task
  pub least : Least task (charged_offers rent setting.cat block setting.shapes config) cost

-- without rents it is the block's cost
abbrev pub UnrentedIsPlain : Type 0
UnrentedIsPlain =
    (setting : TheSetting) (config : Config) (block : Block) (cost : ℕ) →
    IsRentedCost setting config (λ slot candidate. 0) block cost ↔ IsBlockCost setting.cat setting.shapes config block cost

-- the rents of numbered candidates
abbrev pub sum_rents : (ℕ → ℕ) → List (ℕ × IndexShape) → ℕ
sum_rents rent [] = 0
sum_rents rent (numbered ∷ rest) = rent numbered.0 + sum_rents rent rest

-- the rents at slot s of a configuration's candidates on its table
abbrev pub rents_at : TheSetting → Config → (ℕ → ℕ → ℕ) → Block → ℕ → ℕ
rents_at setting config rent block s =
    option_map_or (λ slot. sum_rents (rent s) (numbered_on setting.shapes config slot.table)) (slice_get block.slots s) 0

-- a configuration has all candidates of another
abbrev pub IsWithin : Config → Config → Type 0
IsWithin smaller larger = (a : ℕ) → has_candidate smaller a ≡ true → has_candidate larger a ≡ true

-- Over more candidates a least cost with rents is at most a block's cost and the rents of the candidates that it may use.
abbrev pub RentsBound : Type 0
RentsBound =
    (setting : TheSetting) (smaller larger : Config) (rent : ℕ → ℕ → ℕ) (block : Block) (cost rented : ℕ) →
    IsWithin smaller larger → OfferTableLimits (offers setting.cat block setting.shapes smaller) →
    IsBlockCost setting.cat setting.shapes smaller block cost → IsRentedCost setting larger rent block rented →
    rented ≤ cost + sum_below (rents_at setting smaller rent block) (length block.slots)

-- an INSERT has no plan
abbrev pub IsRentedPlan : TheSetting → Config → (ℕ → ℕ → ℕ) → Work → ℕ → Type 0
IsRentedPlan setting config rent (Select block) cost = IsRentedCost setting config rent block cost
IsRentedPlan setting config rent (Update block columns) cost = IsRentedCost setting config rent block cost
IsRentedPlan setting config rent (Delete block) cost = IsRentedCost setting config rent block cost
IsRentedPlan setting config rent (Insert table rows) cost = cost ≡ 0

-- those of the statements from number q on
abbrev pub AreRentedPlans : TheSetting → Config → (ℕ → ℕ → ℕ → ℕ) → ℕ → List Statement → List ℕ → Type 0
AreRentedPlans setting config rent q [] [] = Unit {0}
AreRentedPlans setting config rent q (statement ∷ statements) (cost ∷ costs) =
    IsRentedPlan setting config (rent q) statement.work cost × AreRentedPlans setting config rent (suc q) statements costs
AreRentedPlans setting config rent q statements costs = ⊥

-- ## What a candidate costs and earns

-- the rents of the slots on a table, from slot s on
abbrev pub slot_rents : (ℕ → ℕ) → ℕ → ℕ → List Slot → ℕ
slot_rents rent t s [] = 0
slot_rents rent t s (slot ∷ slots) = (if slot.table == t then rent s else 0) + slot_rents rent t (suc s) slots

-- the sum of weight times rents, for the statements from number q on
abbrev pub weighted_rents : (ℕ → ℕ → ℕ) → ℕ → ℕ → List Statement → ℕ
weighted_rents rent t q [] = 0
weighted_rents rent t q (statement ∷ statements) =
    statement.weight * option_map_or (λ block. slot_rents (rent q) t 0 block.slots) (block_of statement.work) 0
    + weighted_rents rent t (suc q) statements

-- what a candidate costs where it is chosen: its upkeep and its pages
abbrev pub candidate_cost : TheSetting → TheMultipliers → IndexShape → ℕ
candidate_cost setting multipliers shape =
    65536 * weighted_upkeep setting shape + multipliers.page * shape_pages setting.cat shape

-- what it earns: the rents of its uses
abbrev pub candidate_rents : TheSetting → TheMultipliers → ℕ → IndexShape → ℕ
candidate_rents setting multipliers a shape =
    65536 * weighted_rents (λ q s. multipliers.rent q s a) shape.table 1 setting.statements

-- ## The value

-- what the candidates from number a on that are in cost
abbrev pub costs_inside : TheSetting → TheMultipliers → Node → ℕ → List IndexShape → ℕ
costs_inside setting multipliers node a [] = 0
costs_inside setting multipliers node a (shape ∷ shapes) =
    (if has_candidate node.inside a then candidate_cost setting multipliers shape else 0)
    + costs_inside setting multipliers node (suc a) shapes

-- what they earn, and an open one beyond what it costs
abbrev pub earnings : TheSetting → TheMultipliers → ℕ → Node → ℕ → List IndexShape → ℕ
earnings setting multipliers budget node a [] = 0
earnings setting multipliers budget node a (shape ∷ shapes) =
    (if has_candidate node.inside a then candidate_rents setting multipliers a shape else
    if is_open setting.cat setting.shapes budget node a
    then candidate_rents setting multipliers a shape - candidate_cost setting multipliers shape else 0)
    + earnings setting multipliers budget node (suc a) shapes

-- the whole number is (more - less) / 65536, rounded up
abbrev pub IsRoundedUp : ℕ → ℕ → ℤ → Type 0
IsRoundedUp more less (pos n) = (more ≤ 65536 * n + less) × (65536 * n + less < more + 65536)
IsRoundedUp more less (negsuc n) = (more + 65536 * (n + 1) ≤ less) × (less < more + 65536 * (n + 1) + 65536)

-- the Lagrangian value of a node under multipliers
pub record IsLagrangian (setting : TheSetting) (budget : ℕ) (node : Node) (multipliers : TheMultipliers) (value : ℤ) : Type 0 where
  pub costs : List ℕ
  pub costs_are : AreRentedPlans setting (available setting.cat setting.shapes budget node) multipliers.rent 1 setting.statements costs
  pub value_is :
      IsRoundedUp
      (65536 * (weighted_sum setting.statements costs + weighted_kept setting) + costs_inside setting multipliers node 1 setting.shapes)
      (earnings setting multipliers budget node 1 setting.shapes + multipliers.page * budget)
      value

-- a whole number is at most a count
abbrev pub IsAtMost : ℤ → ℕ → Type 0
IsAtMost (pos n) count = n ≤ count
IsAtMost (negsuc n) count = Unit {0}

-- Weak duality: whatever the multipliers, each fitting configuration below a node costs at least the Lagrangian value.
abbrev pub WeakDuality : Type 0
WeakDuality =
    (setting : TheSetting) (budget : ℕ) (node : Node) (multipliers : TheMultipliers) (value : ℤ) (config : Config) (total : ℕ) →
    OffersKeepLimits setting.cat setting.shapes config setting.statements → Fits setting.cat setting.shapes config budget →
    IsConfigOf setting.shapes config → length setting.shapes ≤ MOST_CANDIDATES → IsBelow node config →
    IsLagrangian setting budget node multipliers value →
    IsTotal setting.cat setting.shapes config setting.statements total → IsAtMost value total
