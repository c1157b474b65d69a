-- Cells and rows after one offer or join more.
use Rattle.std.specs.Prelude.{◌≡◌, ℕ, ◌+◌, ◌<◌, ◌≤◌, ◌⊎◌, nat_lt, Bool, ◌&&◌, Option, Some, None, if◌then◌else◌, List, length}
use Rattle.adv_base.specs.Items.{Order, BeginsWith}
use Rattle.adv_base.specs.Offers.{OfferTable}
use Rattle.adv_base.specs.OfferTables.{price_at, order_at}
use Rattle.adv_base.specs.declared.workload.parts.Item.{Item}
use Rattle.plan_model.specs.declared.task.Task.{Task}
use Rattle.planner.specs.declared.cell.Cell.{Cell}
use Rattle.planner.specs.declared.cell.TheConstants.{IMPOSSIBLE}
use Rattle.planner.specs.declared.front.Front.{Front}
use Rattle.planner.specs.Fronts.{asked}
use Rattle.planner.specs.Cells.{cost_at, any_at}
use Rattle.planner.specs.Choices.{IsOffered}

-- the cell, or what is cheaper
abbrev pub better : Cell → ℕ → Cell
better cell cost = if nat_lt cost cell.cost then (record cell { cost = cost }) else cell

-- the cell after a merge whose left side serves the front g, if any, and else costs `base`
abbrev pub merged : Cell → Option ℕ → List Cell → ℕ → Cell
merged cell None left base = cell
merged cell (Some g) left base = better cell (any_at left g + base)

-- the cell after a hash join of that cost, which serves only a front that asks nothing
abbrev pub hashed : Cell → Option Item → ℕ → Cell
hashed cell None cost = better cell cost
hashed cell (Some head) cost = cell

-- the cell after an offer, which serves the front or not
abbrev pub offered : Cell → Bool → ℕ → Cell
offered cell serves price = if serves then better cell price else cell

-- the cell once it is known what a sort of the set costs, and whether the front's columns can be sorted by
abbrev pub finished : Cell → Bool → ℕ → Cell
finished cell can_sort sorted = record cell { any = if can_sort && nat_lt sorted cell.cost then sorted else cell.cost }

-- the offers of one slot bound the cost
pub record SlotBound (table : OfferTable) (order : Order) (slot cost : ℕ) : Type 0 where
  pub each : (offer : ℕ) → offer < length (table slot) → BeginsWith (order_at table slot offer) order → cost ≤ price_at table slot offer

-- an offer made the cost, or nothing did
abbrev pub OfferMade : Task → OfferTable → Order → ℕ → ℕ → Type 0
OfferMade task table order set cost = (cost ≡ IMPOSSIBLE) ⊎ IsOffered task table order set cost

-- offers made all costs of a row, or nothing did
pub record AreOffers (task : Task) (table : OfferTable) (list : Order) (fronts : List Front) (set : ℕ) (row : List Cell) : Type 0 where
  pub each : (f : ℕ) → f < length fronts → OfferMade task table (asked list fronts f) set (cost_at row f)

-- a row after costs were offered to its cells: none costs more, and what changed was made so
pub record IsStep (width : ℕ) (Makes : ℕ → ℕ → Type 0) (old new : List Cell) : Type 0 where
  pub count : length new ≡ length old
  pub lower : (f : ℕ) → cost_at new f ≤ cost_at old f
  pub made : (f : ℕ) → f < width → (cost_at new f ≡ cost_at old f) ⊎ Makes f (cost_at new f)
