-- Plans that are built of what made the costs.
use Rattle.std.specs.Prelude.{◌≡◌, ℕ, ◌-◌, ◌<◌, ◌==◌, length, Bool, ◌&&◌, not, if◌then◌else◌, List}
use Rattle.adv_base.specs.Items.{Order, BeginsWith}
use Rattle.adv_base.specs.Offers.{OfferTable}
use Rattle.plan_model.specs.declared.plan.Plan.{Plan}
use Rattle.plan_model.specs.declared.plan.Plan.TheVariants.{Sort', Merge', Hash'}
use Rattle.plan_model.specs.declared.task.Task.{Task}
use Rattle.adv_base.specs.OfferTables.{price_at, order_at}
use Rattle.plan_model.specs.Plans.{IsValid, covers, delivers}
use Rattle.plan_model.specs.Costs.{plan_cost}
use Rattle.planner.specs.declared.front.Front.{Front}
use Rattle.planner.specs.declared.cell.Cell.{Cell}
use Rattle.planner.specs.declared.cell.Choice.{Choice}
use Rattle.planner.specs.declared.cell.Choice.TheVariants.{Read, MergeOf, HashOf}
use Rattle.planner.specs.Sorts.{SortsWanted}
use Rattle.planner.specs.Fronts.{asked}
use Rattle.planner.specs.declared.cuts.Cut.{Cut}
use Rattle.planner.specs.declared.ways.Ways.{Ways}
use Rattle.planner.specs.Cuts.{IsCut, cut_at, merge_at}
use Rattle.planner.specs.Choices.{IsRead, IsMerge, IsHash, IsHashed, IsMergedBy}
use Rattle.planner.specs.Rows.{merges_in}
use Rattle.planner.specs.Cells.{cost_at, any_at}

-- the cost of a front in a row, with or without a sort at the top
abbrev pub front_cost : Bool → List Cell → ℕ → ℕ
front_cost sorts row f = if sorts then any_at row f else cost_at row f

-- a valid plan of the set whose order begins so, of that cost, with sorts by wanted lists alone
pub record IsPlanFor (sorts : Bool) (task : Task) (table : OfferTable) (order : Order) (set cost : ℕ) (plan : Plan) : Type 0 where
  pub valid : IsValid sorts task table plan
  pub covers_set : covers plan ≡ set
  pub begins : BeginsWith (delivers table plan) order
  pub costs : plan_cost task table plan ≡ cost
  pub sorts_wanted : SortsWanted task plan

-- a sort of the input by the order
abbrev pub IsSortOf : Order → Plan → Plan → Type 0
IsSortOf order input (Sort' o p i) = (o ≡ order) × (i ≡ input)
IsSortOf order input _ = ⊥

-- a merge of two plans on the edge
abbrev pub IsMergeOf : ℕ → Plan → Plan → Plan → Type 0
IsMergeOf edge left right (Merge' e p l q r) = (e ≡ edge) × (l ≡ left) × (r ≡ right)
IsMergeOf edge left right _ = ⊥

-- a hash join of two plans
abbrev pub IsHashOf : Plan → Plan → Plan → Type 0
IsHashOf left right (Hash' p l q r) = (l ≡ left) × (r ≡ right)
IsHashOf left right _ = ⊥

-- whether a sort is the cheapest top of a cell's plan
abbrev pub is_sorted : Cell → Bool → Bool
is_sorted cell sorts = sorts && not (cell.any == cell.cost)

-- what makes the cost of a cell that has a plan
abbrev pub IsChosen : Task → OfferTable → Order → List Front → (ℕ → List Cell) → ℕ → ℕ → ℕ → Choice → Type 0
IsChosen task table list fronts rows set f cost (Read slot offer) =
    IsRead task table (asked list fronts f) set cost slot offer
IsChosen task table list fronts rows set f cost (MergeOf edge a g h) =
    IsCut set a × IsMerge task list fronts (rows a) (rows (set - a)) a (set - a) f cost edge g h
IsChosen task table list fronts rows set f cost (HashOf a) =
    IsCut set a × IsHash task list fronts (rows a) (rows (set - a)) a (set - a) f cost

-- a join of a cut's parts gives the cost, and this is how
abbrev pub IsCutChoice : Ways → (ℕ → List Cell) → Cut → ℕ → ℕ → Choice → Type 0
IsCutChoice ways rows cut f cost (Read slot offer) = ⊥
IsCutChoice ways rows cut f cost (MergeOf edge a g h) =
    (a ≡ cut.left)
    × ((j : ℕ) × IsMergedBy ways.heads.items (rows cut.left) (rows cut.right) cut.merge_price (merges_in ways cut) f cost j g × (edge ≡ (merge_at (merges_in ways cut) j).edge) × (h ≡ (merge_at (merges_in ways cut) j).right_front))
IsCutChoice ways rows cut f cost (HashOf a) =
    (a ≡ cut.left) × IsHashed ways.heads.items (rows cut.left) (rows cut.right) cut.hash_price f cost

-- a join of the parts of one of the cuts does
pub record IsJoinChoice (ways : Ways) (rows : ℕ → List Cell) (cuts : List Cut) (f cost : ℕ) (choice : Choice) : Type 0 where
  pub number : ℕ
  pub within : number < length cuts
  pub joins : IsCutChoice ways rows (cut_at cuts number) f cost choice

-- an offer of the slot delivers what is asked at that cost
pub record GivesOffer (table : OfferTable) (slot : ℕ) (order : Order) (cost offer : ℕ) : Type 0 where
  pub within : offer < length (table slot)
  pub begins : BeginsWith (order_at table slot offer) order
  pub costs : cost ≡ price_at table slot offer
