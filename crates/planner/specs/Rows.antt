-- What the rows of the table keep.
use Rattle.std.specs.Prelude.{◌≡◌, ℕ, ◌+◌, ◌*◌, ◌^◌, ◌<◌, ◌≤◌, ◌⊎◌, Bool, true, false, List, length, All}
use Rattle.adv_base.specs.Items.{Order, BeginsWith}
use Rattle.adv_base.specs.Offers.{OfferTable}
use Rattle.plan_model.specs.declared.plan.Plan.{Plan}
use Rattle.plan_model.specs.declared.task.Task.{Task}
use Rattle.adv_base.specs.OfferTables.{price_at, order_at}
use Rattle.plan_model.specs.Plans.{IsValid, covers, delivers, is_column_of}
use Rattle.plan_model.specs.Costs.{plan_cost, rows_in, sort_cost}
use Rattle.planner.specs.declared.cell.Cell.{Cell}
use Rattle.planner.specs.declared.cell.TheConstants.{IMPOSSIBLE}
use Rattle.planner.specs.declared.cuts.Cut.{Cut}
use Rattle.planner.specs.declared.cuts.Merge.{Merge}
use Rattle.planner.specs.declared.ways.Ways.{Ways}
use Rattle.planner.specs.Fronts.{asked, listed}
use Rattle.planner.specs.Cells.{cell_at, cost_at, any_at, row_of, blank}
use Rattle.planner.specs.Cuts.{cut_at, cuts_at, merges_at, is_covered}
use Rattle.planner.specs.Choices.{IsOffered, IsHashed, IsMerged, HashBound, MergesBound, IsSorting}

-- how many fronts there are
abbrev pub width : Ways → ℕ
width ways = length ways.fronts.items

-- the order that a front asks for
abbrev pub order_of : Ways → ℕ → Order
order_of ways f = asked (listed ways.task.now) ways.fronts.items f

abbrev pub cuts_of : Ways → ℕ → List Cut
cuts_of ways set = cuts_at ways.cuts.items ways.starts.items set

abbrev pub merges_in : Ways → Cut → List Merge
merges_in ways cut = merges_at ways.merges.items cut

-- how many sets there are
abbrev pub sets_of : Ways → ℕ
sets_of ways = length ways.task.now.rows

-- no plan of the set whose order begins so costs less; `sorts` says that a sort may stand at its top
pub record NoneLess (sorts : Bool) (task : Task) (table : OfferTable) (order : Order) (set cost : ℕ) : Type 0 where
  pub each : (p : Plan) → IsValid sorts task table p → covers p ≡ set → BeginsWith (delivers table p) order → cost ≤ plan_cost task table p

-- the offers of a set of one slot bound the cost
pub record OffersBound (task : Task) (table : OfferTable) (order : Order) (set cost : ℕ) : Type 0 where
  pub each : (slot offer : ℕ) → slot < task.slots → offer < length (table slot) → 2 ^ slot ≡ set → BeginsWith (order_at table slot offer) order → cost ≤ price_at table slot offer

-- a join of a cut's parts gives the cost
abbrev pub IsCutBy : Ways → (ℕ → List Cell) → Cut → ℕ → ℕ → Type 0
IsCutBy ways rows cut f cost =
    IsHashed ways.heads.items (rows cut.left) (rows cut.right) cut.hash_price f cost
    ⊎ IsMerged ways.heads.items (rows cut.left) (rows cut.right) cut.merge_price (merges_in ways cut) f cost

-- a join of the parts of one of these cuts does
pub record IsJoined (ways : Ways) (rows : ℕ → List Cell) (cuts : List Cut) (f cost : ℕ) : Type 0 where
  pub number : ℕ
  pub within : number < length cuts
  pub joins : IsCutBy ways rows (cut_at cuts number) f cost

-- all joins of a cut's parts bound the cost
pub record CutBound (ways : Ways) (rows : ℕ → List Cell) (cut : Cut) (f cost : ℕ) : Type 0 where
  pub hash : HashBound ways.heads.items (rows cut.left) (rows cut.right) cut.hash_price f cost
  pub merges : MergesBound ways.heads.items (rows cut.left) (rows cut.right) cut.merge_price (merges_in ways cut) f cost

-- no cost is above that of no plan
pub record IsCapped (row : List Cell) : Type 0 where
  pub cost : (f : ℕ) → cost_at row f ≤ IMPOSSIBLE
  pub any : (f : ℕ) → any_at row f ≤ IMPOSSIBLE

-- an offer or a join made the cost, or nothing did
abbrev pub IsMade : Ways → OfferTable → (ℕ → List Cell) → ℕ → ℕ → ℕ → Type 0
IsMade ways table rows set f cost =
    (cost ≡ IMPOSSIBLE) ⊎ (IsOffered ways.task.now table (order_of ways f) set cost ⊎ IsJoined ways rows (cuts_of ways set) f cost)

-- A row is closed: each cost was made, and is at most what each offer, each join and each sort gives.
pub record IsRow (ways : Ways) (table : OfferTable) (rows : ℕ → List Cell) (set : ℕ) (row : List Cell) : Type 0 where
  pub count : length row ≡ width ways
  pub capped : IsCapped row
  pub made : (f : ℕ) → f < width ways → IsMade ways table rows set f (cost_at row f)
  pub sorted : (f : ℕ) → f < width ways → (any_at row f ≡ cost_at row f) ⊎ IsSorting ways.task.now (listed ways.task.now) ways.fronts.items row set f (any_at row f)
  pub reads : (f : ℕ) → f < width ways → OffersBound ways.task.now table (order_of ways f) set (cost_at row f)
  pub joins : (k : ℕ) → k < length (cuts_of ways set) → (f : ℕ) → f < width ways → CutBound ways rows (cut_at (cuts_of ways set) k) f (cost_at row f)
  pub without : (f : ℕ) → f < width ways → any_at row f ≤ cost_at row f
  pub with_sort : (f : ℕ) → f < width ways → All (λ item. is_column_of set item ≡ true) (order_of ways f) → any_at row f ≤ cost_at row 0 + sort_cost ways.task.now.rates (rows_in ways.task.now set)

-- A row bounds plans: no cost is above what each offer, each join and each sort gives.
pub record IsLowRow (ways : Ways) (table : OfferTable) (rows : ℕ → List Cell) (set : ℕ) (row : List Cell) : Type 0 where
  pub capped : (f : ℕ) → cost_at row f ≤ IMPOSSIBLE
  pub reads : (f : ℕ) → f < width ways → OffersBound ways.task.now table (order_of ways f) set (cost_at row f)
  pub joins : (k : ℕ) → k < length (cuts_of ways set) → (f : ℕ) → f < width ways → CutBound ways rows (cut_at (cuts_of ways set) k) f (cost_at row f)
  pub without : (f : ℕ) → f < width ways → any_at row f ≤ cost_at row f
  pub with_sort : (f : ℕ) → f < width ways → All (λ item. is_column_of set item ≡ true) (order_of ways f) → any_at row f ≤ cost_at row 0 + sort_cost ways.task.now.rates (rows_in ways.task.now set)

-- the rows of all sets do
pub record AreLowRows (ways : Ways) (table : OfferTable) (rows : ℕ → List Cell) : Type 0 where
  pub each : (s : ℕ) → s < sets_of ways → IsLowRow ways table rows s (rows s)

-- the table has a row for each set, and those of sets that no plan covers are blank
pub record IsTable (ways : Ways) (cells : List Cell) : Type 0 where
  pub whole : length cells ≡ sets_of ways * width ways
  pub blanks : (s : ℕ) → s < sets_of ways → is_covered ways.covered.items s ≡ false → (f : ℕ) → cell_at (row_of (width ways) cells s) f ≡ blank

-- the rows of the first n sets are closed
pub record AreRows (ways : Ways) (table : OfferTable) (rows : ℕ → List Cell) (n : ℕ) : Type 0 where
  pub each : (s : ℕ) → s < n → IsRow ways table rows s (rows s)
