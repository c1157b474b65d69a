-- What one pass over the sets of slots gives to the list of templates of a set and a front.
use Rattle.std.specs.Prelude.{◌≡◌, ℕ, ◌^◌, ◌<◌, true, false, ◌⊎◌, List, [], length, map, take, All, Some, None, slice_index_or}
use Rattle.std.specs.List.{list_all}
use Rattle.adv_base.specs.Items.{Order}
use Rattle.adv_base.specs.Offers.{OfferTable}
use Rattle.adv_base.specs.Sets.{has_slot}
use Rattle.plan_model.specs.declared.plan.Plan.{Plan}
use Rattle.plan_model.specs.declared.template.Template.{Template}
use Rattle.plan_model.specs.Plans.{IsValid, is_column_of}
use Rattle.plan_model.specs.Costs.{rows_in, sort_cost}
use Rattle.plan_model.specs.Exchange.{choice}
use Rattle.planner.specs.declared.cuts.Cut.{Cut}
use Rattle.planner.specs.declared.cuts.Merge.{Merge}
use Rattle.planner.specs.declared.ways.Ways.{Ways}
use Rattle.planner.specs.Fronts.{begins_test, head_at, longer_front}
use Rattle.planner.specs.Cuts.{cut_at, merge_at, is_covered}
use Rattle.planner.specs.Rows.{width, order_of, cuts_of, merges_in}
use Rattle.planner.specs.inner.Built.{IsPlanFor}
use Rattle.inum_cache.specs.Numbering.{size_in, order_in}
use Rattle.inum_cache.specs.inner.Cells.{place_at, Takes, SomeBelow, RaiseGives, JoinGives}

-- the list of a front in a row
abbrev pub cell_in : List (List Template) → ℕ → List Template
cell_in row f = slice_index_or row f []

-- the row of a set
abbrev pub row_in : List (List (List Template)) → ℕ → List (List Template)
row_in rows set = slice_index_or rows set []

-- the template of a leaf that reads a slot in the order at a place
pub record IsLeaf (slot place : ℕ) (template : Template) : Type 0 where
  pub costs : template.internal ≡ 0
  pub here : place_at template slot ≡ place
  pub others : (s : ℕ) → ¬ (s ≡ slot) → place_at template s ≡ 0

-- leaves of the set's one slot that serve the front
abbrev pub PlaceGives : Ways → List (List Order) → ℕ → ℕ → ℕ → Template → Type 0
PlaceGives ways orders f slot place template =
    (begins_test (order_in orders slot place) (order_of ways f) ≡ true) × IsLeaf slot place template

abbrev pub SlotGives : Ways → List (List Order) → ℕ → ℕ → ℕ → Template → Type 0
SlotGives ways orders set f slot template =
    (2 ^ slot ≡ set) × SomeBelow (size_in orders slot) (PlaceGives ways orders f slot) template

abbrev pub ReadGives : Ways → List (List Order) → ℕ → ℕ → Template → Type 0
ReadGives ways orders set f = SomeBelow ways.task.now.slots (SlotGives ways orders set f)

-- a hash join of a cut's parts, for a front that asks nothing
abbrev pub HashGives : Ways → (ℕ → List (List Template)) → ℕ → Cut → Template → Type 0
HashGives ways rows f cut template =
    (head_at ways.heads.items f ≡ None) × JoinGives (cell_in (rows cut.left) 0) (cell_in (rows cut.right) 0) cut.hash_price template

-- a merge of them, whose left side serves the front that asks for more, of the edge's need and the front
abbrev pub MergeGives : Ways → (ℕ → List (List Template)) → ℕ → Cut → Merge → Template → Type 0
MergeGives ways rows f cut merge template =
    (g : ℕ) × (longer_front (head_at ways.heads.items merge.left_need) (head_at ways.heads.items f) merge.left_need f ≡ Some g)
    × JoinGives (cell_in (rows cut.left) g) (cell_in (rows cut.right) merge.right_front) cut.merge_price template

abbrev pub MergesGive : Ways → (ℕ → List (List Template)) → ℕ → Cut → List Merge → Template → Type 0
MergesGive ways rows f cut merges = SomeBelow (length merges) (λ j. MergeGives ways rows f cut (merge_at merges j))

abbrev pub CutGives : Ways → (ℕ → List (List Template)) → ℕ → Cut → Template → Type 0
CutGives ways rows f cut template =
    HashGives ways rows f cut template ⊎ MergesGive ways rows f cut (merges_in ways cut) template

abbrev pub CutsGive : Ways → (ℕ → List (List Template)) → ℕ → List Cut → Template → Type 0
CutsGive ways rows f cuts = SomeBelow (length cuts) (λ k. CutGives ways rows f (cut_at cuts k))

-- a sort by what the front asks, of what serves no order
abbrev pub SortGives : Ways → ℕ → ℕ → List Template → Template → Type 0
SortGives ways set f input template =
    (0 < f) × (list_all (is_column_of set) (order_of ways f) ≡ true)
    × RaiseGives input (sort_cost ways.task.now.rates (rows_in ways.task.now set)) template

-- all that a list of a set and a front is given; `input` is the set's list for no order
abbrev pub IsGiven : Ways → List (List Order) → (ℕ → List (List Template)) → List Template → ℕ → ℕ → Template → Type 0
IsGiven ways orders rows input set f template =
    (SortGives ways set f input template ⊎ ReadGives ways orders set f template) ⊎ CutsGive ways rows f (cuts_of ways set) template

-- each slot offers each of its orders for nothing
abbrev pub every : List (List Order) → OfferTable
every orders slot = map (λ o. (o, 0)) (slice_index_or orders slot [])

-- A plan of the set whose order begins as the front asks costs that much above leaves of the orders that the template
-- needs. One for no order has no sort at its top.
pub record IsFor (ways : Ways) (orders : List (List Order)) (set f : ℕ) (template : Template) : Type 0 where
  pub plan : Plan
  pub is : IsPlanFor true ways.task.now (every orders) (order_of ways f) set template.internal plan
  pub plain : f ≡ 0 → IsValid false ways.task.now (every orders) plan
  pub reads : (slot : ℕ) → has_slot set slot ≡ true → choice plan slot ≡ place_at template slot
  pub others : (slot : ℕ) → has_slot set slot ≡ false → place_at template slot ≡ 0

-- the lists of a set: each keeps what it was given, and all in it are of plans
pub record IsRowOf (ways : Ways) (orders : List (List Order)) (rows : ℕ → List (List Template)) (set : ℕ) (row : List (List Template)) : Type 0 where
  pub blank : is_covered ways.covered.items set ≡ false → row ≡ []
  pub takes : (f : ℕ) → f < width ways → Takes orders (IsGiven ways orders rows (cell_in row 0) set f) [] (cell_in row f)
  pub plans : (f : ℕ) → All (IsFor ways orders set f) (cell_in row f)

-- the rows of the first n sets, each by the rows before it
pub record AreRowsOf (ways : Ways) (orders : List (List Order)) (rows : List (List (List Template))) (n : ℕ) : Type 0 where
  pub each : (s : ℕ) → s < n → IsRowOf ways orders (row_in (take s rows)) s (row_in rows s)
