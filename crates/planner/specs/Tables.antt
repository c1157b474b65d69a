-- What a search holds.
use Rattle.std.specs.Prelude.{◌≡◌, ℕ, ◌<◌}
use Rattle.adv_base.specs.Offers.{OfferTable}
use Rattle.plan_model.specs.declared.task.Task.{Task}
use Rattle.planner.specs.declared.search.Search.{Search}
use Rattle.planner.specs.Cells.{row_of}
use Rattle.planner.specs.Rows.{AreRows, width, sets_of}

-- the task that is searched
abbrev pub task_of : Search → Task
task_of search = search.ways.task.now

-- the search's rows are those of the table of offers
pub record Holds (search : Search) (table : OfferTable) : Type 0 where
  pub rows : AreRows search.ways table (row_of (width search.ways) search.cells.items) (sets_of search.ways)

-- the search holds the costs over offers that differ from those of the table only at slots from this one on
pub record HoldsBelow (search : Search) (table : OfferTable) (slot : ℕ) : Type 0 where
  pub before : OfferTable
  pub holds : Holds search before
  pub alike : (s : ℕ) → s < slot → table s ≡ before s
