-- The cuts of a set, as they are found one after the other.
use Rattle.std.specs.Prelude.{◌≡◌, ℕ, ◌-◌, ◌<◌, ◌≤◌, Bool, true, List, ◌++◌, length}
use Rattle.plan_model.specs.declared.task.Task.{Task}
use Rattle.planner.specs.declared.front.Link.{Link}
use Rattle.planner.specs.declared.cuts.Cut.{Cut}
use Rattle.planner.specs.declared.cuts.Merge.{Merge}
use Rattle.planner.specs.Cuts.{merges_of, cut_at, may_cut, IsCutOf, IsListed}

-- The list of cuts goes on with cuts of the set, and that of merges with their merges: each cut with a left part from m to
-- before n, whose parts are covered and that links cross, is there.
pub record AddsCuts (task : Task) (links : List Link) (covered : List Bool) (set m n : ℕ) (cuts : List Cut) (merges : List Merge) (new_cuts : List Cut) (new_merges : List Merge) : Type 0 where
  pub more : List Cut
  pub cuts_are : new_cuts ≡ cuts ++ more
  pub more_merges : List Merge
  pub merges_are : new_merges ≡ merges ++ more_merges
  pub each : (k : ℕ) → k < length more → IsCutOf task links new_merges set (cut_at more k)
  pub all : (a : ℕ) → m ≤ a → a < n → may_cut covered set a ≡ true → 0 < length (merges_of links a (set - a)) → IsListed more a
