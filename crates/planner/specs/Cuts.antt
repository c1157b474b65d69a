-- The cuts of sets in two parts, by which plans may join them.
use Rattle.std.specs.Prelude.{◌≡◌, ℕ, ◌+◌, ◌-◌, ◌^◌, ◌<◌, ◌≤◌, bit_and, Bool, true, false, ◌==◌, ◌&&◌, if◌then◌else◌, List, [], ◌∷◌, length, Option, slice_index, slice_index_or}
use Rattle.std.specs.List.{slice_range}
use Rattle.adv_base.specs.declared.workload.parts.Item.{Item}
use Rattle.plan_model.specs.declared.task.Task.{Task}
use Rattle.plan_model.specs.Costs.{merge_of, hash_of}
use Rattle.planner.specs.declared.front.Front.{Front}
use Rattle.planner.specs.declared.front.Link.{Link}
use Rattle.planner.specs.declared.cuts.Cut.{Cut}
use Rattle.planner.specs.declared.cuts.Merge.{Merge}
use Rattle.planner.specs.Fronts.{crosses_link, side_front, AreNeeds}

-- a cut of a set in two parts
pub record IsCut (set a : ℕ) : Type 0 where
  pub some : 0 < a
  pub less : a < set
  pub apart : bit_and a (set - a) ≡ 0

abbrev pub link_merge : Link → ℕ → ℕ → Merge
link_merge link a b = record { edge = link.edge; left_need = side_front link a; right_front = side_front link b }

-- a merge of a and b for each link between them
abbrev pub merges_of : List Link → ℕ → ℕ → List Merge
merges_of [] a b = []
merges_of (link ∷ links) a b =
    if crosses_link a b link then link_merge link a b ∷ merges_of links a b else merges_of links a b

abbrev pub no_merge : Merge
no_merge = record { edge = 0; left_need = 0; right_front = 0 }

abbrev pub no_cut : Cut
no_cut = record { left = 0; right = 0; hash_price = 0; merge_price = 0; from = 0; to = 0 }

abbrev pub cut_at : List Cut → ℕ → Cut
cut_at cuts k = slice_index_or cuts k no_cut

abbrev pub merge_at : List Merge → ℕ → Merge
merge_at merges j = slice_index_or merges j no_merge

-- the merges of a cut in the list of all
abbrev pub merges_at : List Merge → Cut → List Merge
merges_at merges cut = slice_range merges cut.from cut.to

-- the cuts of a set in the list of all
abbrev pub cuts_at : List Cut → List ℕ → ℕ → List Cut
cuts_at cuts starts set = slice_range cuts (slice_index starts set) (slice_index starts (set + 1))

abbrev pub is_covered : List Bool → ℕ → Bool
is_covered covered set = slice_index_or covered set false

-- whether a and the rest of the set are apart, and both are covered
abbrev pub may_cut : List Bool → ℕ → ℕ → Bool
may_cut covered set a = (bit_and a (set - a) == 0) && is_covered covered a && is_covered covered (set - a)

-- a cut of the set that links cross, with its prices and its merges
pub record IsCutOf (task : Task) (links : List Link) (merges : List Merge) (set : ℕ) (cut : Cut) : Type 0 where
  pub parts : IsCut set cut.left
  pub rest : cut.right ≡ set - cut.left
  pub hash : cut.hash_price ≡ hash_of task cut.left cut.right
  pub merge : cut.merge_price ≡ merge_of task cut.left cut.right
  pub some : cut.from < cut.to
  pub within : cut.to ≤ length merges
  pub crossings : merges_at merges cut ≡ merges_of links cut.left cut.right

-- a cut in the list
pub record IsListed (cuts : List Cut) (a : ℕ) : Type 0 where
  pub number : ℕ
  pub within : number < length cuts
  pub is : (cut_at cuts number).left ≡ a

-- the cuts of a set: those that links cross and whose parts are covered
pub record AreCutsOf (task : Task) (links : List Link) (merges : List Merge) (covered : List Bool) (set : ℕ) (cuts : List Cut) : Type 0 where
  pub each : (k : ℕ) → k < length cuts → IsCutOf task links merges set (cut_at cuts k)
  pub all : (a : ℕ) → 0 < a → a < set → may_cut covered set a ≡ true → 0 < length (merges_of links a (set - a)) → ∥ IsListed cuts a ∥₁

-- The cuts of all sets below n, grouped by set. A set that isn't covered has more than one slot and no cuts.
pub record AreCuts (task : Task) (links : List Link) (cuts : List Cut) (merges : List Merge) (starts : List ℕ) (covered : List Bool) (n : ℕ) : Type 0 where
  pub starts_count : length starts ≡ n + 1
  pub covered_count : length covered ≡ n
  pub ends : slice_index starts n ≡ length cuts
  pub rising : (s : ℕ) → s < n → (slice_index starts s ≤ slice_index starts (s + 1)) × (slice_index starts (s + 1) ≤ length cuts)
  pub sets : (s : ℕ) → s < n → AreCutsOf task links merges covered s (cuts_at cuts starts s)
  pub slots : (s slot : ℕ) → s < n → slot < task.slots → 2 ^ slot ≡ s → is_covered covered s ≡ true
  pub joined : (s : ℕ) → s < n → is_covered covered s ≡ false → slice_index starts s ≡ slice_index starts (s + 1)

-- the fronts and links of the task, and the cuts of all its sets
pub record AreWays (task : Task) (fronts : List Front) (heads : List (Option Item)) (links : List Link) (cuts : List Cut) (merges : List Merge) (starts : List ℕ) (covered : List Bool) : Type 0 where
  pub needs : AreNeeds task fronts heads links
  pub cut : AreCuts task links cuts merges starts covered (length task.rows)
