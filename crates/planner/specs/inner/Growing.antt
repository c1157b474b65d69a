-- The fronts and links of a task, as they are found one after the other.
use Rattle.std.specs.Prelude.{ℕ, ◌≡◌, ◌<◌, ◌≤◌, ◌==◌, Bool, true, ◌&&◌, ◌||◌, List, length, Option, Some, None, slice_index_or}
use Rattle.adv_base.specs.declared.workload.parts.Item.{Item}
use Rattle.planner.specs.declared.front.Front.{Front}
use Rattle.planner.specs.declared.front.Link.{Link}
use Rattle.planner.specs.declared.front.Front.TheVariants.{Any, Listed, Need}
use Rattle.planner.specs.Fronts.{link_at}

-- the front that asks for a need
abbrev pub need_front : Option Item → Front
need_front None = Any
need_front (Some item) = Need item

-- fronts that begin with others
pub record IsGrowing (old new : List Front) : Type 0 where
  pub longer : length old ≤ length new
  pub keeps : (k : ℕ) → k < length old → slice_index_or new k Any ≡ slice_index_or old k Any

-- the fronts past those of the old list are all this one
pub record IsAdded (old new : List Front) (front : Front) : Type 0 where
  pub each : (f : ℕ) → length old ≤ f → f < length new → slice_index_or new f Any ≡ front

-- fronts that begin with those that ask nothing and for the list, and go on with needs, each once
pub record AreFronts (fronts : List Front) : Type 0 where
  pub some : 2 ≤ length fronts
  pub nothing : slice_index_or fronts 0 Listed ≡ Any
  pub all : slice_index_or fronts 1 Any ≡ Listed
  pub needs : (f : ℕ) → 2 ≤ f → f < length fronts → (item : Item) × (slice_index_or fronts f Any ≡ Need item)
  pub once : (x f : ℕ) → 2 ≤ x → x < f → f < length fronts → ¬ (slice_index_or fronts x Any ≡ slice_index_or fronts f Any)

-- whether two links have the same slots and fronts
abbrev pub is_same_link : Link → Link → Bool
is_same_link x y =
    (x.left == y.left) && (x.right == y.right) && (x.left_front == y.left_front) && (x.right_front == y.right_front)

-- the link with its sides exchanged
abbrev pub turned_link : Link → Link
turned_link x =
    record { edge = x.edge; left = x.right; right = x.left; left_front = x.right_front; right_front = x.left_front }

-- or the same either way round
abbrev pub is_alike : Link → Link → Bool
is_alike x y = is_same_link x y || is_same_link (turned_link x) y

-- links that begin with others and have one alike; what was added is the link
pub record IsKeeping (old new : List Link) (link : Link) : Type 0 where
  pub longer : length old ≤ length new
  pub keeps : (i : ℕ) → i < length old → link_at new i ≡ link_at old i
  pub added : (i : ℕ) → length old ≤ i → i < length new → link_at new i ≡ link
  pub place : ℕ
  pub place_in : place < length new
  pub alike : is_alike link (link_at new place) ≡ true
