-- The orders that fronts ask for, and the links between slots.
use Rattle.std.specs.Prelude.{ℕ, ◌≡◌, ◌^◌, bit_and, not, ◌<◌, ◌≤◌, ◌⊎◌, ◌==◌, Bool, true, false, ◌&&◌, ◌||◌, if◌then◌else◌, List, [], ◌∷◌, length, Option, Some, None, slice_get, slice_index_or}
use Rattle.std.specs.List.{list_any}
use Rattle.adv_base.specs.Items.{Order, is_same_item}
use Rattle.plan_model.specs.declared.edge.TaskEdge.{TaskEdge}
use Rattle.plan_model.specs.declared.task.Task.{Task}
use Rattle.plan_model.specs.Orders.{need_order, wanted_list}
use Rattle.adv_base.specs.declared.workload.parts.Item.{Item}
use Rattle.planner.specs.declared.front.Front.{Front}
use Rattle.planner.specs.declared.front.Link.{Link}
use Rattle.planner.specs.declared.front.Front.TheVariants.{Any, Listed, Need}

abbrev pub front_order : Order → Front → Order
front_order list Any = []
front_order list Listed = list
front_order list (Need item) = item ∷ []

-- the order that the front of a number asks for
abbrev pub asked : Order → List Front → ℕ → Order
asked list fronts f = front_order list (slice_index_or fronts f Any)

-- the list that the task groups by; where it doesn't group, the list that it orders by
abbrev pub listed : Task → Order
listed task = wanted_list task.group task.order

-- the first item of an order
abbrev pub first_item : Order → Option Item
first_item order = slice_get order 0

-- Of the fronts x and f, where x asks for one item at most, the one that asks for more; nothing where no order begins
-- as both ask. They are given by their first items.
abbrev pub longer_front : Option Item → Option Item → ℕ → ℕ → Option ℕ
longer_front None head x f = Some f
longer_front (Some y) None x f = Some x
longer_front (Some y) (Some z) x f = if is_same_item y z then Some f else None

-- the first item of what a front asks for
abbrev pub head_at : List (Option Item) → ℕ → Option Item
head_at heads f = slice_index_or heads f None

-- the first items of what the fronts ask for
pub record AreHeads (list : Order) (fronts : List Front) (heads : List (Option Item)) : Type 0 where
  pub count : length heads ≡ length fronts
  pub each : (f : ℕ) → f < length fronts → slice_index_or heads f None ≡ first_item (asked list fronts f)

-- Fronts past the first two ask for one item each, and no order begins as two of them ask.
pub record AreHeadsApart (heads : List (Option Item)) : Type 0 where
  pub asks : (f : ℕ) → 2 ≤ f → f < length heads → ¬ (slice_index_or heads f None ≡ None)
  pub apart : (x f : ℕ) → 2 ≤ x → x < length heads → 2 ≤ f → f < length heads → ¬ (f ≡ x) → longer_front (slice_index_or heads x None) (slice_index_or heads f None) x f ≡ None

-- whether a need is the item
abbrev pub is_need : Item → Option Item → Bool
is_need item None = false
is_need item (Some other) = is_same_item other item

-- whether an edge needs the item on one of its sides
abbrev pub needs_item : Item → TaskEdge → Bool
needs_item item edge = is_need item edge.left_need || is_need item edge.right_need

-- each front that asks for an item asks for the need of an edge
pub record AreNeeded (edges : List TaskEdge) (fronts : List Front) : Type 0 where
  pub each : (f : ℕ) (item : Item) → f < length fronts → slice_index_or fronts f Any ≡ Need item → list_any (needs_item item) edges ≡ true

-- a link has the slots of an edge, and its fronts ask for the edge's needs
pub record Ties (list : Order) (fronts : List Front) (edge : TaskEdge) (link : Link) : Type 0 where
  pub left_slot : 2 ^ edge.left ≡ link.left
  pub right_slot : 2 ^ edge.right ≡ link.right
  pub left_in : link.left_front < length fronts
  pub right_in : link.right_front < length fronts
  pub left_asks : asked list fronts link.left_front ≡ need_order edge.left_need
  pub right_asks : asked list fronts link.right_front ≡ need_order edge.right_need

abbrev pub no_link : Link
no_link = record { edge = 0; left = 0; right = 0; left_front = 0; right_front = 0 }

abbrev pub link_at : List Link → ℕ → Link
link_at links i = slice_index_or links i no_link

-- each link is of the edge whose number it has
pub record IsLink (list : Order) (fronts : List Front) (edges : List TaskEdge) (link : Link) : Type 0 where
  pub number : link.edge < length edges
  pub tied : (edge : TaskEdge) → slice_get edges link.edge ≡ Some edge → Ties list fronts edge link

-- the edge with its sides exchanged
abbrev pub turned : TaskEdge → TaskEdge
turned edge =
    record {
      left = edge.right;
      left_column = edge.right_column;
      left_need = edge.right_need;
      right = edge.left;
      right_column = edge.left_column;
      right_need = edge.left_need;
    }

-- a link has the slots and needs of an edge, either way round
abbrev pub Joins : Order → List Front → TaskEdge → Link → Type 0
Joins list fronts edge link = Ties list fronts edge link ⊎ Ties list fronts (turned edge) link

-- some link has the slots and needs of the edge
pub record IsTied (list : Order) (fronts : List Front) (edge : TaskEdge) (links : List Link) : Type 0 where
  pub link : ℕ
  pub link_in : link < length links
  pub joins : Joins list fronts edge (link_at links link)

-- links of edges, and one for each of the first n edges
pub record AreLinks (list : Order) (fronts : List Front) (edges : List TaskEdge) (links : List Link) (n : ℕ) : Type 0 where
  pub each : (i : ℕ) → i < length links → IsLink list fronts edges (link_at links i)
  pub all : (k : ℕ) (edge : TaskEdge) → k < n → slice_get edges k ≡ Some edge → ∥ IsTied list fronts edge links ∥₁

-- whether two sets have a slot in common
abbrev pub meet : ℕ → ℕ → Bool
meet one other = not (bit_and one other == 0)

-- whether a link has one end in each of two sets
abbrev pub crosses_link : ℕ → ℕ → Link → Bool
crosses_link a b link = (meet a link.left && meet b link.right) || (meet a link.right && meet b link.left)

-- the front that a set's side of a merge on a link has to serve
abbrev pub side_front : Link → ℕ → ℕ
side_front link set = if meet set link.left then link.left_front else link.right_front

-- whether the order o begins with another
abbrev pub begins_test : Order → Order → Bool
begins_test o [] = true
begins_test [] (y ∷ ys) = false
begins_test (x ∷ xs) (y ∷ ys) = is_same_item x y && begins_test xs ys

-- The first front asks nothing and the second asks for the list; the others are needs of edges, each once. The edges'
-- needs have links, and the first items are at hand.
pub record AreNeeds (task : Task) (fronts : List Front) (heads : List (Option Item)) (links : List Link) : Type 0 where
  pub some : 2 ≤ length fronts
  pub nothing : slice_index_or fronts 0 Listed ≡ Any
  pub all : slice_index_or fronts 1 Any ≡ Listed
  pub first : AreHeads (listed task) fronts heads
  pub apart : AreHeadsApart heads
  pub needed : AreNeeded task.edges fronts
  pub linked : AreLinks (listed task) fronts task.edges links (length task.edges)
