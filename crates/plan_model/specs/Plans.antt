-- Which plans are valid for a task over a table of offers.
use Rattle.std.specs.Prelude.{◌≡◌, ◌≢◌, ℕ, ◌+◌, ◌^◌, ◌<◌, bit_and, Bool, true, false, IsTrue, if◌then◌else◌, [], length, All, Option, Some, None, slice_get}
use Rattle.std.specs.List.{list_any}
use Rattle.adv_base.specs.declared.workload.parts.Item.{Item}
use Rattle.adv_base.specs.declared.workload.parts.Item.TheVariants.{Up, Down, Made}
use Rattle.adv_base.specs.Items.{Order, BeginsWith}
use Rattle.adv_base.specs.Offers.{OfferTable}
use Rattle.adv_base.specs.Sets.{all_slots, has_slot, is_crossing}
use Rattle.plan_model.specs.declared.edge.TaskEdge.{TaskEdge}
use Rattle.plan_model.specs.declared.plan.GroupStep.{GroupStep}
use Rattle.plan_model.specs.declared.plan.GroupStep.TheVariants.{Nothing, Sorted, Hashed}
use Rattle.plan_model.specs.declared.plan.Plan.{Plan}
use Rattle.plan_model.specs.declared.plan.Plan.TheVariants.{Leaf, Sort', Merge', Hash'}
use Rattle.plan_model.specs.declared.plan.Whole.{Whole}
use Rattle.plan_model.specs.declared.task.Task.{Task}
use Rattle.plan_model.specs.Limits.Tasks.{ends}
use Rattle.adv_base.specs.OfferTables.{order_at}
use Rattle.plan_model.specs.Orders.{need_order}

-- the set of slots that a plan reads
abbrev pub covers : Plan → ℕ
covers (Leaf slot offer) = 2 ^ slot
covers (Sort' order p input) = covers input
covers (Merge' edge p left q right) = covers left + covers right
covers (Hash' p left q right) = covers left + covers right

-- the order in which a plan gives its rows
abbrev pub delivers : OfferTable → Plan → Order
delivers table (Leaf slot offer) = order_at table slot offer
delivers table (Sort' order p input) = order
delivers table (Merge' edge p left q right) = delivers table left
delivers table (Hash' p left q right) = []

-- a column, upwards or downwards, of a slot in the set
abbrev pub is_column_of : ℕ → Item → Bool
is_column_of set (Up slot column) = has_slot set slot
is_column_of set (Down slot column) = has_slot set slot
is_column_of set (Made number) = false

abbrev pub crosses : ℕ → ℕ → TaskEdge → Bool
crosses a b edge = is_crossing a b (ends edge)

-- the order by which a merge on the edge wants its side on the set to begin
abbrev pub side_need : TaskEdge → ℕ → Order
side_need edge set = need_order (if has_slot set edge.left then edge.left_need else edge.right_need)

-- Sides that cover a and b and deliver o and r can be merged on the edge of a number: it crosses between them, and what
-- each side delivers serves the edge's need there.
pub record Merges (task : Task) (number a b : ℕ) (o r : Order) : Type 0 where
  pub edge : TaskEdge
  pub found : slice_get task.edges number ≡ Some edge
  pub crossing : crosses a b edge ≡ true
  pub left_begins : BeginsWith o (side_need edge a)
  pub right_begins : BeginsWith r (side_need edge b)

-- A plan is valid; `sorts` says that a sort may stand at its top.
abbrev pub IsValid : Bool → Task → OfferTable → Plan → Type 0
IsValid sorts task table (Leaf slot offer) = (slot < task.slots) × (offer < length (table slot))
IsValid sorts task table (Sort' order p input) =
    IsTrue sorts × IsValid false task table input × All (λ item. is_column_of (covers input) item ≡ true) order
IsValid sorts task table (Merge' edge p left q right) =
    IsValid true task table left × IsValid true task table right × (bit_and (covers left) (covers right) ≡ 0)
    × Merges task edge (covers left) (covers right) (delivers table left) (delivers table right)
IsValid sorts task table (Hash' p left q right) =
    IsValid false task table left × IsValid false task table right × (bit_and (covers left) (covers right) ≡ 0)
    × (list_any (crosses (covers left) (covers right)) task.edges ≡ true)

-- a sort may be the body's top only under a sorted group
abbrev pub body_sorts : GroupStep → Bool
body_sorts Nothing = false
body_sorts Sorted = true
body_sorts Hashed = false

-- The group step fits the list to group by: there is one exactly where there is a list, and a sorted one takes an order
-- that begins with the list.
abbrev pub FitsGroup : Option Order → GroupStep → Order → Type 0
FitsGroup None Nothing order = Unit {0}
FitsGroup (Some group) Sorted order = BeginsWith order group
FitsGroup (Some group) Hashed order = Unit {0}
FitsGroup group step order = ⊥

-- the order after the group step
abbrev pub group_order : Option Order → GroupStep → Order → Order
group_order group Nothing order = order
group_order (Some group) Sorted order = group
group_order None Sorted order = order
group_order group Hashed order = []

-- the order after a final sort
abbrev pub whole_order : Task → OfferTable → Whole → Order
whole_order task table whole =
    if whole.final_sort then task.order else group_order task.group whole.group (delivers table whole.body)

-- a valid plan of the whole task
pub record IsWhole (task : Task) (table : OfferTable) (whole : Whole) : Type 0 where
  pub body_valid : IsValid (body_sorts whole.group) task table whole.body
  pub covers_all : covers whole.body ≡ all_slots task.slots
  pub group_fits : FitsGroup task.group whole.group (delivers table whole.body)
  pub sorts_by_something : IsTrue whole.final_sort → task.order ≢ []
  pub ordered : BeginsWith (whole_order task table whole) task.order
