-- The lists that a plan's sorts may be by.
use Rattle.std.specs.Prelude.{◌≡◌, ℕ, ◌⊎◌, List, [], ◌∷◌, Some, slice_get}
use Rattle.adv_base.specs.declared.workload.parts.Item.{Item}
use Rattle.adv_base.specs.Items.{Order}
use Rattle.plan_model.specs.Orders.{wanted_list}
use Rattle.plan_model.specs.declared.edge.TaskEdge.{TaskEdge}
use Rattle.plan_model.specs.declared.plan.Plan.{Plan}
use Rattle.plan_model.specs.declared.plan.Plan.TheVariants.{Leaf, Sort', Merge', Hash'}
use Rattle.plan_model.specs.declared.task.Task.{Task}

-- some edge needs the item on one of its sides
pub record IsNeeded (edges : List TaskEdge) (item : Item) : Type 0 where
  pub number : ℕ
  pub edge : TaskEdge
  pub found : slice_get edges number ≡ Some edge
  pub needs : (edge.left_need ≡ Some item) ⊎ (edge.right_need ≡ Some item)

-- the list that the task groups by, or else orders by; or one item that an edge needs
abbrev pub IsWantedList : Task → Order → Type 0
IsWantedList task order =
    (order ≡ wanted_list task.group task.order) ⊎ ((item : Item) × (order ≡ item ∷ []) × IsNeeded task.edges item)

-- each sort in the plan is by such a list
abbrev pub SortsWanted : Task → Plan → Type 0
SortsWanted task (Leaf slot offer) = Unit {0}
SortsWanted task (Sort' order p input) = IsWantedList task order × SortsWanted task input
SortsWanted task (Merge' edge p left q right) = SortsWanted task left × SortsWanted task right
SortsWanted task (Hash' p left q right) = SortsWanted task left × SortsWanted task right
