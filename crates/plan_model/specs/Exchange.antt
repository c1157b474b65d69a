-- What of a plan doesn't depend on how its slots are read, after INUM: its tree, and what all above its leaves costs.
use Rattle.std.specs.Prelude.{◌≡◌, ℕ, zero, suc, ◌+◌, ◌<◌, Bool, true, ◌⊎◌, if◌then◌else◌, length, All, Some, slice_get}
use Rattle.adv_base.specs.Items.{Order, BeginsWith}
use Rattle.adv_base.specs.Offers.{OfferTable}
use Rattle.adv_base.specs.Sets.{has_slot}
use Rattle.plan_model.specs.declared.edge.TaskEdge.{TaskEdge}
use Rattle.plan_model.specs.declared.plan.Plan.{Plan}
use Rattle.plan_model.specs.declared.plan.Plan.TheVariants.{Leaf, Sort', Merge', Hash'}
use Rattle.plan_model.specs.declared.plan.Whole.{Whole}
use Rattle.plan_model.specs.declared.task.Task.{Task}
use Rattle.adv_base.specs.OfferTables.{price_at, order_at, OfferTableLimits}
use Rattle.plan_model.specs.Orders.{interesting_orders, wanted_list}
use Rattle.plan_model.specs.Plans.{covers, delivers, side_need, IsValid, IsWhole}
use Rattle.plan_model.specs.Costs.{rows_in, sort_cost, merge_of, hash_of, plan_cost, group_cost, final_rows, whole_cost}

-- what a plan costs without its leaves
abbrev pub internal : Task → Plan → ℕ
internal task (Leaf slot offer) = 0
internal task (Sort' order p input) = internal task input + sort_cost task.rates (rows_in task (covers input))
internal task (Merge' edge p left q right) =
    internal task left + internal task right + merge_of task (covers left) (covers right)
internal task (Hash' p left q right) =
    internal task left + internal task right + hash_of task (covers left) (covers right)

-- the same of a whole plan
abbrev pub whole_internal : Task → Whole → ℕ
whole_internal task whole =
    internal task whole.body + group_cost task.rates whole.group (rows_in task (covers whole.body))
    + (if whole.final_sort then sort_cost task.rates (final_rows task task.group (rows_in task (covers whole.body))) else 0)

-- the number of the offer by which a plan reads a slot that it covers
abbrev pub choice : Plan → ℕ → ℕ
choice (Leaf own offer) slot = offer
choice (Sort' order p input) slot = choice input slot
choice (Merge' edge p left q right) slot = if has_slot (covers left) slot then choice left slot else choice right slot
choice (Hash' p left q right) slot = if has_slot (covers left) slot then choice left slot else choice right slot

-- what the leaf of a slot costs
abbrev pub leaf_price : OfferTable → Plan → ℕ → ℕ
leaf_price table plan slot = price_at table slot (choice plan slot)

-- the order in which the leaf of a slot reads it
abbrev pub leaf_order : OfferTable → Plan → ℕ → Order
leaf_order table plan slot = order_at table slot (choice plan slot)

-- the sum of what a function gives for the slots below n that are in the set
abbrev pub sum_over : ℕ → (ℕ → ℕ) → ℕ → ℕ
sum_over set f zero = 0
sum_over set f (suc n) = sum_over set f n + (if has_slot set n then f n else 0)

-- the sum of what a function gives for the slots below n
abbrev pub sum_below : (ℕ → ℕ) → ℕ → ℕ
sum_below f zero = 0
sum_below f (suc n) = sum_below f n + f n

-- the same tree, each slot read by the offer of the number that is given for it
abbrev pub exchange : (ℕ → ℕ) → Plan → Plan
exchange chosen (Leaf slot offer) = Leaf slot (chosen slot)
exchange chosen (Sort' order p input) = Sort' order p (exchange chosen input)
exchange chosen (Merge' edge p left q right) = Merge' edge p (exchange chosen left) q (exchange chosen right)
exchange chosen (Hash' p left q right) = Hash' p (exchange chosen left) q (exchange chosen right)

abbrev pub exchange_whole : (ℕ → ℕ) → Whole → Whole
exchange_whole chosen whole =
    record { body = exchange chosen whole.body; group = whole.group; final_sort = whole.final_sort }

-- the order r begins with each of a slot's interesting orders with which o begins
abbrev pub ServesLike : Task → ℕ → Order → Order → Type 0
ServesLike task slot o r = All (λ order. BeginsWith o order → BeginsWith r order) (interesting_orders task slot)

-- the table has an offer of that number for the slot, and it serves what the order serves
pub record Replaces (task : Task) (slot : ℕ) (order : Order) (table : OfferTable) (number : ℕ) : Type 0 where
  pub exists : number < length (table slot)
  pub serves : ServesLike task slot order (order_at table slot number)

-- each leaf of a plan over the old table can be exchanged for the chosen offer of the new one
abbrev pub AreReplaced : Task → OfferTable → OfferTable → (ℕ → ℕ) → Plan → Type 0
AreReplaced task old new chosen plan =
    (slot : ℕ) → has_slot (covers plan) slot ≡ true → Replaces task slot (leaf_order old plan slot) new (chosen slot)

-- the order by which a merge on some edge wants one of its sides to begin
pub record IsNeed (task : Task) (order : Order) : Type 0 where
  pub number : ℕ
  pub edge : TaskEdge
  pub found : slice_get task.edges number ≡ Some edge
  pub set : ℕ
  pub needed : order ≡ side_need edge set

-- all that an operator asks of the order of its input: to begin as an edge needs, or with the list to group or order by
abbrev pub IsFront : Task → Order → Type 0
IsFront task order = IsNeed task order ⊎ (order ≡ wanted_list task.group task.order)

-- Splitting: a valid plan costs its internal cost and the prices of its leaves, one for each slot that it covers.
abbrev pub CostSplits : Type 0
CostSplits =
    (sorts : Bool) (task : Task) (table : OfferTable) (plan : Plan) → IsValid sorts task table plan →
    plan_cost task table plan ≡ internal task plan + sum_over (covers plan) (leaf_price table plan) task.slots

-- Likewise a whole plan, whose leaves are of all slots.
abbrev pub WholeCostSplits : Type 0
WholeCostSplits =
    (task : Task) (table : OfferTable) (whole : Whole) → IsWhole task table whole →
    whole_cost task table whole ≡ whole_internal task whole + sum_below (leaf_price table whole.body) task.slots

-- what exchanging the leaves of a valid plan leaves as it was
pub record IsExchanged (sorts : Bool) (task : Task) (old new : OfferTable) (plan other : Plan) : Type 0 where
  pub valid : IsValid sorts task new other
  pub covers_same : covers other ≡ covers plan
  pub costs_same : internal task other ≡ internal task plan
  pub serves_same : (order : Order) → IsFront task order → BeginsWith (delivers old plan) order → BeginsWith (delivers new other) order

-- the same of whole plans
pub record IsWholeExchanged (task : Task) (new : OfferTable) (whole other : Whole) : Type 0 where
  pub valid : IsWhole task new other
  pub costs_same : whole_internal task other ≡ whole_internal task whole

-- Exchange: where the new leaf of each slot begins with each interesting order of the slot with which the old leaf
-- begins, the plan with the new leaves is valid, covers the same, has the same internal cost, and serves what it served.
abbrev pub LeavesExchange : Type 0
LeavesExchange =
    (sorts : Bool) (task : Task) (old new : OfferTable) (chosen : ℕ → ℕ) (plan : Plan) → OfferTableLimits old →
    IsValid sorts task old plan → AreReplaced task old new chosen plan →
    IsExchanged sorts task old new plan (exchange chosen plan)

abbrev pub WholeLeavesExchange : Type 0
WholeLeavesExchange =
    (task : Task) (old new : OfferTable) (chosen : ℕ → ℕ) (whole : Whole) → OfferTableLimits old →
    IsWhole task old whole → AreReplaced task old new chosen whole.body →
    IsWholeExchanged task new whole (exchange_whole chosen whole)
