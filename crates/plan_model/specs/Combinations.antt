-- Combinations of interesting orders, what plans cost above leaves that deliver them, and the cost that a cache of such
-- plans gives, after INUM.
use Rattle.std.specs.Prelude.{◌≡◌, ◌≢◌, ℕ, ◌+◌, ◌<◌, ◌≤◌, true, ◌↔◌, List, [], ◌∷◌, length, Some, slice_get, slice_index_or}
use Rattle.std.specs.List.{list_any}
use Rattle.adv_base.specs.Items.{Order, BeginsWith, is_same_order}
use Rattle.adv_base.specs.Offers.{OfferTable}
use Rattle.plan_model.specs.declared.plan.Whole.{Whole}
use Rattle.plan_model.specs.declared.task.Task.{Task}
use Rattle.plan_model.specs.declared.template.Template.{Template}
use Rattle.adv_base.specs.OfferTables.{price_at, order_at, OfferTableLimits}
use Rattle.plan_model.specs.Orders.{interesting_orders}
use Rattle.plan_model.specs.Plans.{IsWhole}
use Rattle.plan_model.specs.Costs.{whole_cost}
use Rattle.plan_model.specs.Least.{IsCostOfPlan, Least}
use Rattle.plan_model.specs.Exchange.{sum_below}

-- an order for each slot
abbrev pub Orders : Type 0
Orders = ℕ → Order

-- a combination gives each slot one of its interesting orders
abbrev pub IsCombination : Task → Orders → Type 0
IsCombination task needs = (slot : ℕ) → list_any (is_same_order (needs slot)) (interesting_orders task slot) ≡ true

-- the table where each slot has one offer, which delivers the slot's order and costs nothing
abbrev pub free : Orders → OfferTable
free needs slot = (needs slot, 0) ∷ []

-- what a least plan costs above leaves that deliver these orders
abbrev pub IsInternal : Task → Orders → ℕ → Type 0
IsInternal task needs cost = Least task (free needs) cost

-- a slot has an offer of that price that begins with the order
pub record IsOffered (table : OfferTable) (slot : ℕ) (order : Order) (price : ℕ) : Type 0 where
  pub number : ℕ
  pub within : number < length (table slot)
  pub begins : BeginsWith (order_at table slot number) order
  pub costs : price_at table slot number ≡ price

-- and none that begins with the order costs less
pub record IsLeastPrice (table : OfferTable) (slot : ℕ) (order : Order) (price : ℕ) : Type 0 where
  pub offered : IsOffered table slot order price
  pub none_less : (other : ℕ) → IsOffered table slot order other → price ≤ other

-- what comes of an internal cost and, for each slot, the least price of an offer that begins with its order
pub record IsPriced (task : Task) (table : OfferTable) (needs : Orders) (internal cost : ℕ) : Type 0 where
  pub prices : ℕ → ℕ
  pub each : (slot : ℕ) → slot < task.slots → IsLeastPrice table slot (needs slot) (prices slot)
  pub sum : cost ≡ internal + sum_below prices task.slots

-- a set of templates: each with the orders that it needs and its internal cost
abbrev pub Templates : Type 1
Templates = Orders → ℕ → Type 0

-- the least cost that the templates give, over those for which each slot has an offer that begins with its order
pub record CachedBy (templates : Templates) (task : Task) (table : OfferTable) (cost : ℕ) : Type 0 where
  pub needs : Orders
  pub internal : ℕ
  pub template : templates needs internal
  pub priced : IsPriced task table needs internal cost
  pub none_less : (other : Orders) (above sum : ℕ) → templates other above → IsPriced task table other above sum → cost ≤ sum

-- one template for each combination
pub record IsEach (task : Task) (needs : Orders) (internal : ℕ) : Type 0 where
  pub combination : IsCombination task needs
  pub least : IsInternal task needs internal

-- the cached cost: the least over all combinations
abbrev pub Cached : Task → OfferTable → ℕ → Type 0
Cached task table cost = CachedBy (IsEach task) task table cost

-- a combination weakens another where it asks of each slot for a front of what that one asks, and of some slot for less
pub record Weakens (task : Task) (weaker needs : Orders) : Type 0 where
  pub fronts : (slot : ℕ) → BeginsWith (needs slot) (weaker slot)
  pub slot : ℕ
  pub of_task : slot < task.slots
  pub differs : weaker slot ≢ needs slot

-- a combination is kept unless one that weakens it has at most its internal cost
pub record IsKept (task : Task) (needs : Orders) (internal : ℕ) : Type 0 where
  pub each : IsEach task needs internal
  pub none_weaker : (weaker : Orders) (other : ℕ) → Weakens task weaker needs → IsEach task weaker other → internal < other

-- some template asks of each slot for a front of the slot's order, and its internal cost is at most that
pub record Covers (templates : Templates) (needs : Orders) (cost : ℕ) : Type 0 where
  pub other : Orders
  pub internal : ℕ
  pub template : templates other internal
  pub fronts : (slot : ℕ) → BeginsWith (needs slot) (other slot)
  pub less : internal ≤ cost

-- The templates are enough: each is a combination with the cost of some plan above such leaves, and each plan above
-- leaves that deliver a combination costs at least as much as some template that asks for no more.
pub record AreEnough (task : Task) (templates : Templates) : Type 0 where
  pub combination : (needs : Orders) (internal : ℕ) → templates needs internal → IsCombination task needs
  pub plan : (needs : Orders) (internal : ℕ) → templates needs internal → IsCostOfPlan task (free needs) internal
  pub covers : (needs : Orders) (whole : Whole) → IsCombination task needs → IsWhole task (free needs) whole → Covers templates needs (whole_cost task (free needs) whole)

-- The cached cost is the cost of a least plan.
abbrev pub CacheDecomposes : Type 0
CacheDecomposes =
    (task : Task) (table : OfferTable) (cost : ℕ) → OfferTableLimits table → Cached task table cost ↔ Least task table cost

-- So is the least over the combinations that are kept.
abbrev pub KeptDecompose : Type 0
KeptDecompose =
    (task : Task) (table : OfferTable) (cost : ℕ) → OfferTableLimits table →
    CachedBy (IsKept task) task table cost → Least task table cost

-- the orders that a template needs, by their numbers among the interesting ones
abbrev pub needed : Task → Template → Orders
needed task template slot = slice_index_or (interesting_orders task slot) (slice_index_or template.needs slot 0) []

-- one of the templates in a list
pub record IsIn (task : Task) (templates : List Template) (needs : Orders) (internal : ℕ) : Type 0 where
  pub number : ℕ
  pub template : Template
  pub found : slice_get templates number ≡ Some template
  pub needs_are : (slot : ℕ) → needs slot ≡ needed task template slot
  pub internal_is : internal ≡ template.internal

-- Templates decompose a task: for every table in which each slot has an offer, their least cost is that of a least plan.
abbrev pub Decompose : Task → List Template → Type 0
Decompose task templates =
    (table : OfferTable) (cost : ℕ) → OfferTableLimits table →
    CachedBy (IsIn task templates) task table cost ↔ Least task table cost

-- Decomposition: enough templates decompose their task.
abbrev pub EnoughDecompose : Type 0
EnoughDecompose = (task : Task) (templates : List Template) → AreEnough task (IsIn task templates) → Decompose task templates

-- the templates are those of all combinations
pub record AreEach (task : Task) (templates : List Template) : Type 0 where
  pub each : (needs : Orders) (internal : ℕ) → IsIn task templates needs internal → IsEach task needs internal
  pub all : (needs : Orders) (internal : ℕ) → IsEach task needs internal → IsIn task templates needs internal

-- the templates are those of the combinations that are kept
pub record AreKept (task : Task) (templates : List Template) : Type 0 where
  pub kept : (needs : Orders) (internal : ℕ) → IsIn task templates needs internal → IsKept task needs internal
  pub all : (needs : Orders) (internal : ℕ) → IsKept task needs internal → IsIn task templates needs internal

-- One template for each combination decomposes the task.
abbrev pub EachDecompose : Type 0
EachDecompose = (task : Task) (templates : List Template) → AreEach task templates → Decompose task templates

-- One for each combination that is kept does so too.
abbrev pub KeptListDecompose : Type 0
KeptListDecompose = (task : Task) (templates : List Template) → AreKept task templates → Decompose task templates

-- one of the templates asks none of the task's slots for an order
pub record SomeAsksNothing (task : Task) (templates : List Template) : Type 0 where
  pub number : ℕ
  pub template : Template
  pub found : slice_get templates number ≡ Some template
  pub asks_nothing : (slot : ℕ) → slot < task.slots → needed task template slot ≡ []

-- One of the templates that decompose a task does, so that they give a cost for each table in which each slot has an offer.
abbrev pub DecomposingAskNothing : Type 0
DecomposingAskNothing = (task : Task) (templates : List Template) → Decompose task templates → SomeAsksNothing task templates
