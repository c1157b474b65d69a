-- What a cache holds.
use Rattle.std.specs.Prelude.{◌≡◌, ℕ, ◌<◌, List, [], length, slice_index_or}
use Rattle.adv_base.specs.Items.{Order}
use Rattle.adv_base.specs.Offers.{OfferTable}
use Rattle.adv_base.specs.OfferTables.{order_at}
use Rattle.plan_model.specs.declared.task.Task.{Task}
use Rattle.plan_model.specs.Orders.{interesting_orders}
use Rattle.plan_model.specs.Combinations.{Orders, IsIn, AreKept}
use Rattle.inum_cache.specs.declared.cache.Cache.{Cache}
use Rattle.inum_cache.specs.Templates.{AreInOrder}

-- a cache's orders of a slot
abbrev pub orders_of : Cache → ℕ → List Order
orders_of cache slot = slice_index_or cache.choices.orders slot []

-- the combination that asks for no order
abbrev pub no_orders : Orders
no_orders slot = []

-- The cache is one of the task: it has the interesting orders of each slot, and the templates of the combinations that no
-- weaker one replaces, with that of no orders among them, in order.
pub record IsCacheOf (task : Task) (cache : Cache) : Type 0 where
  pub slots : length cache.choices.orders ≡ task.slots
  pub orders : (slot : ℕ) → slot < task.slots → orders_of cache slot ≡ interesting_orders task slot
  pub kept : AreKept task cache.templates
  pub in_order : AreInOrder cache.templates
  pub internal : ℕ
  pub plain : IsIn task cache.templates no_orders internal

-- a slot has an offer with no order
pub record HasPlain (table : OfferTable) (slot : ℕ) : Type 0 where
  pub number : ℕ
  pub within : number < length (table slot)
  pub no_order : order_at table slot number ≡ []

-- each slot of a cache has one
abbrev pub HavePlain : Cache → OfferTable → Type 0
HavePlain cache table = (slot : ℕ) → slot < length cache.choices.orders → HasPlain table slot
