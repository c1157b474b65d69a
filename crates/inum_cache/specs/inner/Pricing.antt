-- The least prices at which slots give orders, and what templates cost over them.
use Rattle.std.specs.Prelude.{◌≡◌, ℕ, zero, suc, ◌+◌, ◌<◌, ◌≤◌, nat_lt, if◌then◌else◌, List, [], length, slice_get, slice_index_or}
use Rattle.std.specs.Option.{option_map_or}
use Rattle.adv_base.specs.Items.{Order}
use Rattle.adv_base.specs.Offers.{OfferTable}
use Rattle.adv_base.specs.OfferTables.{price_at, order_at}
use Rattle.plan_model.specs.Exchange.{sum_below}
use Rattle.plan_model.specs.declared.template.Template.{Template}
use Rattle.planner.specs.Fronts.{begins_test}
use Rattle.inum_cache.specs.declared.lookup.KnownPrices.{KnownPrices}
use Rattle.inum_cache.specs.declared.lookup.TheConstants.{UNOFFERED}
use Rattle.inum_cache.specs.Numbering.{order_in}

abbrev pub lower : ℕ → ℕ → ℕ
lower least other = if nat_lt other least then other else least

-- the least of a number and what a function gives for the numbers below n
abbrev pub least_below : ℕ → (ℕ → ℕ) → ℕ → ℕ
least_below most f zero = most
least_below most f (suc n) = lower (least_below most f n) (f n)

-- the price of an offer where it begins with the order
abbrev pub offer_price : OfferTable → ℕ → Order → ℕ → ℕ
offer_price table slot order offer =
    if begins_test (order_at table slot offer) order then price_at table slot offer else UNOFFERED

-- the least price at which a slot gives the order
abbrev pub best_price : OfferTable → ℕ → Order → ℕ
best_price table slot order = least_below UNOFFERED (offer_price table slot order) (length (table slot))

-- the least price of the order that a template needs of a slot
abbrev pub own_price : OfferTable → List (List Order) → Template → ℕ → ℕ
own_price table orders template slot = best_price table slot (order_in orders slot (slice_index_or template.needs slot 0))

-- what comes of a template's internal cost and these prices
abbrev pub template_cost : OfferTable → List (List Order) → Template → ℕ
template_cost table orders template = template.internal + sum_below (own_price table orders template) (length orders)

-- the same of the template of a number
abbrev pub cost_at : OfferTable → List (List Order) → List Template → ℕ → ℕ
cost_at table orders templates k = option_map_or (template_cost table orders) (slice_get templates k) 0

-- the least of these over the first k templates
abbrev pub least_cost : OfferTable → List (List Order) → List Template → ℕ → ℕ
least_cost table orders templates k = least_below UNOFFERED (cost_at table orders templates) k

-- the least prices of the slots below n for orders
abbrev pub AreLeast : OfferTable → ℕ → (ℕ → Order) → List ℕ → Type 0
AreLeast table n orders prices =
    (slot : ℕ) → slot < n → (slice_index_or prices slot 0 ≡ best_price table slot (orders slot)) × (slice_index_or prices slot 0 ≤ UNOFFERED)

-- what is known of prices is so
pub record AreKnown (table : OfferTable) (orders : List (List Order)) (known : KnownPrices) : Type 0 where
  pub least : AreLeast table (length orders) (λ slot. []) known.least
  pub own : AreLeast table (length orders) (λ slot. order_in orders slot (slice_index_or known.places slot 0)) known.prices
