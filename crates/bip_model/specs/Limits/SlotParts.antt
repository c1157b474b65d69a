-- Limits of the slots of a programme.
use Rattle.std.specs.Prelude.{◌≡◌, ℕ, ◌≤◌, List, length, All, Option}
use Rattle.adv_base.specs.declared.limits.TheConstants.{MOST_CANDIDATES}
use Rattle.bip_model.specs.declared.grant.Grant.{Grant}
use Rattle.bip_model.specs.Limits.Grants.{MOST_ORDERS, ArePrices}

-- at most 256 orders, and at most 256 grants with a place for each
pub record SlotLimits (base : List (Option ℕ)) (grants : List Grant) : Type 0 where
  pub orders_most : length base ≤ MOST_ORDERS
  pub base_limits : ArePrices base
  pub grants_most : length grants ≤ MOST_CANDIDATES
  pub one_each : All (λ grant. length grant.prices ≡ length base) grants
