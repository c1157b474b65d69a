-- Limits of grants.
use Rattle.std.specs.Prelude.{ℕ, ◌≤◌, List, All, Option}
use Rattle.std.specs.Option.{ForSome}
use Rattle.adv_base.specs.declared.limits.TheConstants.{MOST_CANDIDATES, MOST_PRICE}

-- the interesting orders of a slot: a template tells one by a number of a byte
abbrev pub MOST_ORDERS : ℕ
MOST_ORDERS = 256

-- what is given is given at a price of an offer
abbrev pub ArePrices : List (Option ℕ) → Type 0
ArePrices prices = All (λ price. ForSome price (λ p. p ≤ MOST_PRICE)) prices

-- the number of a candidate, and prices
pub record GrantLimits (candidate : ℕ) (prices : List (Option ℕ)) : Type 0 where
  pub least : 1 ≤ candidate
  pub most : candidate ≤ MOST_CANDIDATES
  pub prices_limits : ArePrices prices
