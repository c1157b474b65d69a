-- Limits of spaces.
use Rattle.std.specs.Prelude.{ℕ, ◌≤◌, List, length, All}
use Rattle.adv_base.specs.declared.limits.TheConstants.{MOST_CANDIDATES, MOST_INDEX_PAGES}

-- at most 256 candidates, each of which keeps the limit of an index's pages
pub record SpaceLimits (sizes : List ℕ) : Type 0 where
  pub sizes_most : length sizes ≤ MOST_CANDIDATES
  pub pages_most : All (λ pages. pages ≤ MOST_INDEX_PAGES) sizes
