-- Limits of programmes.
use Rattle.std.specs.Prelude.{◌≡◌, ℕ, ◌*◌, ◌≤◌, List, length, All}
use Rattle.adv_base.specs.declared.limits.TheConstants.{MOST_CANDIDATES, MOST_INDEX_PAGES, MOST_INDEXES, MOST_STATEMENTS, MOST_UPKEEP, MOST_WEIGHT}
use Rattle.bip_model.specs.declared.part.Part.{Part}

-- a grant is of one of that many candidates
abbrev pub GrantsWithin : ℕ → Part → Type 0
GrantsWithin count part = All (λ slot. All (λ grant. grant.candidate ≤ count) slot.grants) part.slots

-- at most 256 candidates, each with its pages and its upkeep by all statements; at most 1000 parts, whose grants are of
-- these candidates
pub record ProgrammeLimits (sizes upkeep : List ℕ) (kept : ℕ) (parts : List Part) : Type 0 where
  pub sizes_most : length sizes ≤ MOST_CANDIDATES
  pub pages_most : All (λ pages. pages ≤ MOST_INDEX_PAGES) sizes
  pub upkeep_each : length upkeep ≡ length sizes
  pub upkeep_most : All (λ cost. cost ≤ MOST_STATEMENTS * (MOST_WEIGHT * MOST_UPKEEP)) upkeep
  pub kept_most : kept ≤ MOST_STATEMENTS * (MOST_WEIGHT * (MOST_INDEXES * MOST_UPKEEP))
  pub parts_most : length parts ≤ MOST_STATEMENTS
  pub candidates : All (GrantsWithin (length sizes)) parts
