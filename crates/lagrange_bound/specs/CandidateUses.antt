-- The grants of each candidate with the weights of their statements.
use Rattle.std.specs.Prelude.{◌≡◌, ℕ, suc, ◌+◌, ◌*◌, ◌<◌, List, [], ◌∷◌, All, length, sum_by, slice_index_or}
use Rattle.adv_base.specs.declared.limits.TheConstants.{MOST_CANDIDATES}
use Rattle.bip_model.specs.declared.part.Part.{Part}
use Rattle.bip_model.specs.Values.{part_grants}
use Rattle.lagrange_bound.specs.Bounds.{part_rents}
use Rattle.lagrange_bound.specs.declared.uses.WeightedGrant.{WeightedGrant}

-- what the rents of grants bring in by weight
abbrev pub weighted_rents : List WeightedGrant → List ℕ → ℕ
weighted_rents [] rents = 0
weighted_rents (grant ∷ grants) rents = grant.weight * slice_index_or rents grant.number 0 + weighted_rents grants rents

-- the grants of the candidate at a place: whatever the rents, they bring in what they do for it
pub record AreUses (parts : List Part) (a : ℕ) (grants : List WeightedGrant) : Type 0 where
  pub within : All (λ grant. grant.number < sum_by part_grants parts) grants
  pub bring : (rents : List ℕ) → length rents ≡ sum_by part_grants parts → weighted_rents grants rents ≡ part_rents (suc a) parts rents

-- the grants of all candidates
pub record AreAllUses (parts : List Part) (all : List (List WeightedGrant)) : Type 0 where
  pub long : length all ≡ MOST_CANDIDATES
  pub each : (a : ℕ) → a < MOST_CANDIDATES → AreUses parts a (slice_index_or all a [])
