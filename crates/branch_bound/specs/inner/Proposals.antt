-- Sets of multipliers that are proposed for a search.
use Rattle.std.specs.Prelude.{◌≡◌, ℕ, ◌<◌, ◌≤◌, ◌≤ℤ◌, List, [], ◌∷◌, All, length, min, take}
use Rattle.bip_model.specs.declared.multipliers.Multipliers.{Multipliers}
use Rattle.bip_model.specs.declared.programme.Programme.{Programme}
use Rattle.bip_model.specs.declared.fix.Fix.{Fix}
use Rattle.bip_model.specs.Views.{AreMultipliers}
use Rattle.lagrange_bound.specs.Bounds.{lagrangian}
use Rattle.lagrange_bound.specs.Rents.{rent_multipliers, tried_price}

-- sets that a search may keep, of at most so many
pub record AreProposed (programme : Programme) (most : ℕ) (sets : List Multipliers) : Type 0 where
  pub some : 1 ≤ length sets
  pub few : length sets ≤ most
  pub fit : All (AreMultipliers programme) sets

-- sets of which the first bounds the root as well as each set of rent multipliers that is tried
pub record AreRaised (programme : Programme) (budget : ℕ) (root : Fix) (most : ℕ) (sets : List Multipliers) : Type 0 where
  pub first : Multipliers
  pub front : take 1 sets ≡ first ∷ []
  pub proposed : AreProposed programme most sets
  pub tried : (i : ℕ) → i < min 41 41 → lagrangian programme budget root (rent_multipliers programme (tried_price i)) ≤ℤ lagrangian programme budget root first
