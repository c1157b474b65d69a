-- What candidates earn under a set of multipliers.
use Rattle.std.specs.Prelude.{◌≡◌, ℕ, suc, ◌*◌, ◌≤◌, List, [], ◌∷◌, All}
use Rattle.adv_base.specs.declared.catalogue.index.IndexShape.{IndexShape}
use Rattle.adv_base.specs.declared.limits.TheConstants.{MOST_RENT, MOST_SLOTS, MOST_STATEMENTS, MOST_WEIGHT}
use Rattle.adv_base.specs.declared.workload.Statement.{Statement}
use Rattle.adv_base.specs.Settings.{TheSetting}
use Rattle.plan_model.specs.Lagrangian.{weighted_rents}
use Rattle.gap_checker.specs.declared.multipliers.Multipliers.{Multipliers}
use Rattle.gap_checker.specs.declared.multipliers.Rents.{Rents}
use Rattle.gap_checker.specs.Views.{rent_in}

abbrev pub rent_of : Rents → ℕ → ℕ → ℕ → ℕ
rent_of rents q s a = rent_in rents.entries.now q s a

-- the weighted rents of the candidates from number a on
abbrev pub earned_from : (ℕ → ℕ → ℕ → ℕ) → List Statement → ℕ → List IndexShape → List ℕ
earned_from rent statements a [] = []
earned_from rent statements a (shape ∷ shapes) =
    weighted_rents (λ q s. rent q s a) shape.table 1 statements ∷ earned_from rent statements (suc a) shapes

pub record AreEarned (setting : TheSetting) (set : Multipliers) : Type 0 where
  pub earned_are : set.earned.items ≡ earned_from (rent_of set.rents) setting.statements 1 setting.shapes
  pub earned_most : All (λ sum. sum ≤ MOST_STATEMENTS * (MOST_WEIGHT * (MOST_SLOTS * MOST_RENT))) set.earned.items
