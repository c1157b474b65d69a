-- Theorems about the Lagrangian value that a programme tells, the plan costs in it, and rent multipliers.
use Rattle.std.specs.Prelude.{◌≡◌, ℕ, ◌≤◌, List, ℤ, ◌≤ℤ◌}
use Rattle.adv_base.specs.Nodes.{Node, available}
use Rattle.adv_base.specs.Settings.{TheSetting, KeepsLimits}
use Rattle.plan_model.specs.Lagrangian.{TheMultipliers, IsRentedCost, IsLagrangian}
use Rattle.bip_model.specs.declared.fix.Fix.{Fix}
use Rattle.bip_model.specs.declared.programme.Programme.{Programme}
use Rattle.bip_model.specs.declared.multipliers.Multipliers.{Multipliers}
use Rattle.bip_model.specs.Best.{HasLagrangian}
use Rattle.bip_model.specs.StandsFor.{AreEach, blocked_from, StandsFor}
use Rattle.bip_model.specs.Uses as of_uses
use Rattle.bip_model.specs.Views.{node_of, multipliers_of, AreMultipliers}
use Rattle.lagrange_bound.specs.Bounds.{candidate_cost, candidate_rents, costs_at, lagrangian}
use Rattle.lagrange_bound.specs.Rents.{rents_of, rent_multipliers}

-- What a programme tells is the Lagrangian value of the setting for which it stands, at every node, overfull ones too, and
-- for all multipliers within the limits.
abbrev pub LagrangianIsIt : Type 0
LagrangianIsIt =
    (setting : TheSetting) (programme : Programme) (budget : ℕ) (fix : Fix) (multipliers : Multipliers) →
    KeepsLimits setting → StandsFor setting programme → AreMultipliers programme multipliers →
    IsLagrangian setting budget (node_of fix) (multipliers_of programme multipliers) (lagrangian programme budget fix multipliers)

-- a value is the Lagrangian value of a node in each setting for which a programme stands
abbrev pub IsLagrangianInEach : Programme → ℕ → Fix → Multipliers → ℤ → Type 0
IsLagrangianInEach programme budget fix multipliers value =
    (setting : TheSetting) → KeepsLimits setting → StandsFor setting programme → IsLagrangian setting budget (node_of fix) (multipliers_of programme multipliers) value

-- multipliers are the rent multipliers of a page price in each
abbrev pub AreRentsInEach : Programme → ℕ → Multipliers → Type 0
AreRentsInEach programme page multipliers =
    (setting : TheSetting) → StandsFor setting programme → multipliers_of programme multipliers ≡ of_uses.rent_multipliers setting page

-- in each the Lagrangian value of a node is at least that under the rent multipliers of a page price
abbrev pub ReachesRentsInEach : Programme → ℕ → Fix → Multipliers → ℕ → Type 0
ReachesRentsInEach programme budget fix multipliers page =
    (setting : TheSetting) → KeepsLimits setting → StandsFor setting programme →
    HasLagrangian setting budget (node_of fix) (of_uses.rent_multipliers setting page)
    (λ low. HasLagrangian setting budget (node_of fix) (multipliers_of programme multipliers) (λ value. low ≤ℤ value))

-- Under the rent multipliers of a page price no candidate earns more than it costs.
abbrev pub RentsAreCovered : Type 0
RentsAreCovered = (programme : Programme) (mu i : ℕ) → candidate_rents programme (rents_of programme mu) i ≤ candidate_cost programme mu i

-- The rent multipliers of a page price that a programme tells are those of the setting for which it stands.
abbrev pub RentMultipliersAgree : Type 0
RentMultipliersAgree =
    (setting : TheSetting) (programme : Programme) (page : ℕ) → StandsFor setting programme →
    multipliers_of programme (rent_multipliers programme page) ≡ of_uses.rent_multipliers setting page

-- these are, block by block, the costs of least plans over the candidates that may be used at a node, which pay rents
abbrev pub AreLeastPlans : TheSetting → ℕ → Node → TheMultipliers → List ℕ → Type 0
AreLeastPlans setting budget node multipliers costs =
    AreEach (λ blocked cost. IsRentedCost setting (available setting.cat setting.shapes budget node) (multipliers.rent blocked.number) blocked.block cost) (blocked_from 1 setting.statements) costs

-- The plan costs that a programme tells of a node, for each of its parts, are those of the setting for which it stands.
abbrev pub PlanCostsAreLeast : Type 0
PlanCostsAreLeast =
    (setting : TheSetting) (programme : Programme) (budget : ℕ) (fix : Fix) (multipliers : Multipliers) →
    KeepsLimits setting → StandsFor setting programme → AreMultipliers programme multipliers →
    AreLeastPlans setting budget (node_of fix) (multipliers_of programme multipliers) (costs_at programme budget fix multipliers)
