-- Plan costs that are priced anew one by one.
use Rattle.std.specs.Prelude.{◌≡◌, ℕ, ◌<◌, ◌≤◌, false, List, All, Some, length, drop, take, sum_by, slice_get, slice_index_or}
use Rattle.adv_base.specs.declared.setting.Config.{Config}
use Rattle.bip_model.specs.declared.part.Part.{Part}
use Rattle.bip_model.specs.Values.{MOST_PLAN, part_grants}
use Rattle.lagrange_bound.specs.Rented.{rented_cost, weighted_costs}
use Rattle.lagrange_bound.specs.declared.marked.Marked.{Marked}

-- the cost of the part of a place is that of a configuration
abbrev pub IsPriced : Config → List Part → List ℕ → List ℕ → ℕ → Type 0
IsPriced config parts rents costs k =
    (part : Part) → slice_get parts k ≡ Some part → slice_index_or costs k 0 ≡ rented_cost config part (drop (sum_by part_grants (take k parts)) rents)

-- the parts before a place and those without a mark are priced, and the weighted sum of all costs is so much
pub record ArePriced (task : Marked) (n plans : ℕ) (costs : List ℕ) : Type 0 where
  pub one_each : length costs ≡ length task.parts.now
  pub most : All (λ cost. cost ≤ MOST_PLAN) costs
  pub plans_are : plans ≡ weighted_costs task.parts.now costs
  pub before : (k : ℕ) → k < n → IsPriced task.config.now task.parts.now task.rents.now costs k
  pub unmarked : (k : ℕ) → slice_index_or task.marks.now k false ≡ false → IsPriced task.config.now task.parts.now task.rents.now costs k
