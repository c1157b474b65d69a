-- The sums of a Lagrangian value.
use Rattle.std.specs.Prelude.{◌≡◌, ℕ, zero, suc, ◌+◌, ◌*◌, ℤ, pos, negsuc, List, slice_index_or}
use Rattle.adv_base.specs.declared.limits.TheConstants.{MOST_INDEX_PAGES, MOST_PAGE_PRICE, MOST_RENT, MOST_SLOTS, MOST_STATEMENTS, MOST_UPKEEP, MOST_WEIGHT}
use Rattle.adv_base.specs.declared.setting.Config.{Config}
use Rattle.adv_base.specs.Settings.{TheSetting}
use Rattle.plan_model.specs.Lagrangian.{TheMultipliers, AreRentedPlans}
use Rattle.plan_model.specs.Totals.{weighted_sum}
use Rattle.gap_checker.specs.Views.{multipliers_of}
use Rattle.hypo_indexes.specs.declared.figures.Figures.{Figures}
use Rattle.gap_checker.specs.declared.multipliers.Multipliers.{Multipliers}
use Rattle.gap_checker.specs.declared.multipliers.Rents.{Rents}

-- the multipliers of a set
abbrev pub the_multipliers : Rents → TheMultipliers
the_multipliers rents = multipliers_of (record { mu = rents.mu; entries = rents.entries.now })

-- the weighted sum of least plans with rents
pub record IsRentedSum (setting : TheSetting) (config : Config) (rent : ℕ → ℕ → ℕ → ℕ) (sum : ℕ) : Type 0 where
  pub costs : List ℕ
  pub costs_are : AreRentedPlans setting config rent 1 setting.statements costs
  pub sum_is : sum ≡ weighted_sum setting.statements costs

-- ## What a candidate costs and earns, by its place from 0

abbrev pub cost_at : Figures → ℕ → ℕ → ℕ
cost_at figures mu a = 65536 * slice_index_or figures.upkeep a 0 + mu * slice_index_or figures.sizes a 0

abbrev pub rents_at : Multipliers → ℕ → ℕ
rents_at set a = 65536 * slice_index_or set.earned.items a 0

abbrev pub most_candidate_cost : ℕ
most_candidate_cost = 65536 * (MOST_STATEMENTS * (MOST_WEIGHT * MOST_UPKEEP)) + MOST_PAGE_PRICE * MOST_INDEX_PAGES

abbrev pub most_candidate_rents : ℕ
most_candidate_rents = 65536 * (MOST_STATEMENTS * (MOST_WEIGHT * (MOST_SLOTS * MOST_RENT)))

-- ## Numbers below 0

abbrev pub negated : ℕ → ℤ
negated zero = pos 0
negated (suc n) = negsuc n
