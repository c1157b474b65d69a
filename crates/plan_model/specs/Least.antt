-- The cost of a least plan.
use Rattle.std.specs.Prelude.{◌≡◌, ℕ, ◌≤◌}
use Rattle.adv_base.specs.Offers.{OfferTable}
use Rattle.adv_base.specs.OfferTables.{OfferTableLimits, HasOffers}
use Rattle.plan_model.specs.declared.plan.Whole.{Whole}
use Rattle.plan_model.specs.declared.task.Task.{Task}
use Rattle.plan_model.specs.Plans.{IsWhole}
use Rattle.plan_model.specs.Costs.{whole_cost}

-- there is a plan of that cost
pub record IsCostOfPlan (task : Task) (table : OfferTable) (cost : ℕ) : Type 0 where
  pub whole : Whole
  pub valid : IsWhole task table whole
  pub costs : whole_cost task table whole ≡ cost

-- that plan is a cheapest one
pub record Least (task : Task) (table : OfferTable) (cost : ℕ) : Type 0 where
  pub plan : IsCostOfPlan task table cost
  pub none_less : (whole : Whole) → IsWhole task table whole → cost ≤ whole_cost task table whole

-- there is a plan of the task
pub record HasPlan (task : Task) (table : OfferTable) : Type 0 where
  pub whole : Whole
  pub valid : IsWhole task table whole

-- A task has a plan over each table in which each slot has an offer.
abbrev pub PlansExist : Type 0
PlansExist = (task : Task) (table : OfferTable) → OfferTableLimits table → HasOffers task.slots table → HasPlan task table
