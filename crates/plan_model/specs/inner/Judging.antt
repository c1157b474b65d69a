-- What is found of a valid plan, operator by operator.
use Rattle.std.specs.Prelude.{ℕ, ◌+◌, ◌<◌, ◌^◌}
use Rattle.adv_base.specs.Offers.{OfferTable}
use Rattle.plan_model.specs.declared.judge.Judged.{Judged}
use Rattle.plan_model.specs.declared.plan.Plan.{Plan}
use Rattle.plan_model.specs.declared.plan.TheConstants.{MOST_COST}
use Rattle.plan_model.specs.declared.task.Task.{Task}
use Rattle.adv_base.specs.OfferTables.{price_at}
use Rattle.plan_model.specs.Plans.{covers}
use Rattle.plan_model.specs.Costs.{rows_in, sort_cost, merge_of, hash_of, plan_cost}

abbrev pub leaf_judged : OfferTable → ℕ → ℕ → Judged
leaf_judged table slot offer = record { covers = 2 ^ slot; cost = price_at table slot offer }

abbrev pub sort_judged : Task → Judged → Judged
sort_judged task input = record { covers = input.covers; cost = input.cost + sort_cost task.rates (rows_in task input.covers) }

abbrev pub merge_judged : Task → Judged → Judged → Judged
merge_judged task left right =
    record {
      covers = left.covers + right.covers;
      cost = left.cost + right.cost + merge_of task left.covers right.covers;
    }

abbrev pub hash_judged : Task → Judged → Judged → Judged
hash_judged task left right =
    record {
      covers = left.covers + right.covers;
      cost = left.cost + right.cost + hash_of task left.covers right.covers;
    }

-- what a plan covers and costs
abbrev pub plan_judged : Task → OfferTable → Plan → Judged
plan_judged task table plan = record { covers = covers plan; cost = plan_cost task table plan }

-- it covers slots of the task, and costs no more than a plan may
pub record JudgedLimits (task : Task) (judged : Judged) : Type 0 where
  pub within : judged.covers < 2 ^ task.slots
  pub most : judged.cost < MOST_COST
