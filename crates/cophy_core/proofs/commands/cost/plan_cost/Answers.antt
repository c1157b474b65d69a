use Rattle.std.proofs.Common.{sym}
use Rattle.cophy_core.proofs.Blocks.{block_named, planned_cost, unplanned_cost}
use Rattle.cophy_core.proofs.commands.cost.plan_cost.Goals as goal

pub plan_block-requires : goal.plan_block-requires
plan_block-requires c = block_named _ _ _ c.requires (sym c.in-Some.ensures)

pub returns-in_ok-found-in-Some-clause-least : goal.returns-in_ok-found-in-Some-clause-least
returns-in_ok-found-in-Some-clause-least c =
    planned_cost _ _ _ _ _ _ (sym c.in-Some.ensures) (record {
      task = c.in_ok-found-in-Some.found.task;
      task_is = c.in_ok-found-in-Some.ensures.task;
      least = rw (← c.in_ok-found-in-Some.ensures.offers) c.in_ok-found-in-Some.ensures.least;
    })

pub returns-in-None-clause-least : goal.returns-in-None-clause-least
returns-in-None-clause-least c = unplanned_cost _ _ _ _ (sym c.in-None.ensures)
