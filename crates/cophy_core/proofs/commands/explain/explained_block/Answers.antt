use Rattle.std.proofs.Common.{refl}
use Rattle.cophy_core.proofs.commands.explain.explained_block.Goals as goal

pub returns-clause-by_plan : goal.returns-clause-by_plan
returns-clause-by_plan c =
    let offers_are = c.in_ok-found.ensures.offers in
    record {
      task = c.in_ok-found.found.task;
      plan = c.in_ok-found.found.plan;
      labels = c.in_ok-labels.labels;
      task_is = c.in_ok-found.ensures.task;
      labels_are = record { slots = c.in_ok-labels.ensures.slots; columns = c.in_ok-labels.ensures.columns; offers_are = c.in_ok-labels.ensures.offers };
      plan_is = refl;
      valid = rw (← offers_are) c.in_ok-found.ensures.valid;
      costs = rw (← offers_are) c.in_ok-found.ensures.costs;
      least = rw (← offers_are) c.in_ok-found.ensures.least;
      lines = rw (← offers_are) c.in_ok-text.ensures;
    }
