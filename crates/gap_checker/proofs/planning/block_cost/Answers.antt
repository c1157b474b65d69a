use Rattle.std.proofs.Common.{◌<◌, length, sym, ap, subst, arith}
use Rattle.adv_base.specs.Offers.{OfferTable}
use Rattle.adv_base.proofs.OfferBounds.{tables-charged}
use Rattle.plan_model.specs.declared.task.Task.{Task}
use Rattle.plan_model.specs.Least.{Least}
use Rattle.planner.proofs.Finding.{least_below}
use Rattle.gap_checker.specs.inner.Charges.{charge_of}
use Rattle.gap_checker.specs.inner.Rows.{table_of}
use Rattle.gap_checker.proofs.planning.block_cost.Goals as goal

pub cost-requires : goal.cost-requires
cost-requires c = λ slot h.
    let setting = c.args.setting.now in
    let charge = charge_of c.args.terms.now c.args.statement in
    let slots = ap (λ (t : Task). t.slots) c.args.desk.now.task in
    let within : slot < length c.args.block.now.slots = omega (arith, h, slots, c.requires.part_is.task_is.slots_are) in
    subst (λ (t : OfferTable). 0 < length (t slot)) (sym c.in_ok-board.ensures)
    ((tables-charged charge setting.cat.now c.args.block.now c.requires.named setting.shapes.now c.args.terms.now.config.now).some slot within)

pub returns-clause-least : goal.returns-clause-least
returns-clause-least c =
    record {
      task = c.args.desk.now.part.now.task;
      task_is = c.requires.part_is.task_is;
      least =
          subst (λ (t : OfferTable). Least c.args.desk.now.part.now.task t c.cost.result) c.in_ok-board.ensures
          (subst (λ (t : Task). Least t (table_of c.in_ok-board.board.rows.items) c.cost.result) c.args.desk.now.task c.cost.ensures.least);
    }

pub returns-clause-most : goal.returns-clause-most
returns-clause-most c = least_below _ _ c.cost.result c.limits.ensures c.cost.ensures.least
