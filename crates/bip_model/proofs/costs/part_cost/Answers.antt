use Rattle.std.proofs.Common.{ℕ, sym, subst}
use Rattle.plan_model.specs.Totals.{IsBlockCost}
use Rattle.bip_model.proofs.Standing.{part-least}
use Rattle.bip_model.proofs.costs.part_cost.Goals as goal

pub returns-clause-least : goal.returns-clause-least
returns-clause-least c setting blocked named is =
    subst (λ (cost : ℕ). IsBlockCost setting.cat setting.shapes c.args.config.now blocked.block cost) (sym c.plan_cost.ensures.exact)
    (record { task = is.task; task_is = is.task_is; least = part-least setting blocked c.args.part.now c.args.config.now named is })
