use Rattle.std.proofs.Common.{◌∙◌, ℕ, ap}
use Rattle.std.specs.Prelude.{Option, unwrap_or}
use Rattle.bip_model.specs.Values.{part_cost}
use Rattle.bip_model.proofs.Pricing.{row_least-part}
use Rattle.bip_model.proofs.costs.plan_cost.Goals as goal

pub returns-clause-exact : goal.returns-clause-exact
unfolding part_cost
returns-clause-exact c =
    c.cost_by_rows.ensures.exact
    ∙ ap (λ (cost : Option ℕ). unwrap_or cost 0)
    (row_least-part c.args.config.now c.args.part.now c.as_slice.result.now c.write_rows.new.rows c.as_slice.ensures c.write_rows.ensures)
