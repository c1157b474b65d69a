use Rattle.std.proofs.Common.{◌∙◌, ℕ, drop, ap}
use Rattle.std.specs.Prelude.{Option, unwrap_or}
use Rattle.lagrange_bound.specs.Rented.{rented_cost}
use Rattle.lagrange_bound.proofs.RentedPrices.{drop-rents, row_least-part}
use Rattle.lagrange_bound.proofs.plan_costs.rented_cost.Goals as goal

pub returns-clause-exact : goal.returns-clause-exact
unfolding rented_cost
returns-clause-exact c =
    c.cost_by_rows.ensures.exact
    ∙ ap (λ (least : Option ℕ). unwrap_or least 0)
    (row_least-part c.args.config.now c.args.part.now c.as_slice.result.now (drop c.args.at c.args.rents.now) c.write_rows-next.new.rows c.as_slice.ensures (drop-rents c.args.at c.args.rents.now c.requires.most) c.write_rows-next.ensures.rows)
