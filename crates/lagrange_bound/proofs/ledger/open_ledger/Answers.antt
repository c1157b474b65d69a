use Rattle.std.proofs.Common.{◌∙◌, length, ap}
use Rattle.lagrange_bound.proofs.CarriedCosts.{length-plan_costs}
use Rattle.lagrange_bound.proofs.ledger.open_ledger.Goals as goal

pub returns-clause-room : goal.returns-clause-room
returns-clause-room c =
    record {
      places = ap length c.priced.ensures.ledger.costs ∙ length-plan_costs c.priced.new.ledger.config c.args.programme.now.parts c.args.multipliers.now.lambda;
      marks = c.priced.ensures.ledger.marks;
    }
