use Rattle.std.proofs.Common.{◌≡◌, ◌+◌, ◌*◌, ◌≤◌, drop}
use Rattle.adv_base.specs.declared.limits.TheConstants.{MOST_WEIGHT}
use Rattle.bip_model.specs.Values.{MOST_PLAN}
use Rattle.lagrange_bound.specs.Rented as rented
use Rattle.lagrange_bound.proofs.carrying.weighted_costs.Given as goal

abbrev pub invariant-loop-i : goal.invariant-loop-i
invariant-loop-i l =
    record {
      rest : l.sum + rented.weighted_costs (drop l.i l.parts) (drop l.i l.costs) ≡ rented.weighted_costs l.parts l.costs;
      most : l.sum ≤ l.i * (MOST_WEIGHT * MOST_PLAN);
    }
