use Rattle.std.proofs.Common.{◌≡◌, ◌++◌, drop, take}
use Rattle.std.specs.Prelude.{sum_by}
use Rattle.bip_model.specs.Values.{part_grants}
use Rattle.lagrange_bound.specs.Rented.{plan_costs}
use Rattle.lagrange_bound.proofs.carrying.write_costs.Given as goal

abbrev pub invariant-loop-i : goal.invariant-loop-i
invariant-loop-i l =
    record {
      whole : take l.i l.costs ++ plan_costs l.config (drop l.i l.parts) (drop l.at l.rents) ≡ plan_costs l.config l.parts l.rents;
      place : l.at ≡ sum_by part_grants (take l.i l.parts);
    }
