-- A ledger that stands at a node can be opened again.
use Rattle.std.proofs.Common.{◌∙◌, length, ap}
use Rattle.bip_model.specs.declared.multipliers.Multipliers.{Multipliers}
use Rattle.bip_model.specs.declared.programme.Programme.{Programme}
use Rattle.lagrange_bound.specs.declared.ledger.Ledger.{Ledger}
use Rattle.lagrange_bound.specs.Ledgers.{HasRoom, IsLedger}
use Rattle.lagrange_bound.proofs.CarriedCosts.{length-plan_costs}

pub ledger_room : (programme : Programme) (multipliers : Multipliers) (ledger : Ledger) → IsLedger programme multipliers ledger → HasRoom programme ledger
ledger_room programme multipliers ledger is =
    record {
      places = ap length is.costs ∙ length-plan_costs ledger.config programme.parts multipliers.lambda;
      marks = is.marks;
    }
