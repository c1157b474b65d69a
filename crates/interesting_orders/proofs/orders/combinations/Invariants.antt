use Rattle.std.proofs.Common.{◌≡◌, ◌≤◌, ◌^◌}
use Rattle.plan_model.specs.Orders.{combinations_below}
use Rattle.interesting_orders.proofs.orders.combinations.Given as goal

abbrev pub invariant-loop-slot : goal.invariant-loop-slot
invariant-loop-slot l = record { counted : l.product ≡ combinations_below l.task l.slot; small : l.product ≤ 203 ^ l.slot }
