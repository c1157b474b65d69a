use Rattle.std.proofs.Common.{◌≡◌, drop, length}
use Rattle.adv_base.specs.Readings.{in_turn}
use Rattle.binder.specs.Orders.{with_order, orders_from}
use Rattle.binder.specs.View.{names_of, list_of}
use Rattle.binder.proofs.orders.orders.Given as goal

-- the items so far, with those of the rest behind them, are all items
abbrev pub invariant-loop-order : goal.invariant-loop-order
invariant-loop-order l = record {
  so_far : in_turn (with_order (names_of l.list.scope.now) (list_of l.list)) l.so_far (drop l.order-index l.orders) ≡ orders_from (names_of l.list.scope.now) (list_of l.list) l.fn.mentions l.orders;
  count : length l.so_far.items ≡ l.order-index;
}
