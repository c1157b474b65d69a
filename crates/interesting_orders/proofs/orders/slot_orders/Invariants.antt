use Rattle.std.proofs.Common.{◌≡◌, ◌∷◌, [], take, fold}
use Rattle.std.specs.List.{flat_map}
use Rattle.plan_model.specs.Orders.{edge_orders}
use Rattle.interesting_orders.specs.inner.Marks.{add_order, AreMarks}
use Rattle.interesting_orders.proofs.orders.slot_orders.Given as goal

abbrev pub invariant-loop-edge : goal.invariant-loop-edge
invariant-loop-edge l = record {
  gathered : l.orders.items ≡ fold add_order ([] ∷ []) (flat_map (edge_orders l.slot) (take l.edge-index l.edges));
  marks : AreMarks l.slot l.seen l.orders.items;
}
