use Rattle.std.proofs.Common.{◌≡◌, ℕ, ◌<◌, [], length, slice_index_or}
use Rattle.plan_model.specs.Orders.{interesting_orders}
use Rattle.inum_cache.proofs.building.choices_of.Given as goal

abbrev pub invariant-loop-slot : goal.invariant-loop-slot
invariant-loop-slot l =
    record {
      count : length l.orders.items ≡ l.slot;
      each : (s : ℕ) → s < l.slot → slice_index_or l.orders.items s [] ≡ interesting_orders l.task s;
    }
