use Rattle.std.proofs.Common.{◌≡◌, [], length, drop, All}
use Rattle.toml.specs.View.{items_view}
use Rattle.adv_base.specs.Limits.Numbers.{EndLimits}
use Rattle.catalogue.specs.Catalogue.{next_bound}
use Rattle.catalogue.specs.Values.{read_each}
use Rattle.catalogue.proofs.BoundLists.{AreRising}
use Rattle.catalogue.proofs.bounds.bounds_in.Given as goal

abbrev pub invariant-loop-value : goal.invariant-loop-value
invariant-loop-value l = record {
  read : read_each (next_bound l.table l.column l.kind) l.ends.items (items_view (drop l.value-index l.items)) ≡ read_each (next_bound l.table l.column l.kind) [] (items_view l.items);
  within : All EndLimits l.ends.items;
  rising : AreRising l.ends.items;
  count : length l.ends.items ≡ l.value-index;
}
