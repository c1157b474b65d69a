use Rattle.std.proofs.Common.{◌≡◌, ◌≢◌, ◌<◌, [], length, drop, All}
use Rattle.std.specs.List.{AllPairs}
use Rattle.toml.specs.View.{items_view}
use Rattle.catalogue.specs.Catalogue.{next_key}
use Rattle.catalogue.specs.Values.{read_each}
use Rattle.catalogue.proofs.indexes.keys_in.Given as goal

abbrev pub invariant-loop-value : goal.invariant-loop-value
invariant-loop-value l = record {
  read : read_each (next_key l.table l.index l.columns) l.keys.items (items_view (drop l.value-index l.items)) ≡ read_each (next_key l.table l.index l.columns) [] (items_view l.items);
  known : All (λ k. k < length l.columns) l.keys.items;
  apart : AllPairs (λ a b. a ≢ b) l.keys.items;
  count : length l.keys.items ≡ l.value-index;
}
