use Rattle.std.proofs.Common.{◌≡◌, ◌<◌, ◌≤◌, ◌+◌, [], length, drop, All}
use Rattle.toml.specs.View.{items_view}
use Rattle.catalogue.specs.Catalogue.{next_index, index_names, has_clustered}
use Rattle.catalogue.specs.Content.{plain_indexes}
use Rattle.catalogue.specs.Values.{read_each}
use Rattle.catalogue.proofs.indexes.read_indexes.Given as goal

abbrev pub invariant-loop-value : goal.invariant-loop-value
invariant-loop-value l = record {
  read : read_each (next_index l.table l.columns l.before) (plain_indexes l.indexes) (items_view (drop l.value-index l.items)) ≡ read_each (next_index l.table l.columns l.before) [] (items_view l.items);
  names : l.names ≡ index_names (plain_indexes l.indexes);
  taken : l.taken ≡ has_clustered (plain_indexes l.indexes);
  room : l.before + length l.indexes ≤ 1000;
  own : All (λ index. index.shape.table + 1 ≡ l.table) l.indexes;
  known : All (λ index. All (λ k. k < length l.columns) index.shape.keys) l.indexes;
}
