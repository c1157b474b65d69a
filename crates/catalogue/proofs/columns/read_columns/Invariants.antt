use Rattle.std.proofs.Common.{◌≡◌, [], length, drop}
use Rattle.toml.specs.View.{items_view}
use Rattle.catalogue.specs.Catalogue.{next_column, column_names}
use Rattle.catalogue.specs.Content.{plain_columns}
use Rattle.catalogue.specs.Values.{read_each}
use Rattle.catalogue.proofs.columns.read_columns.Given as goal

abbrev pub invariant-loop-value : goal.invariant-loop-value
invariant-loop-value l = record {
  read : read_each (next_column l.version l.table) (plain_columns l.columns) (items_view (drop l.value-index l.items)) ≡ read_each (next_column l.version l.table) [] (items_view l.items);
  names : l.names ≡ column_names (plain_columns l.columns);
  count : length l.columns ≡ l.value-index;
}
