use Rattle.std.proofs.Common.{◌≡◌, ◌≤◌, [], length, drop}
use Rattle.toml.specs.View.{items_view}
use Rattle.catalogue.specs.Catalogue.{next_table, table_names, index_count}
use Rattle.catalogue.specs.Content.{plain_tables}
use Rattle.catalogue.specs.Values.{read_each}
use Rattle.catalogue.proofs.IndexLists.{AreOwnFrom}
use Rattle.catalogue.proofs.tables.read_tables.Given as goal

abbrev pub invariant-loop-value : goal.invariant-loop-value
invariant-loop-value l = record {
  read : read_each (next_table l.version) (plain_tables l.tables) (items_view (drop l.value-index l.items)) ≡ read_each (next_table l.version) [] (items_view l.items);
  names : l.names ≡ table_names (plain_tables l.tables);
  indexes : l.before ≡ index_count (plain_tables l.tables);
  room : l.before ≤ 1000;
  own : AreOwnFrom 0 l.tables;
  count : length l.tables ≡ l.value-index;
}
