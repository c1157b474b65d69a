-- The blocks of statements.
use Rattle.std.specs.Prelude.{ℕ, true, false, List, [], ◌∷◌, ◌++◌, length, None, Result, Ok}
use Rattle.std.specs.List.{flat_map}
use Rattle.adv_base.specs.declared.catalogue.Catalogue.{Catalogue}
use Rattle.adv_base.specs.Readings.{◌>>=◌, or_fault, where_holds, each}
use Rattle.sql_reader.specs.declared.parsed.Condition.{Condition}
use Rattle.sql_reader.specs.declared.parsed.NameUse.{NameUse}
use Rattle.sql_reader.specs.declared.parsed.ParsedSelect.{ParsedSelect}
use Rattle.sql_reader.specs.declared.parsed.Source.{Source}
use Rattle.binder.specs.declared.gathered.SlotColumn.{SlotColumn}
use Rattle.binder.specs.declared.gathered.BoundItem.{BoundItem}
use Rattle.binder.specs.declared.gathered.SortKeys.{SortKeys}
use Rattle.binder.specs.declared.fault.BindFault.{BindFault}
use Rattle.binder.specs.declared.fault.BindFault.TheVariants.{NoColumn, Unjoined}
use Rattle.binder.specs.Names.{word_in, place}
use Rattle.binder.specs.Lookups.{column_of}
use Rattle.binder.specs.Conditions.{PlainTests, tests_of}
use Rattle.binder.specs.Items.{columns_of, items_of, item_mentions}
use Rattle.binder.specs.Joins.{is_joined}
use Rattle.binder.specs.Lists.{aggregates, group_list, order_list}
use Rattle.binder.specs.Needed.{slots_from}
use Rattle.binder.specs.Orders.{SelectList, mentions_from, orders_from}
use Rattle.binder.specs.Plain.{PlainBlock}
use Rattle.binder.specs.Scopes.{Names}
use Rattle.binder.specs.Sources.{table_meant, sources_of, visible}

-- the clauses of a SELECT with their names turned into numbers
pub record PlainClauses : Type 0 where
  pub items : List BoundItem
  pub tests : PlainTests
  pub group : List SlotColumn
  pub order : SortKeys

-- HAVING and then ORDER BY, which see a select list
abbrev pub sorted_of : Names → SelectList → ParsedSelect → Result SortKeys BindFault
sorted_of names list select = mentions_from names list [] select.having >>= λ having. orders_from names list having select.order

-- the same, behind what the select items stand for
unfoldable pub sort_keys_of : Names → ParsedSelect → List BoundItem → Result SortKeys BindFault
sort_keys_of names select items = sorted_of names (record { written = select.items; bound = items }) select

-- the clauses of a SELECT, in written order: items, ON and WHERE, GROUP BY, HAVING, ORDER BY
unfoldable pub clauses_of : Names → ParsedSelect → Result PlainClauses BindFault
clauses_of names select = do
  items ← items_of names select.items
  tests ← tests_of names select.conditions
  group ← columns_of names select.group
  order ← sort_keys_of names select items
  Ok (record { items = items; tests = tests; group = group; order = order })

-- the clauses of a SELECT whose statement begins at a place, and whose join edges have to connect its slots
unfoldable pub joined_clauses : ℕ → Names → ParsedSelect → Result PlainClauses BindFault
joined_clauses at names select = do
  clauses ← clauses_of names select
  where_holds (Unjoined at) (is_joined (length names.sources) clauses.tests.edges) clauses

-- the columns that the clauses of a SELECT mention by their names
abbrev pub clause_mentions : PlainClauses → List SlotColumn
clause_mentions clauses = flat_map item_mentions clauses.items ++ clauses.tests.mentions ++ clauses.group ++ clauses.order.mentions

-- the block of a SELECT
abbrev pub select_block : Names → ParsedSelect → PlainClauses → PlainBlock
select_block names select clauses =
    let aggregate = aggregates clauses.items select.order in
    record {
      slots = slots_from names.cat clauses.items (clause_mentions clauses) 0 names.sources;
      preds = clauses.tests.preds;
      edges = clauses.tests.edges;
      group = group_list select.distinct aggregate clauses.tests.preds clauses.group clauses.items;
      order = order_list aggregate clauses.tests.preds clauses.group clauses.order.items;
      may_cover = true;
    }

-- the block of a SELECT whose statement begins at a place: its sources first, then its other names in written order,
-- and then its joins
unfoldable pub select_of : Catalogue → List ℕ → ℕ → ParsedSelect → Result PlainBlock BindFault
select_of cat text at select = do
  sources ← sources_of cat text select.sources
  clauses ← joined_clauses at (record { cat = cat; text = text; sources = sources }) select
  Ok (select_block (record { cat = cat; text = text; sources = sources }) select clauses)

-- the block of a statement that changes the rows of one source, which mentions these columns
abbrev pub change_block : Names → PlainTests → List SlotColumn → PlainBlock
change_block names tests mentions =
    record { slots = slots_from names.cat [] mentions 0 names.sources; preds = tests.preds; edges = tests.edges; group = None; order = []; may_cover = false }

-- the block of such a statement with these conditions, which mentions these columns before them
unfoldable pub changed_block : Names → List Condition → List SlotColumn → Result PlainBlock BindFault
changed_block names conditions mentions = do
  tests ← tests_of names conditions
  Ok (change_block names tests (mentions ++ tests.mentions))

-- the one source of a statement that changes rows
abbrev pub one_source : Catalogue → List ℕ → Source → Result Names BindFault
one_source cat text source =
    table_meant cat text source.table >>= λ t. Ok (record { cat = cat; text = text; sources = visible cat text source.alias t ∷ [] })

-- a column of a table that a statement writes to
abbrev pub written_column : Catalogue → List ℕ → ℕ → NameUse → Result ℕ BindFault
written_column cat text t name_use = or_fault (NoColumn (place name_use.name)) (column_of cat.tables t (word_in text name_use.name))

abbrev pub written_columns : Catalogue → List ℕ → ℕ → List NameUse → Result (List ℕ) BindFault
written_columns cat text t uses = each (written_column cat text t) uses

unfoldable pub delete_of : Catalogue → List ℕ → Source → List Condition → Result PlainBlock BindFault
delete_of cat text source conditions = do
  names ← one_source cat text source
  changed_block names conditions []
