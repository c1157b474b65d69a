-- What makes a task of a block keep a task's limits.
use Rattle.std.proofs.Common.{◌≡◌, ℕ, ◌+◌, ◌^◌, ◌<◌, ◌≤◌, List, [], ◌∷◌, length, get_or, map, refl, sym, ◌∙◌, ap, arith}
use Rattle.std.proofs.lemmas.List.{length-map}
use Rattle.std.specs.Prelude.{Bool, true, false, nat_lt, Option, Some, None, if◌then◌else◌}
use Rattle.std.specs.List.{range_with_len}
use Rattle.std.specs.Option.{ForSome, option_map_or}
use Rattle.std.proofs.lemmas.Bool.Decides.{nat_tests}
use Rattle.std.proofs.lemmas.Grind.{same_number_lists}
use Rattle.std.proofs.lemmas.List.Elements.{All-map, All-weaker}
use Rattle.std.proofs.lemmas.List.FromFn.{get_or-map-range_with_len, length-map-range_with_len}
use Rattle.adv_base.specs.declared.catalogue.Catalogue.{Catalogue}
use Rattle.adv_base.specs.declared.catalogue.table.Table.{Table}
use Rattle.adv_base.specs.declared.workload.block.Block.{Block}
use Rattle.adv_base.specs.declared.workload.parts.Edge.{Edge}
use Rattle.adv_base.specs.declared.workload.parts.Item.{Item}
use Rattle.adv_base.specs.declared.workload.parts.Item.TheVariants.{Up, Down, Made}
use Rattle.adv_base.specs.Limits.Blocks.{ends as block_ends}
use Rattle.adv_base.specs.Lookups.{slot_table, slot_columns}
use Rattle.adv_base.specs.Named.{NamesBlock, NamesEdge, NamesItems, names_item}
use Rattle.adv_base.specs.Rows.{set_rows}
use Rattle.adv_base.specs.Rows.{AreRows}
use Rattle.cardinality.specs.Tables.{HoldsRows}
use Rattle.plan_model.specs.BlockTask.{task_edge}
use Rattle.plan_model.specs.Limits.Tasks.{TaskLimits, EdgeLimits, RowLimits, AreNumbered, is_numbered, ends}

columns_few : (table : Option Table) → option_map_or (λ t. length t.columns) table 0 ≤ 200
columns_few (Some table) = table.limits.columns_most
columns_few None = omega arith

-- a slot has at most 200 columns
pub slot_columns-most : (cat : Catalogue) (block : Block) (s : ℕ) → slot_columns cat block s ≤ 200
slot_columns-most cat block s = columns_few (slot_table cat block s)

numbered : (column columns : ℕ) → columns ≤ 200 → nat_lt column columns ≡ true → nat_lt column 200 ≡ true
numbered column columns most below = grind (arith, nat_tests)

-- an item whose column the catalogue has
item_numbered : (cat : Catalogue) (block : Block) (item : Item) → names_item cat block item ≡ true → is_numbered item ≡ true
item_numbered cat block (Up slot column) named = numbered column (slot_columns cat block slot) (slot_columns-most cat block slot) named
item_numbered cat block (Down slot column) named = numbered column (slot_columns cat block slot) (slot_columns-most cat block slot) named
item_numbered cat block (Made number) named = refl

items_numbered : (cat : Catalogue) (block : Block) (items : List Item) → NamesItems cat block items → AreNumbered items
items_numbered cat block items named = λ k d within. item_numbered cat block (get_or items k d) (named k d within)

group_numbered : (cat : Catalogue) (block : Block) (group : Option (List Item)) → ForSome group (NamesItems cat block) → ForSome group AreNumbered
group_numbered cat block group named = λ items is. items_numbered cat block items (named items is)

unbound_item : (b : Bool) (item : Item) → ForSome (if b then None else Some item) (λ i. i ≡ item)
unbound_item true item = λ i is. absurd (cc)
unbound_item false item = λ i is. cc

-- an edge of the block, with its needs
edge_limits : (cat : Catalogue) (block : Block) (edge : Edge) → edge.left < length block.slots → edge.right < length block.slots → NamesEdge cat block edge →
    EdgeLimits (length block.slots) (task_edge block edge)
edge_limits cat block edge left right named = record {
  left_slot = left;
  right_slot = right;
  apart = edge.apart;
  left_number = let most : slot_columns cat block edge.left ≤ 200 = slot_columns-most cat block edge.left in omega (arith, named.left);
  right_number = let most : slot_columns cat block edge.right ≤ 200 = slot_columns-most cat block edge.right in omega (arith, named.right);
  left_item = unbound_item _ (Up edge.left edge.left_column);
  right_item = unbound_item _ (Up edge.right edge.right_column);
}

same_ends : (block : Block) (edges : List Edge) → map ends (map (task_edge block) edges) ≡ map block_ends edges
same_ends block [] = refl
same_ends block (edge ∷ edges) = ap (λ (rest : List (ℕ × ℕ)). (edge.left, edge.right) ∷ rest) (same_ends block edges)

-- the task of a block keeps a task's limits
pub task_limits : (cat : Catalogue) (block : Block) → NamesBlock cat block → (rows : List ℕ) → HoldsRows cat block (2 ^ length block.slots) rows →
    (groups : ℕ) → RowLimits groups →
    TaskLimits (length block.slots) (map (task_edge block) block.edges) rows block.group groups block.order
task_limits cat block named rows holds groups are = record {
  slots_some = block.limits.slots_some;
  slots_most = block.limits.slots_most;
  each_edge = All-map (EdgeLimits (length block.slots)) (task_edge block) block.edges
      (λ k d within. edge_limits cat block (get_or block.edges k d) (block.limits.edge_lefts k d within) (block.limits.edge_rights k d within) (named.edges k d within));
  edges_most = rw (length-map block.edges (task_edge block)) block.limits.edges_most;
  connected = rw (same_ends block block.edges) block.limits.connected;
  rows_each = holds.count;
  rows_limits = All-weaker AreRows RowLimits (λ n is. record { some = is.least; most = is.most }) rows holds.bounds;
  group_rows_limits = are;
  group_list = block.limits.group_list;
  group_numbers = group_numbered cat block block.group named.group;
  order_list = block.limits.order_list;
  order_numbers = items_numbered cat block block.order named.order;
}

-- a table of rows as a list over all sets
pub rows_listed : (cat : Catalogue) (block : Block) (sets : ℕ) (rows : List ℕ) → HoldsRows cat block sets rows → rows ≡ map (set_rows cat block) (range_with_len 0 sets)
rows_listed cat block sets rows holds =
    let long : length (map (set_rows cat block) (range_with_len 0 sets)) ≡ sets = length-map-range_with_len (set_rows cat block) 0 sets in
    same_number_lists rows (map (set_rows cat block) (range_with_len 0 sets)) (holds.count ∙ sym long)
    (λ k within. let below : k < sets = omega (arith, holds.count) in
    let at : 0 + k ≡ k = omega arith in
    holds.exact k below ∙ sym (get_or-map-range_with_len (set_rows cat block) 0 sets k k 0 below at))
