-- The tables and columns of the statements that a text means exist in the catalogue.
use Rattle.std.proofs.Common.{◌≡◌, ℕ, zero, suc, ◌+◌, ◌<◌, Bool, true, ◌||◌, List, [], ◌∷◌, ◌++◌, length, Option, Some, None, Ok, refl, ap, subst, ◌∙◌, arith}
use Rattle.std.specs.Prelude.{All, slice_get, option_and_then, nat_lt}
use Rattle.std.specs.Option.{option_map_or}
use Rattle.std.specs.List.{list_any, range_with_len}
use Rattle.std.proofs.lemmas.Bool.Decides.{nat_tests}
use Rattle.std.proofs.lemmas.List.Elements.{All-nil, All-cons, All-push, All-head, All-tail, All-weaker, All-filter, All-from_get_or}
use Rattle.std.proofs.lemmas.List.FromFn.{length-range_with_len, get_or-range_with_len}
use Rattle.adv_base.specs.declared.catalogue.Catalogue.{Catalogue}
use Rattle.adv_base.specs.declared.workload.block.Block.{Block}
use Rattle.adv_base.specs.declared.workload.parts.Edge.{Edge}
use Rattle.adv_base.specs.declared.workload.parts.Item.{Item}
use Rattle.adv_base.specs.declared.workload.parts.Item.TheVariants.{Up, Down, Made}
use Rattle.adv_base.specs.declared.workload.parts.Slot.{Slot}
use Rattle.adv_base.specs.declared.workload.predicate.Pred.{Pred}
use Rattle.adv_base.specs.Lookups.{column_count, slot_columns, table_at}
use Rattle.adv_base.specs.Named.{NamesSlot, NamesPred, NamesEdge, names_item, NamesBlock}
use Rattle.sql_tokens.specs.declared.token.Span.{Span}
use Rattle.sql_reader.specs.declared.parsed.Source.{Source}
use Rattle.binder.specs.Items.{takes_whole}
use Rattle.binder.specs.declared.gathered.SlotColumn.{SlotColumn}
use Rattle.binder.specs.declared.gathered.BoundItem.{BoundItem}
use Rattle.binder.specs.declared.scope.Visible.{Visible}
use Rattle.binder.specs.declared.fault.BindFault.TheVariants.{NoTable, TwoAliases, TooManySlots}
use Rattle.binder.specs.Names.{word_in, place}
use Rattle.binder.specs.Lookups.{table_number}
use Rattle.binder.specs.Needed.{is_at, needed_columns, slot_of, slots_from}
use Rattle.binder.specs.Plain.{plain_pred, plain_edge, plain_preds, plain_edges}
use Rattle.binder.specs.Scopes.{Names}
use Rattle.binder.specs.Sources.{table_meant, visible, is_taken, put_source, with_source, sources_of}
use Rattle.std.specs.Prelude.{unwrap_or, not}
use Rattle.adv_base.specs.Readings.{◌>>=◌, where_holds}
use Rattle.binder.proofs.Readings.{bind_ok, or_fault_ok, where_ok, in_turn-keeps}
use Rattle.binder.proofs.Columns.{table_number-within}
use Rattle.binder.proofs.Within.{width}
use Rattle.binder.proofs.Checked.{IsPred, IsEdge}
use Rattle.binder.proofs.Kept.{IsItem}
use Rattle.binder.proofs.Limited.{All-unmap}

-- a source on a table of the catalogue
abbrev pub IsSource : Catalogue → Visible → Type 0
IsSource cat v = v.table < length cat.tables

pub table_meant-is : (cat : Catalogue) (text : List ℕ) (span : Span) (t : ℕ) → table_meant cat text span ≡ Ok t → t < length cat.tables
table_meant-is cat text span t e = table_number-within cat.tables (word_in text span) t (or_fault_ok (NoTable (place span)) (table_number cat.tables (word_in text span)) t e)

source-is : (cat : Catalogue) (text : List ℕ) (sources : List Visible) (source : Source) (after : List Visible) → All (IsSource cat) sources → with_source cat text sources source ≡ Ok after → All (IsSource cat) after
unfolding with_source
source-is cat text sources source after are e =
    let room = bind_ok (where_holds (TooManySlots (place source.table)) (nat_lt (length sources) 8) sources)
    (λ room. table_meant cat text source.table >>= λ t. put_source room (place (unwrap_or source.alias source.table)) (visible cat text source.alias t)) after e in
    let same = (where_ok (TooManySlots (place source.table)) (nat_lt (length sources) 8) sources room.0 room.1).1 in
    let table = bind_ok (table_meant cat text source.table) (λ t. put_source room.0 (place (unwrap_or source.alias source.table)) (visible cat text source.alias t)) after room.2 in
    let v = visible cat text source.alias table.0 in
    let put = where_ok (TwoAliases (place (unwrap_or source.alias source.table))) (not (is_taken room.0 v.name)) (room.0 ++ v ∷ []) after table.2 in
    subst (All (IsSource cat)) put.1 (All-push (IsSource cat) room.0 v (subst (All (IsSource cat)) same are) (table_meant-is cat text source.table table.0 table.1))

pub sources-are : (cat : Catalogue) (text : List ℕ) (sources : List Source) (after : List Visible) → sources_of cat text sources ≡ Ok after → All (IsSource cat) after
sources-are cat text sources after e =
    in_turn-keeps (with_source cat text) (All (IsSource cat)) (λ so_far source next are step. source-is cat text so_far source next are step) sources [] after (All-nil (IsSource cat)) e

needed-within : (count s : ℕ) (whole : Bool) (mentions : List SlotColumn) → All (λ c. c < count) (needed_columns count s whole mentions)
needed-within count s whole mentions =
    All-filter (λ c. whole || list_any (is_at s c) mentions) (λ c. c < count) (range_with_len 0 count)
    (All-from_get_or (λ c. c < count) (range_with_len 0 count) 0
    (λ i lt. let len = length-range_with_len 0 count in let inside : i < count = omega arith in let at = get_or-range_with_len 0 count i 0 inside in omega arith))

pub slots-named : (cat : Catalogue) (items : List BoundItem) (mentions : List SlotColumn) (s : ℕ) (sources : List Visible) → All (IsSource cat) sources → All (NamesSlot cat) (slots_from cat items mentions s sources)
slots-named cat items mentions s [] are = All-nil (NamesSlot cat)
slots-named cat items mentions s (v ∷ vs) are =
    All-cons (NamesSlot cat) (slot_of cat items mentions s v) (slots_from cat items mentions (s + 1) vs)
    (record { table = All-head (IsSource cat) v vs are; needed = needed-within (column_count cat v.table) s (list_any (takes_whole s) items) mentions })
    (slots-named cat items mentions (s + 1) vs (All-tail (IsSource cat) v vs are))

slot_at : (cat : Catalogue) (items : List BoundItem) (mentions : List SlotColumn) (s : ℕ) (sources : List Visible) (i : ℕ)
    → option_and_then (λ (slot : Slot). table_at cat slot.table) (slice_get (slots_from cat items mentions s sources) i) ≡ option_and_then (λ (v : Visible). table_at cat v.table) (slice_get sources i)
slot_at cat items mentions s [] i = refl
slot_at cat items mentions s (v ∷ vs) zero = refl
slot_at cat items mentions s (v ∷ vs) (suc i) = slot_at cat items mentions (s + 1) vs i

width_of : (cat : Catalogue) (o : Option Visible) → option_map_or (λ table. length table.columns) (option_and_then (λ (v : Visible). table_at cat v.table) o) 0 ≡ option_map_or (λ (v : Visible). column_count cat v.table) o 0
width_of cat None = refl
width_of cat (Some v) = refl

-- a block whose slots are the sources has their columns
pub same_width : (names : Names) (items : List BoundItem) (mentions : List SlotColumn) (block : Block) (s : ℕ) → block.slots ≡ slots_from names.cat items mentions 0 names.sources → slot_columns names.cat block s ≡ width names s
same_width names items mentions block s e =
    ap (λ (slots : List Slot). option_map_or (λ table. length table.columns) (option_and_then (λ (slot : Slot). table_at names.cat slot.table) (slice_get slots s)) 0) e
    ∙ ap (λ o. option_map_or (λ table. length table.columns) o 0) (slot_at names.cat items mentions 0 names.sources s)
    ∙ width_of names.cat (slice_get names.sources s)

module _ (names : Names) (items : List BoundItem) (mentions : List SlotColumn) (block : Block) (slots : block.slots ≡ slots_from names.cat items mentions 0 names.sources) where
  pred-named : (pred : Pred) → IsPred names (plain_pred pred) → NamesPred names.cat block pred
  pred-named pred is = record {
    column = rw (same_width names items mentions block pred.slot slots) is.column;
    same = λ other e. rw (same_width names items mentions block pred.slot slots) (is.other other e);
  }

  edge-named : (edge : Edge) → IsEdge names (plain_edge edge) → NamesEdge names.cat block edge
  edge-named edge is = record {
    left = rw (same_width names items mentions block edge.left slots) is.left_column;
    right = rw (same_width names items mentions block edge.right slots) is.right_column;
  }

  item-named : (item : Item) → IsItem names item → names_item names.cat block item ≡ true
  item-named (Up s c) is = let lt : c < slot_columns names.cat block s = rw (same_width names items mentions block s slots) is.column in grind (arith, nat_tests)
  item-named (Down s c) is = let lt : c < slot_columns names.cat block s = rw (same_width names items mentions block s slots) is.column in grind (arith, nat_tests)
  item-named (Made n) is = refl

  -- a block over sources names what the catalogue has, where its parts are those of the sources
  pub block-named : All (IsSource names.cat) names.sources → All (IsPred names) (plain_preds block.preds) → All (IsEdge names) (plain_edges block.edges)
      → ((list : List Item) → block.group ≡ Some list → All (IsItem names) list) → All (IsItem names) block.order → NamesBlock names.cat block
  block-named sources preds edges group order = record {
    slots = rw slots (slots-named names.cat items mentions 0 names.sources sources);
    preds = All-weaker (λ (p : Pred). IsPred names (plain_pred p)) (NamesPred names.cat block) (λ p is. pred-named p is) block.preds (All-unmap plain_pred (IsPred names) block.preds preds);
    edges = All-weaker (λ (e : Edge). IsEdge names (plain_edge e)) (NamesEdge names.cat block) (λ e is. edge-named e is) block.edges (All-unmap plain_edge (IsEdge names) block.edges edges);
    group = λ list e. All-weaker (IsItem names) (λ item. names_item names.cat block item ≡ true) (λ item is. item-named item is) list (group list e);
    order = All-weaker (IsItem names) (λ item. names_item names.cat block item ≡ true) (λ item is. item-named item is) block.order order;
  }
