-- The statements that a text means name what the catalogue has, and have at most 2000 slots.
use Rattle.std.proofs.Common.{◌≡◌, ℕ, ◌+◌, ◌<◌, ◌≤◌, true, List, [], ◌∷◌, ◌++◌, length, map, sum, sum_by, Some, Result, Ok, Err, refl, sym, ap, subst, ◌∙◌, arith, nat_le}
use Rattle.std.specs.Prelude.{All}
use Rattle.std.proofs.lemmas.Bool.{leb-true}
use Rattle.std.proofs.lemmas.List.Elements.{All-nil, All-cons, All-push, All-weaker}
use Rattle.std.proofs.lemmas.List.Sums.{sum_by-append, sum-map}
use Rattle.adv_base.specs.declared.limits.TheConstants.{MOST_SLOTS_IN_ALL}
use Rattle.adv_base.specs.declared.catalogue.Catalogue.{Catalogue}
use Rattle.adv_base.specs.declared.workload.Statement.{Statement}
use Rattle.adv_base.specs.declared.workload.Work.{Work}
use Rattle.adv_base.specs.declared.workload.Work.TheVariants as works
use Rattle.adv_base.specs.declared.workload.block.Block.{Block}
use Rattle.adv_base.specs.declared.workload.parts.Item.{Item}
use Rattle.adv_base.specs.declared.workload.parts.Slot.{Slot}
use Rattle.adv_base.specs.Limits.Settings.{slot_count as slots_of_work}
use Rattle.adv_base.specs.Lookups.{column_count, slot_columns, table_at}
use Rattle.std.specs.Option.{option_map_or}
use Rattle.std.specs.Prelude.{slice_get, option_and_then}
use Rattle.adv_base.specs.Named.{NamesBlock, NamesUpdate, NamesWork}
use Rattle.adv_base.specs.Readings.{◌>>=◌, where_holds}
use Rattle.sql_tokens.specs.declared.token.Span.{Span}
use Rattle.sql_reader.specs.declared.parsed.Body.{Body}
use Rattle.sql_reader.specs.declared.parsed.Body.TheVariants as bodies
use Rattle.sql_reader.specs.declared.parsed.Condition.{Condition}
use Rattle.sql_reader.specs.declared.parsed.NameUse.{NameUse}
use Rattle.sql_reader.specs.declared.parsed.ParsedSelect.{ParsedSelect}
use Rattle.sql_reader.specs.declared.parsed.ParsedStatement.{ParsedStatement}
use Rattle.sql_reader.specs.declared.parsed.Source.{Source}
use Rattle.binder.specs.declared.gathered.SlotColumn.{SlotColumn}
use Rattle.binder.specs.declared.gathered.BoundItem.{BoundItem}
use Rattle.binder.specs.declared.scope.Visible.{Visible}
use Rattle.binder.specs.declared.fault.BindFault.{BindFault}
use Rattle.binder.specs.declared.fault.BindFault.TheVariants.{NoColumn, Unjoined, TooManySlotsInAll}
use Rattle.binder.specs.Names.{word_in, place}
use Rattle.binder.specs.Lookups.{column_of}
use Rattle.binder.specs.Blocks.{PlainClauses, clauses_of, joined_clauses, clause_mentions, select_block, select_of, change_block, changed_block, one_source, written_column, written_columns, delete_of}
use Rattle.binder.specs.Conditions.{PlainTests, tests_of}
use Rattle.binder.specs.Items.{columns_of}
use Rattle.binder.specs.Joins.{is_joined}
use Rattle.binder.specs.Lists.{aggregates}
use Rattle.binder.specs.Needed.{slots_from}
use Rattle.binder.specs.Plain.{PlainBlock, PlainWork, PlainStatement, Select, Update, Delete, Insert, plain_block, plain_work, plain_statement, plain_statements}
use Rattle.binder.specs.Faults.{both}
use Rattle.binder.specs.Scopes.{Names}
use Rattle.binder.specs.Sources.{table_meant, visible, sources_of}
use Rattle.binder.specs.Statements.{first_table, update_of, without_names, insert_of, work_of, PlainBound, slot_count, counted_work, with_statement, bound_of, statements_of}
use Rattle.binder.proofs.Readings.{bind_ok, or_fault_ok, where_ok, ok_is, in_turn-keeps, each-All}
use Rattle.binder.proofs.Within.{column_of-within}
use Rattle.binder.proofs.Checked.{IsPred, IsEdge, AreTests-tests}
use Rattle.binder.proofs.Kept.{IsItem, group_list-from, kept_columns-are, order_list-are}
use Rattle.binder.proofs.Limited.{given_clauses, All-unmap}
use Rattle.binder.proofs.Named.{IsSource, table_meant-is, sources-are, block-named}

-- a block over sources whose parts name what these have
pub record IsNamed (cat : Catalogue) (b : PlainBlock) : Type 0 where
  pub text : List ℕ
  pub over : List Visible
  pub items : List BoundItem
  pub mentions : List SlotColumn
  pub slots : b.slots ≡ slots_from cat items mentions 0 over
  pub sources : All (IsSource cat) over
  pub preds : All (IsPred (record { cat = cat; text = text; sources = over })) b.preds
  pub edges : All (IsEdge (record { cat = cat; text = text; sources = over })) b.edges
  pub group : (list : List Item) → b.group ≡ Some list → All (IsItem (record { cat = cat; text = text; sources = over })) list
  pub order : All (IsItem (record { cat = cat; text = text; sources = over })) b.order

pub named_block : (cat : Catalogue) (block : Block) → IsNamed cat (plain_block block) → NamesBlock cat block
named_block cat block is =
    block-named (record { cat = cat; text = is.text; sources = is.over }) is.items is.mentions block is.slots is.sources is.preds is.edges is.group is.order

-- the clauses that are given are those, and their edges connect the slots
joined-are : (at : ℕ) (names : Names) (select : ParsedSelect) (clauses : PlainClauses) → joined_clauses at names select ≡ Ok clauses
    → (clauses_of names select ≡ Ok clauses) × (is_joined (length names.sources) clauses.tests.edges ≡ true)
unfolding joined_clauses
joined-are at names select clauses e =
    let c = bind_ok (clauses_of names select) (λ found. where_holds (Unjoined at) (is_joined (length names.sources) found.tests.edges) found) clauses e in
    let made = where_ok (Unjoined at) (is_joined (length names.sources) c.0.tests.edges) c.0 clauses c.2 in
    subst (λ (x : PlainClauses). (clauses_of names select ≡ Ok x) × (is_joined (length names.sources) x.tests.edges ≡ true)) made.1 (c.1, made.0)

select-named : (cat : Catalogue) (text : List ℕ) (at : ℕ) (select : ParsedSelect) (b : PlainBlock) → select_of cat text at select ≡ Ok b → IsNamed cat b
unfolding select_of
select-named cat text at select b e =
    let s = bind_ok (sources_of cat text select.sources) (λ sources. joined_clauses at (record { cat = cat; text = text; sources = sources }) select >>= λ clauses.
    Ok (select_block (record { cat = cat; text = text; sources = sources }) select clauses)) b e in
    let names : Names = record { cat = cat; text = text; sources = s.0 } in
    let j = bind_ok (joined_clauses at names select) (λ clauses. Ok (select_block names select clauses)) b s.2 in
    let c = joined-are at names select j.0 j.1 in
    let made = ok_is (select_block names select j.0) b j.2 in
    let given = given_clauses names select j.0 c.0 in
    let are = AreTests-tests names select.conditions j.0.tests given.tests in
    let aggregate = aggregates j.0.items select.order in
    let named : IsNamed cat (select_block names select j.0) = record {
      text = text;
      over = s.0;
      items = j.0.items;
      mentions = clause_mentions j.0;
      slots = refl;
      sources = sources-are cat text select.sources s.0 s.1;
      preds = are.preds;
      edges = are.edges;
      group = λ list g.
          let from = group_list-from names select.distinct aggregate j.0.tests.preds j.0.group j.0.items given.group given.items list g in
          subst (All (IsItem names)) from.2 (kept_columns-are names j.0.tests.preds from.0 from.1);
      order = order_list-are names aggregate j.0.tests.preds j.0.group j.0.order.items given.order;
    } in
    subst (IsNamed cat) made named

-- the one source of a statement that changes rows
record IsOne (cat : Catalogue) (text : List ℕ) (names : Names) : Type 0 where
  over : Visible
  is : names ≡ record { cat = cat; text = text; sources = over ∷ [] }
  table : over.table < length cat.tables

one-is : (cat : Catalogue) (text : List ℕ) (source : Source) (names : Names) → one_source cat text source ≡ Ok names → IsOne cat text names
one-is cat text source names e =
    let t = bind_ok (table_meant cat text source.table) (λ t. Ok (record { cat = cat; text = text; sources = visible cat text source.alias t ∷ [] })) names e in
    record { over = visible cat text source.alias t.0; is = sym (ok_is (record { cat = cat; text = text; sources = visible cat text source.alias t.0 ∷ [] }) names t.2); table = table_meant-is cat text source.table t.0 t.1 }

change-named : (cat : Catalogue) (text : List ℕ) (v : Visible) (conds : List Condition) (tests : PlainTests) (mentions : List SlotColumn) → v.table < length cat.tables
    → tests_of (record { cat = cat; text = text; sources = v ∷ [] }) conds ≡ Ok tests → IsNamed cat (change_block (record { cat = cat; text = text; sources = v ∷ [] }) tests mentions)
change-named cat text v conds tests mentions lt e =
    let names : Names = record { cat = cat; text = text; sources = v ∷ [] } in
    let are = AreTests-tests names conds tests e in
    record {
      text = text;
      over = v ∷ [];
      items = [];
      mentions = mentions;
      slots = refl;
      sources = All-cons (IsSource cat) v [] lt (All-nil (IsSource cat));
      preds = are.preds;
      edges = are.edges;
      group = λ list g. absurd cc;
      order = All-nil (IsItem names);
    }

-- how many columns the first slot has
abbrev pub first_width : Catalogue → List Slot → ℕ
first_width cat [] = 0
first_width cat (slot ∷ slots) = column_count cat slot.table

-- what a statement does names what the catalogue has
abbrev pub IsNamedWork : Catalogue → PlainWork → Type 0
IsNamedWork cat (Select b) = IsNamed cat b
IsNamedWork cat (Update b columns) = IsNamed cat b × All (λ c. c < first_width cat b.slots) columns
IsNamedWork cat (Delete b) = IsNamed cat b
IsNamedWork cat (Insert t rows) = t < length cat.tables

both_ok : {A B : Type 0} (r : Result A BindFault) (s : Result B BindFault) (x : A × B) → both r s ≡ Ok x → (r ≡ Ok x.0) × (s ≡ Ok x.1)
both_ok (Ok a) (Ok b) x e = (cc, cc)
both_ok (Ok a) (Err d) x e = absurd cc
both_ok (Err d) (Ok b) x e = absurd cc
both_ok (Err d) (Err f) x e = absurd cc

written-are : (cat : Catalogue) (text : List ℕ) (t : ℕ) (uses : List NameUse) (columns : List ℕ) → written_columns cat text t uses ≡ Ok columns → All (λ c. c < column_count cat t) columns
written-are cat text t uses columns e =
    each-All (written_column cat text t) (λ c. c < column_count cat t)
    (λ name_use c found. column_of-within cat t (word_in text name_use.name) c (or_fault_ok (NoColumn (place name_use.name)) (column_of cat.tables t (word_in text name_use.name)) c found))
    uses columns e

changed-named : (cat : Catalogue) (text : List ℕ) (v : Visible) (conds : List Condition) (mentions : List SlotColumn) (b : PlainBlock) → v.table < length cat.tables
    → changed_block (record { cat = cat; text = text; sources = v ∷ [] }) conds mentions ≡ Ok b → IsNamed cat b × (first_width cat b.slots ≡ column_count cat v.table)
unfolding changed_block
changed-named cat text v conds mentions b lt e =
    let names : Names = record { cat = cat; text = text; sources = v ∷ [] } in
    let t = bind_ok (tests_of names conds) (λ tests. Ok (change_block names tests (mentions ++ tests.mentions))) b e in
    subst (λ (x : PlainBlock). IsNamed cat x × (first_width cat x.slots ≡ column_count cat v.table)) (ok_is (change_block names t.0 (mentions ++ t.0.mentions)) b t.2)
    (change-named cat text v conds t.0 (mentions ++ t.0.mentions) lt t.1, refl)

delete-named : (cat : Catalogue) (text : List ℕ) (source : Source) (conds : List Condition) (b : PlainBlock) → delete_of cat text source conds ≡ Ok b → IsNamed cat b
unfolding delete_of
delete-named cat text source conds b e =
    let s = bind_ok (one_source cat text source) (λ names. changed_block names conds []) b e in
    let one = one-is cat text source s.0 s.1 in
    (changed-named cat text one.over conds [] b one.table (subst (λ (n : Names). changed_block n conds [] ≡ Ok b) one.is s.2)).0

update-named : (cat : Catalogue) (text : List ℕ) (source : Source) (columns uses : List NameUse) (conds : List Condition) (w : PlainWork) → update_of cat text source columns uses conds ≡ Ok w → IsNamedWork cat w
unfolding update_of
update-named cat text source columns uses conds w e =
    let s = bind_ok (one_source cat text source) (λ names. both (written_columns names.cat names.text (first_table names.sources) columns) (columns_of names uses) >>= λ set.
    changed_block names conds set.1 >>= λ block. Ok (Update block set.0)) w e in
    let one = one-is cat text source s.0 s.1 in
    let names : Names = record { cat = cat; text = text; sources = one.over ∷ [] } in
    let rest : (both (written_columns cat text one.over.table columns) (columns_of names uses) >>= λ set. changed_block names conds set.1 >>= λ block. Ok (Update block set.0)) ≡ Ok w
    = subst (λ (n : Names). (both (written_columns n.cat n.text (first_table n.sources) columns) (columns_of n uses) >>= λ set. changed_block n conds set.1 >>= λ block. Ok (Update block set.0)) ≡ Ok w) one.is s.2 in
    let set = bind_ok (both (written_columns cat text one.over.table columns) (columns_of names uses)) (λ set. changed_block names conds set.1 >>= λ block. Ok (Update block set.0)) w rest in
    let parts = both_ok (written_columns cat text one.over.table columns) (columns_of names uses) set.0 set.1 in
    let b = bind_ok (changed_block names conds set.0.1) (λ block. Ok (Update block set.0.0)) w set.2 in
    let is = changed-named cat text one.over conds set.0.1 b.0 one.table b.1 in
    subst (IsNamedWork cat) (ok_is (Update b.0 set.0.0) w b.2)
    (is.0, subst (λ (n : ℕ). All (λ c. c < n) set.0.0) (sym is.1) (written-are cat text one.over.table columns set.0.0 parts.0))

without-is : {A : Type 0} (uses : List NameUse) (x y : A) → without_names uses x ≡ Ok y → x ≡ y
without-is [] x y e = cc
without-is (name_use ∷ more) x y e = absurd cc

insert-named : (cat : Catalogue) (text : List ℕ) (table : Span) (columns uses : List NameUse) (rows : ℕ) (w : PlainWork) → insert_of cat text table columns uses rows ≡ Ok w → IsNamedWork cat w
unfolding insert_of
insert-named cat text table columns uses rows w e =
    let t = bind_ok (table_meant cat text table) (λ t. written_columns cat text t columns >>= λ listed. without_names uses (Insert t rows)) w e in
    let l = bind_ok (written_columns cat text t.0 columns) (λ listed. without_names uses (Insert t.0 rows)) w t.2 in
    subst (IsNamedWork cat) (without-is uses (Insert t.0 rows) w l.2) (table_meant-is cat text table t.0 t.1)

work-named : (cat : Catalogue) (text : List ℕ) (at : ℕ) (body : Body) (w : PlainWork) → work_of cat text at body ≡ Ok w → IsNamedWork cat w
unfolding work_of
work-named cat text at (bodies.Select select) w e =
    let b = bind_ok (select_of cat text at select) (λ block. Ok (Select block)) w e in
    subst (IsNamedWork cat) (ok_is (Select b.0) w b.2) (select-named cat text at select b.0 b.1)
work-named cat text at (bodies.Insert table columns uses rows) w e = insert-named cat text table columns uses rows w e
work-named cat text at (bodies.Update source columns uses conditions) w e = update-named cat text source columns uses conditions w e
work-named cat text at (bodies.Delete source conditions) w e =
    let b = bind_ok (delete_of cat text source conditions) (λ block. Ok (Delete block)) w e in
    subst (IsNamedWork cat) (ok_is (Delete b.0) w b.2) (delete-named cat text source conditions b.0 b.1)

-- what is kept of the statements so far
record AreBound (cat : Catalogue) (bound : PlainBound) : Type 0 where
  named : All (λ (s : PlainStatement). IsNamedWork cat s.work) bound.statements
  count : sum_by (λ (s : PlainStatement). slot_count s.work) bound.statements ≡ bound.slots
  few : bound.slots ≤ MOST_SLOTS_IN_ALL

counted-is : (cat : Catalogue) (text : List ℕ) (slots : ℕ) (statement : ParsedStatement) (counted : PlainWork × ℕ) → counted_work cat text slots statement ≡ Ok counted
    → (work_of cat text statement.place statement.body ≡ Ok counted.0) × (counted.1 ≡ slots + slot_count counted.0) × (counted.1 ≤ MOST_SLOTS_IN_ALL)
unfolding counted_work
counted-is cat text slots statement counted e =
    let w = bind_ok (work_of cat text statement.place statement.body) (λ work. where_holds (TooManySlotsInAll statement.place) (nat_le (slots + slot_count work) MOST_SLOTS_IN_ALL) (work, slots + slot_count work)) counted e in
    let made = where_ok (TooManySlotsInAll statement.place) (nat_le (slots + slot_count w.0) MOST_SLOTS_IN_ALL) (w.0, slots + slot_count w.0) counted w.2 in
    let few : slots + slot_count w.0 ≤ MOST_SLOTS_IN_ALL = leb-true (slots + slot_count w.0) MOST_SLOTS_IN_ALL made.0 in
    subst (λ (x : PlainWork × ℕ). (work_of cat text statement.place statement.body ≡ Ok x.0) × (x.1 ≡ slots + slot_count x.0) × (x.1 ≤ MOST_SLOTS_IN_ALL)) made.1 (w.1, refl, few)

statement-bound : (cat : Catalogue) (text : List ℕ) (so_far : PlainBound) (statement : ParsedStatement) (after : PlainBound) → AreBound cat so_far → with_statement cat text so_far statement ≡ Ok after → AreBound cat after
unfolding with_statement
statement-bound cat text so_far statement after are e =
    let c = bind_ok (counted_work cat text so_far.slots statement) (λ counted. Ok (record { slots = counted.1; statements = so_far.statements ++ (record { weight = statement.weight; work = counted.0 }) ∷ [] })) after e in
    let is = counted-is cat text so_far.slots statement c.0 c.1 in
    let one : PlainStatement = record { weight = statement.weight; work = c.0.0 } in
    let next : PlainBound = record { slots = c.0.1; statements = so_far.statements ++ one ∷ [] } in
    let grown : AreBound cat next = record {
      named = All-push (λ (s : PlainStatement). IsNamedWork cat s.work) so_far.statements one are.named (work-named cat text statement.place statement.body c.0.0 is.0);
      count = sum_by-append (λ (s : PlainStatement). slot_count s.work) so_far.statements (one ∷ []) ∙ (let n = are.count in let k = is.1 in omega arith);
      few = is.2;
    } in
    subst (AreBound cat) (ok_is next after c.2) grown

first-width : (cat : Catalogue) (block : Block) (c : ℕ) → c < first_width cat block.slots → c < slot_columns cat block 0
first-width cat block c lt = by block.slots lt
  where
    by : (slots : List Slot) → c < first_width cat slots → c < option_map_or (λ table. length table.columns) (option_and_then (λ (slot : Slot). table_at cat slot.table) (slice_get slots 0)) 0
    by [] h = h
    by (slot ∷ slots) h = h

update-names : (cat : Catalogue) (block : Block) (columns : List ℕ) → IsNamed cat (plain_block block) × All (λ c. c < first_width cat block.slots) columns → NamesUpdate cat block columns
update-names cat block columns is = record {
  block_named = named_block cat block is.0;
  set = All-weaker (λ c. c < first_width cat block.slots) (λ c. c < slot_columns cat block 0) (λ c lt. first-width cat block c lt) columns is.1;
}

work-names : (cat : Catalogue) (work : Work) → IsNamedWork cat (plain_work work) → NamesWork cat work
work-names cat (works.Select block) is = record { selects = λ b e. let same : block ≡ b = cc in subst (NamesBlock cat) same (named_block cat block is); updates = λ b c e. absurd cc; deletes = λ b e. absurd cc; inserts = λ t r e. absurd cc }
work-names cat (works.Update block columns) is = record { selects = λ b e. absurd cc; updates = λ b c e. let same : block ≡ b = cc in let set : columns ≡ c = cc in subst (λ (x : Block). NamesUpdate cat x c) same (subst (NamesUpdate cat block) set (update-names cat block columns is)); deletes = λ b e. absurd cc; inserts = λ t r e. absurd cc }
work-names cat (works.Delete block) is = record { selects = λ b e. absurd cc; updates = λ b c e. absurd cc; deletes = λ b e. let same : block ≡ b = cc in subst (NamesBlock cat) same (named_block cat block is); inserts = λ t r e. absurd cc }
work-names cat (works.Insert t rows) is = record { selects = λ b e. absurd cc; updates = λ b c e. absurd cc; deletes = λ b e. absurd cc; inserts = λ u r e. let same : t ≡ u = cc in subst (λ (x : ℕ). x < length cat.tables) same is }

same_count : (work : Work) → slot_count (plain_work work) ≡ slots_of_work work
same_count (works.Select block) = refl
same_count (works.Update block columns) = refl
same_count (works.Delete block) = refl
same_count (works.Insert t rows) = refl

same_counts : (statements : List Statement) → map (λ (s : PlainStatement). slot_count s.work) (plain_statements statements) ≡ map (λ (s : Statement). slots_of_work s.work) statements
same_counts [] = refl
same_counts (s ∷ ss) =
    ap (λ (n : ℕ). n ∷ map (λ (t : PlainStatement). slot_count t.work) (plain_statements ss)) (same_count s.work) ∙ ap (λ (ns : List ℕ). slots_of_work s.work ∷ ns) (same_counts ss)

same_sum : (statements : List Statement) → sum_by (λ (s : PlainStatement). slot_count s.work) (plain_statements statements) ≡ sum_by (λ (s : Statement). slots_of_work s.work) statements
same_sum statements =
    sym (sum-map (λ (s : PlainStatement). slot_count s.work) (plain_statements statements)) ∙ ap sum (same_counts statements) ∙ sum-map (λ (s : Statement). slots_of_work s.work) statements

-- the statements that a text means name what the catalogue has, and together have at most 2000 slots
pub statements-lawful : (cat : Catalogue) (text : List ℕ) (parsed : List ParsedStatement) (statements : List Statement) → statements_of cat text parsed ≡ Ok (plain_statements statements)
    → All (λ (s : Statement). NamesWork cat s.work) statements × (sum_by (λ (s : Statement). slots_of_work s.work) statements ≤ MOST_SLOTS_IN_ALL)
unfolding statements_of
statements-lawful cat text parsed statements e =
    let b = bind_ok (bound_of cat text parsed) (λ bound. Ok bound.statements) (plain_statements statements) e in
    let are = in_turn-keeps (with_statement cat text) (AreBound cat) (λ so_far statement after so step. statement-bound cat text so_far statement after so step) parsed
    (record { slots = 0; statements = [] }) b.0 (record { named = All-nil (λ (s : PlainStatement). IsNamedWork cat s.work); count = refl; few = omega arith }) b.1 in
    let same = ok_is b.0.statements (plain_statements statements) b.2 in
    let named : All (λ (s : PlainStatement). IsNamedWork cat s.work) (plain_statements statements) = subst (All (λ (s : PlainStatement). IsNamedWork cat s.work)) same are.named in (
      All-weaker (λ (s : Statement). IsNamedWork cat (plain_work s.work)) (λ (s : Statement). NamesWork cat s.work) (λ s is. work-names cat s.work is) statements
          (All-unmap plain_statement (λ (s : PlainStatement). IsNamedWork cat s.work) statements named),
      let sums = ap (sum_by (λ (s : PlainStatement). slot_count s.work)) same in let own = same_sum statements in let count = are.count in let few = are.few in omega arith,
    )

-- the statements that were gathered are those that the text means
pub statements_of-bound : (cat : Catalogue) (text : List ℕ) (parsed : List ParsedStatement) (bound : PlainBound) → bound_of cat text parsed ≡ Ok bound → statements_of cat text parsed ≡ Ok bound.statements
unfolding statements_of
statements_of-bound cat text parsed bound e = rw e refl
