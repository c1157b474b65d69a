-- The blocks that statements mean keep the limits of blocks.
use Rattle.std.proofs.Common.{◌≡◌, ℕ, suc, ◌+◌, ◌^◌, ◌<◌, ◌≤◌, Bool, true, List, [], ◌∷◌, length, map, None, Ok, refl, sym, ap, subst, ◌∙◌, arith}
use Rattle.std.specs.Prelude.{All}
use Rattle.std.proofs.lemmas.List.{length-map}
use Rattle.std.proofs.lemmas.List.Elements.{All-nil, All-cons, All-head, All-tail, All-weaker}
use Rattle.adv_base.specs.declared.catalogue.Catalogue.{Catalogue}
use Rattle.adv_base.specs.declared.workload.parts.Edge.{Edge}
use Rattle.adv_base.specs.declared.workload.predicate.Pred.{Pred}
use Rattle.adv_base.specs.Limits.Blocks.{BlockLimits, GroupLimits, AreFree, ends}
use Rattle.adv_base.specs.Sets.{IsConnected}
use Rattle.adv_base.specs.Readings.{◌>>=◌}
use Rattle.sql_reader.specs.declared.parsed.Condition.{Condition}
use Rattle.sql_reader.specs.declared.parsed.ParsedSelect.{ParsedSelect}
use Rattle.binder.specs.declared.gathered.SlotColumn.{SlotColumn}
use Rattle.binder.specs.declared.gathered.BoundItem.{BoundItem}
use Rattle.binder.specs.declared.scope.Visible.{Visible}
use Rattle.binder.specs.Blocks.{PlainClauses, sort_keys_of, clauses_of}
use Rattle.binder.specs.Conditions.{PlainTests, tests_of}
use Rattle.binder.specs.Items.{columns_of, items_of}
use Rattle.binder.specs.Joins.{is_joined}
use Rattle.binder.specs.Lists.{kept_columns, upward, group_list, order_list}
use Rattle.binder.specs.Needed.{slots_from}
use Rattle.binder.specs.Orders.{SelectList, mentions_from, orders_from}
use Rattle.binder.specs.Plain.{PlainPred, plain_pred, plain_edge, plain_preds, plain_edges}
use Rattle.binder.specs.Scopes.{Names}
use Rattle.binder.proofs.Readings.{bind_ok, ok_is}
use Rattle.binder.proofs.Within.{IsColumn}
use Rattle.binder.proofs.Checked.{IsPred, IsEdge, AreTests, AreTests-tests, edges-tests}
use Rattle.binder.proofs.Joined.{joined-connect}
use Rattle.binder.proofs.Kept.{IsItem, IsBound, kept_items-free, kept_columns-limits, group_list-from, order_list-limits, order_list-free}
use Rattle.binder.proofs.Sorted.{columns-are, items-are, orders-are}

-- what the clauses of a SELECT gave, one by one
pub record GivenClauses (names : Names) (select : ParsedSelect) (clauses : PlainClauses) : Type 0 where
  pub items : All (IsBound names) clauses.items
  pub tests : tests_of names select.conditions ≡ Ok clauses.tests
  pub group : All (IsColumn names) clauses.group
  pub order : All (IsItem names) clauses.order.items

pub given_clauses : (names : Names) (select : ParsedSelect) (clauses : PlainClauses) → clauses_of names select ≡ Ok clauses → GivenClauses names select clauses
unfolding clauses_of sort_keys_of
given_clauses names select clauses e =
    let a = bind_ok (items_of names select.items) (λ items. tests_of names select.conditions >>= λ tests. columns_of names select.group >>= λ group. sort_keys_of names select items >>= λ order.
    Ok (record { items = items; tests = tests; group = group; order = order })) clauses e in
    let b = bind_ok (tests_of names select.conditions) (λ tests. columns_of names select.group >>= λ group. sort_keys_of names select a.0 >>= λ order.
    Ok (record { items = a.0; tests = tests; group = group; order = order })) clauses a.2 in
    let g = bind_ok (columns_of names select.group) (λ group. sort_keys_of names select a.0 >>= λ order. Ok (record { items = a.0; tests = b.0; group = group; order = order })) clauses b.2 in
    let o = bind_ok (sort_keys_of names select a.0) (λ order. Ok (record { items = a.0; tests = b.0; group = g.0; order = order })) clauses g.2 in
    let list : SelectList = record { written = select.items; bound = a.0 } in
    let h = bind_ok (mentions_from names list [] select.having) (λ having. orders_from names list having select.order) o.0 o.1 in
    let items = items-are names select.items a.0 a.1 in
    let made : PlainClauses = record { items = a.0; tests = b.0; group = g.0; order = o.0 } in
    let given : GivenClauses names select made = record {
      items = items;
      tests = b.1;
      group = columns-are names select.group g.0 g.1;
      order = orders-are names list h.0 select.order o.0 items h.2;
    } in
    subst (GivenClauses names select) (ok_is made clauses o.2) given

pub slots_from-length : (cat : Catalogue) (items : List BoundItem) (mentions : List SlotColumn) (s : ℕ) (sources : List Visible) → length (slots_from cat items mentions s sources) ≡ length sources
slots_from-length cat items mentions s [] = refl
slots_from-length cat items mentions s (v ∷ vs) = ap suc (slots_from-length cat items mentions (s + 1) vs)

-- what holds of the plain parts holds of the parts as they are declared
pub All-unmap : {A B : Type 0} (f : A → B) (P : B → Type 0) (xs : List A) → All P (map f xs) → All (λ x. P (f x)) xs
All-unmap f P [] all = All-nil (λ x. P (f x))
All-unmap f P (x ∷ xs) all = All-cons (λ y. P (f y)) x xs (All-head P (f x) (map f xs) all) (All-unmap f P xs (All-tail P (f x) (map f xs) all))

-- predicates and edges as they are declared, behind their plain forms
pub record Declared (preds : List Pred) (edges : List Edge) (tests : PlainTests) : Type 0 where
  pub preds_are : plain_preds preds ≡ tests.preds
  pub edges_are : plain_edges edges ≡ tests.edges

module _ (names : Names) (preds : List Pred) (edges : List Edge) (tests : PlainTests) (declared : Declared preds edges tests) (are : AreTests names tests) where
  pub pred_slots : All (λ (pred : Pred). pred.slot < length names.sources) preds
  pred_slots =
      let all : All (IsPred names) (plain_preds preds) = rw declared.preds_are are.preds in
      All-weaker (λ (p : Pred). IsPred names (plain_pred p)) (λ (p : Pred). p.slot < length names.sources) (λ p is. is.slot) preds (All-unmap plain_pred (IsPred names) preds all)

  edges_all : All (λ (e : Edge). IsEdge names (plain_edge e)) edges
  edges_all = let all : All (IsEdge names) (plain_edges edges) = rw declared.edges_are are.edges in All-unmap plain_edge (IsEdge names) edges all

  pub edge_lefts : All (λ (edge : Edge). edge.left < length names.sources) edges
  edge_lefts = All-weaker (λ (e : Edge). IsEdge names (plain_edge e)) (λ (e : Edge). e.left < length names.sources) (λ e is. is.left) edges edges_all

  pub edge_rights : All (λ (edge : Edge). edge.right < length names.sources) edges
  edge_rights = All-weaker (λ (e : Edge). IsEdge names (plain_edge e)) (λ (e : Edge). e.right < length names.sources) (λ e is. is.right) edges edges_all

-- the block of a SELECT keeps the limits of blocks
pub select-limits : (names : Names) (select : ParsedSelect) (clauses : PlainClauses) (preds : List Pred) (edges : List Edge) (mentions : List SlotColumn) (distinct aggregate : Bool)
    → 1 ≤ length names.sources → length names.sources ≤ 8 → length select.conditions < 2 ^ 32 → clauses_of names select ≡ Ok clauses → Declared preds edges clauses.tests
    → is_joined (length names.sources) clauses.tests.edges ≡ true
    → BlockLimits (slots_from names.cat clauses.items mentions 0 names.sources) preds edges
    (group_list distinct aggregate clauses.tests.preds clauses.group clauses.items) (order_list aggregate clauses.tests.preds clauses.group clauses.order.items)
select-limits names select clauses preds edges mentions distinct aggregate some few conds e declared joined =
    let given = given_clauses names select clauses e in
    let are = AreTests-tests names select.conditions clauses.tests given.tests in
    let most = edges-tests names select.conditions clauses.tests given.tests in
    let len = slots_from-length names.cat clauses.items mentions 0 names.sources in
    let count : length edges ≡ length clauses.tests.edges = sym (length-map edges plain_edge) ∙ ap length declared.edges_are in
    let lefts = edge_lefts names preds edges clauses.tests declared are in
    let rights = edge_rights names preds edges clauses.tests declared are in
    let whole : is_joined (length names.sources) (plain_edges edges) ≡ true = rw declared.edges_are joined in
    record {
      slots_some = omega arith;
      slots_most = omega arith;
      pred_slots = rw len (pred_slots names preds edges clauses.tests declared are);
      edge_lefts = rw len lefts;
      edge_rights = rw len rights;
      edges_most = omega arith;
      connected = rw len (joined-connect (length names.sources) edges whole);
      group_list = λ list g.
          let from = group_list-from names distinct aggregate clauses.tests.preds clauses.group clauses.items given.group given.items list g in
          rw len (subst (GroupLimits (length names.sources)) from.2 (kept_columns-limits names clauses.tests.preds from.0 from.1));
      group_free = λ list g.
          let from = group_list-from names distinct aggregate clauses.tests.preds clauses.group clauses.items given.group given.items list g in
          subst (AreFree preds) (ap (λ (ps : List PlainPred). kept_columns ps from.0) declared.preds_are ∙ from.2) (kept_items-free preds (map upward from.0));
      order_list = rw len (order_list-limits names aggregate clauses.tests.preds clauses.group clauses.order.items given.order);
      order_free = subst (AreFree preds) (ap (λ (ps : List PlainPred). order_list aggregate ps clauses.group clauses.order.items) declared.preds_are) (order_list-free aggregate preds clauses.group clauses.order.items);
    }

one_connected : (edges : List (ℕ × ℕ)) → IsConnected 1 edges
one_connected edges a b some_a some_b whole apart = absurd (omega arith)

-- the block of a statement that changes rows keeps them too
pub change-limits : (names : Names) (conds : List Condition) (tests : PlainTests) (preds : List Pred) (edges : List Edge) (mentions : List SlotColumn)
    → length names.sources ≡ 1 → length conds < 2 ^ 32 → tests_of names conds ≡ Ok tests → Declared preds edges tests
    → BlockLimits (slots_from names.cat [] mentions 0 names.sources) preds edges None []
change-limits names conds tests preds edges mentions one few e declared =
    let are = AreTests-tests names conds tests e in
    let most = edges-tests names conds tests e in
    let len = slots_from-length names.cat [] mentions 0 names.sources in
    let count : length edges ≡ length tests.edges = sym (length-map edges plain_edge) ∙ ap length declared.edges_are in
    record {
      slots_some = omega arith;
      slots_most = omega arith;
      pred_slots = rw len (pred_slots names preds edges tests declared are);
      edge_lefts = rw len (edge_lefts names preds edges tests declared are);
      edge_rights = rw len (edge_rights names preds edges tests declared are);
      edges_most = omega arith;
      connected = rw (len, one) (one_connected (map ends edges));
      group_list = λ list g. absurd cc;
      group_free = λ list g. absurd cc;
      order_list = record { within = λ k d lt. absurd (omega arith); apart = λ i j d lt le. absurd (omega arith) };
      order_free = λ k d lt. absurd (omega arith);
    }

-- the join edges of a SELECT are between its sources
pub clause-edges : (names : Names) (select : ParsedSelect) (clauses : PlainClauses) (preds : List Pred) (edges : List Edge) → clauses_of names select ≡ Ok clauses → Declared preds edges clauses.tests
    → All (λ (edge : Edge). edge.left < length names.sources) edges × All (λ (edge : Edge). edge.right < length names.sources) edges
clause-edges names select clauses preds edges e declared =
    let given = given_clauses names select clauses e in
    let are = AreTests-tests names select.conditions clauses.tests given.tests in
    (edge_lefts names preds edges clauses.tests declared are, edge_rights names preds edges clauses.tests declared are)
