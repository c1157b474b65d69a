-- What the statements of a text of n bytes keep.
use Rattle.std.proofs.Common.{◌≡◌, ℕ, zero, suc, ◌+◌, ◌^◌, ◌<◌, ◌≤◌, true, List, [], ◌∷◌, refl, arith}
use Rattle.std.proofs.lemmas.Bool.{le-leb, and_from}
use Rattle.sql_reader.specs.declared.seen.Seen.{Seen}
use Rattle.sql_reader.specs.declared.parsed.NameUse.{NameUse}
use Rattle.sql_reader.specs.declared.kind.TerminalKind.{TerminalKind}
use Rattle.sql_reader.specs.declared.parsed.Condition.{Condition}
use Rattle.sql_reader.specs.declared.parsed.ParsedItem.{ParsedItem}
use Rattle.sql_reader.specs.declared.parsed.ParsedOrder.{ParsedOrder}
use Rattle.sql_reader.specs.declared.parsed.Body.TheVariants as bodies
use Rattle.sql_reader.specs.declared.parts.InsertParts.{InsertParts}
use Rattle.sql_reader.specs.Rule.{Nesting, State, Rule, Take, Use, Meaning, IsNested}
use Rattle.sql_reader.specs.Values.{beside, conditions_of, with_conditions, expr_of, with_source, plain_column, insert_body, update_body}
use Rattle.sql_reader.specs.Valid.{span_in, option_in, name_in, source_in, condition_in, item_in, order_item_in, body_in, expr_in, conditions_in}
use Rattle.sql_reader.specs.Grammar.{quantifier, group_part, column_list, one_column, more_columns, another_column, direction, insert_table, insert_columns, name_list, name_as_column, more_names, another_name, set_column}
use Rattle.sql_reader.specs.Printed as printed
use Rattle.sql_reader.proofs.Keeps.{Free, Scale, Keeps, give_keeps, take_keeps, then_keeps, use_keeps, part_keeps, either_keeps, many_keeps, known_keeps, free_keeps}
use Rattle.sql_reader.proofs.KeptExpressions.{text_scale, Few, Passes, some, few_none, few_more, few_later, few_in, Loose, At, Alone, expr_known, NestedKeep, column_keeps, alias_keeps, source_keeps, word_keeps, maybe_keeps, commas_keeps, behind_keeps, expr_keeps, loose_expr, loose_later, exprs_keeps, call_keeps, parenthesis_keeps, signed_keeps, conds_keeps, nested_conds_keeps, where_keeps}
use Rattle.sql_reader.proofs.KeptParts.{SelectSoFar, SelectKnown, InsertSoFar, InsertKnown, UpdateKnown, StatementsKnown, NextKnown, select_later, full_later, insert_later, update_later, more_is_some, select_body, insert_known, update_known, one_more}

module _ (n : ℕ) (d : (x : Nesting) → Meaning (State x) (State x)) (nested : NestedKeep n d) where
  abbrev c : Scale
  c = text_scale n d

  -- SELECT

  item_keeps : Keeps c Free printed.item (Passes (item_in n))
  unfolding printed.item
  item_keeps =
      either_keeps c (take_keeps c (λ k u p room among good known. (some k, refl)))
      (either_keeps c
      (then_keeps c (Passes (span_in n)) (take_keeps c (λ k u p room among good known. (some k, good.0)))
      (then_keeps c (Passes (span_in n)) (take_keeps c (λ k s p room among good known. (some k, known.1))) (take_keeps c (λ k s p room among good known. (some k, known.1)))))
      (then_keeps c (At n 0) (give_keeps c (λ k u room known. (few_none (name_in n) k, refl)))
      (then_keeps c (λ k found. (1 ≤ k) × Alone n 0 k found) (known_keeps c (λ k a h. h) (λ k b h. (h.some_read, h)) (expr_keeps n d nested 0))
      (use_keeps c Free (λ k o. option_in n o ≡ true) (alias_keeps n d) (λ k found known. tt)
      (λ k i found o room known other.
      (omega (arith, known.0), and_from (expr_in n (expr_of found)) (option_in n o) (expr_known n k found (omega (arith, room)) known.1) other))))))

  -- [ALL | DISTINCT]
  quantifier_keeps : Keeps c (SelectSoFar n) quantifier (SelectSoFar n)
  unfolding quantifier
  quantifier_keeps =
      either_keeps c (take_keeps c (λ k s p room among good known. select_later n k (k + 1) s (omega arith) known))
      (either_keeps c
      (take_keeps c (λ k s p room among good known.
      let later = select_later n k (k + 1) s (omega arith) known in
      record { items = later.items; sources = later.sources; conditions = later.conditions; group = later.group; having = later.having; order = later.order }))
      (give_keeps c (λ k s room known. known)))

  -- source, put behind those before
  one_source_keeps : Keeps c (SelectSoFar n) (printed.also printed.source with_source) (SelectKnown n)
  one_source_keeps =
      use_keeps c Free (Passes (source_in n)) (source_keeps n d) (λ k s known. tt)
      (λ k i s x room known new.
      let later = select_later n k (k + i) s (omega arith) known in (
        record {
          items = later.items;
          sources = few_more (source_in n) k (k + i) s.sources x (omega (arith, new.0)) known.sources new.1;
          conditions = later.conditions;
          group = later.group;
          having = later.having;
          order = later.order;
        },
        more_is_some s.sources x,
      ))

  more_source_keeps : Keeps c (SelectKnown n) (printed.also printed.source with_source) (SelectKnown n)
  more_source_keeps = known_keeps c (λ k s known. known.0) (λ k s known. known) one_source_keeps

  -- the conditions of a SELECT, behind those before
  conditions_keep : {r : Rule (List Condition) (List Condition)} → Keeps c (Few (condition_in n)) r (Few (condition_in n)) → Keeps c (SelectKnown n) (Use conditions_of r with_conditions) (SelectKnown n)
  conditions_keep f =
      part_keeps c (Few (condition_in n)) (Few (condition_in n)) f (λ k s known. known.0.conditions)
      (λ k j s all before room known new.
      let later = select_later n k j s before known.0 in
      (record { items = later.items; sources = later.sources; conditions = new; group = later.group; having = later.having; order = later.order }, known.1))

  sources_keep : Keeps c (SelectSoFar n) printed.sources (SelectKnown n)
  unfolding printed.sources
  sources_keep =
      then_keeps c (SelectKnown n) one_source_keeps
      (many_keeps c
      (either_keeps c (then_keeps c (SelectKnown n) (word_keeps n d (full_later n)) more_source_keeps)
      (then_keeps c (SelectKnown n) (then_keeps c (SelectKnown n) (maybe_keeps n d (word_keeps n d (full_later n))) (word_keeps n d (full_later n)))
      (then_keeps c (SelectKnown n) more_source_keeps (then_keeps c (SelectKnown n) (word_keeps n d (full_later n)) (conditions_keep (conds_keeps n d nested)))))))

  column_list_keeps : Keeps c (Few (name_in n)) column_list (Few (name_in n))
  unfolding column_list one_column more_columns another_column
  column_list_keeps =
      then_keeps c (Few (name_in n)) (behind_keeps n d (name_in n) (column_keeps n d))
      (many_keeps c (then_keeps c (Few (name_in n)) (take_keeps c (λ k xs p room among good known. few_later (name_in n) k (k + 1) xs (omega arith) known)) (behind_keeps n d (name_in n) (column_keeps n d))))

  -- [GROUP BY column { "," column }]
  group_keeps : Keeps c (SelectKnown n) group_part (SelectKnown n)
  unfolding group_part
  group_keeps =
      either_keeps c
      (then_keeps c (SelectKnown n) (take_keeps c (λ k s p room among good known. full_later n k (k + 1) s (omega arith) known))
      (then_keeps c (SelectKnown n) (take_keeps c (λ k s p room among good known. full_later n k (k + 1) s (omega arith) known))
      (part_keeps c (Few (name_in n)) (Few (name_in n)) column_list_keeps (λ k s known. known.0.group)
      (λ k j s all before room known new.
      let later = select_later n k j s before known.0 in
      (record { items = later.items; sources = later.sources; conditions = later.conditions; group = new; having = later.having; order = later.order }, known.1)))))
      (give_keeps c (λ k s room known. known))

  -- test = expr compare expr
  test_keeps : Keeps c (Loose n) printed.test (Loose n)
  unfolding printed.test
  test_keeps =
      then_keeps c (Loose n) (loose_expr n d nested)
      (then_keeps c (Loose n) (take_keeps c (λ k found p room among good known. loose_later n d nested k (k + 1) found (omega arith) known)) (loose_expr n d nested))

  -- [HAVING test { AND test }]
  having_keeps : Keeps c (SelectKnown n) printed.having (SelectKnown n)
  unfolding printed.having
  having_keeps =
      maybe_keeps n d
      (then_keeps c (SelectKnown n) (word_keeps n d (full_later n))
      (use_keeps c (Loose n) (Loose n)
      (then_keeps c (Loose n) test_keeps (many_keeps c (then_keeps c (Loose n) (word_keeps n d (loose_later n d nested)) test_keeps)))
      (λ k s known. few_none (name_in n) 0)
      (λ k i s found room known new.
      let later = select_later n k (k + i) s (omega arith) known.0 in (
        record {
          items = later.items;
          sources = later.sources;
          conditions = later.conditions;
          group = later.group;
          having = few_later (name_in n) i (k + i) found.uses (omega arith) new;
          order = later.order;
        },
        known.1,
      ))))

  order_known : (k : ℕ) (found : Seen) → k + 1 < 2 ^ 32 → Alone n 0 k found → expr_in n (expr_of found) ≡ true
  order_known k found room known = expr_known n k found (omega (arith, room)) known

  -- [ASC | DESC]
  direction_keeps : Keeps c (Alone n 0) direction (Passes (order_item_in n))
  unfolding direction
  direction_keeps =
      either_keeps c (take_keeps c (λ k found p room among good known. (some k, order_known k found room known)))
      (either_keeps c (take_keeps c (λ k found p room among good known. (some k, order_known k found room known)))
      (give_keeps c (λ k found room known. (known.some_read, expr_known n k found room known))))

  -- order = expr [ASC | DESC]
  order_keeps : Keeps c Free printed.order (Passes (order_item_in n))
  unfolding printed.order
  order_keeps =
      then_keeps c (At n 0) (give_keeps c (λ k u room known. (few_none (name_in n) k, refl)))
      (then_keeps c (Alone n 0) (expr_keeps n d nested 0) direction_keeps)

  few_orders_later : (k j : ℕ) (xs : List ParsedOrder) → k ≤ j → Few (order_item_in n) k xs → Few (order_item_in n) j xs
  few_orders_later k j xs room known = few_later (order_item_in n) k j xs room known

  few_items_later : (k j : ℕ) (xs : List ParsedItem) → k ≤ j → Few (item_in n) k xs → Few (item_in n) j xs
  few_items_later k j xs room known = few_later (item_in n) k j xs room known

  -- [ORDER BY order { "," order }]
  orders_keep : Keeps c (SelectKnown n) printed.orders (SelectKnown n)
  unfolding printed.orders
  orders_keep =
      maybe_keeps n d
      (then_keeps c (SelectKnown n) (word_keeps n d (full_later n))
      (then_keeps c (SelectKnown n) (word_keeps n d (full_later n))
      (part_keeps c (Few (order_item_in n)) (Few (order_item_in n))
      (commas_keeps n d few_orders_later (behind_keeps n d (order_item_in n) order_keeps) (behind_keeps n d (order_item_in n) order_keeps))
      (λ k s known. known.0.order)
      (λ k j s all before room known new.
      let later = select_later n k j s before known.0 in
      (record { items = later.items; sources = later.sources; conditions = later.conditions; group = later.group; having = later.having; order = new }, known.1)))))

  select_rest_keeps : Keeps c Free printed.select_rest (SelectKnown n)
  unfolding printed.select_rest
  select_rest_keeps =
      then_keeps c (SelectSoFar n)
      (give_keeps c (λ k u room known.
      record {
        items = few_none (item_in n) k;
        sources = few_none (source_in n) k;
        conditions = few_none (condition_in n) k;
        group = few_none (name_in n) k;
        having = few_none (name_in n) k;
        order = few_none (order_item_in n) k;
      }))
      (then_keeps c (SelectKnown n)
      (then_keeps c (SelectSoFar n) quantifier_keeps
      (then_keeps c (SelectSoFar n)
      (part_keeps c (Few (item_in n)) (Few (item_in n))
      (commas_keeps n d few_items_later (behind_keeps n d (item_in n) item_keeps) (behind_keeps n d (item_in n) item_keeps))
      (λ k s known. known.items)
      (λ k j s all before room known new.
      let later = select_later n k j s before known in
      record { items = new; sources = later.sources; conditions = later.conditions; group = later.group; having = later.having; order = later.order }))
      (then_keeps c (SelectSoFar n) (word_keeps n d (select_later n)) sources_keep)))
      (then_keeps c (SelectKnown n) (conditions_keep (where_keeps n d nested))
      (then_keeps c (SelectKnown n) (then_keeps c (SelectKnown n) group_keeps having_keeps)
      (then_keeps c (SelectKnown n) orders_keep
      (use_keeps c Free Free (free_keeps c) (λ k s known. tt) (λ k i s u room known new. full_later n k (k + i) s (omega arith) known))))))

  -- the other statements

  name_as_column_keeps : Keeps c (Few (name_in n)) name_as_column (Few (name_in n))
  unfolding name_as_column
  name_as_column_keeps = take_keeps c (λ k xs p room among good known. few_more (name_in n) k (k + 1) xs (plain_column p.span) (omega arith) known good.0)

  names_later : (k j : ℕ) (xs : List NameUse) → k ≤ j → Few (name_in n) k xs → Few (name_in n) j xs
  names_later k j xs room known = few_later (name_in n) k j xs room known

  insert_columns_keeps : Keeps c (Few (name_in n)) insert_columns (Few (name_in n))
  unfolding insert_columns name_list more_names another_name
  insert_columns_keeps =
      either_keeps c
      (then_keeps c (Few (name_in n)) (word_keeps n d names_later)
      (then_keeps c (Few (name_in n))
      (then_keeps c (Few (name_in n)) name_as_column_keeps (many_keeps c (then_keeps c (Few (name_in n)) (word_keeps n d names_later) name_as_column_keeps)))
      (word_keeps n d names_later)))
      (give_keeps c (λ k xs room known. known))

  insert_table_keeps : Keeps c Free insert_table (InsertSoFar n)
  unfolding insert_table
  insert_table_keeps =
      then_keeps c Free (free_keeps c)
      (take_keeps c (λ k u p room among good known.
      record { table = good.0; columns = few_none (name_in n) (k + 1); values = few_none (name_in n) (k + 1); rows = omega arith }))

  -- row = "(" expr { "," expr } ")"
  row_keeps : Keeps c (InsertSoFar n) printed.row (InsertKnown n)
  unfolding printed.row
  row_keeps =
      then_keeps c (InsertSoFar n) (word_keeps n d (insert_later n))
      (then_keeps c (InsertSoFar n)
      (part_keeps c (Loose n) (Loose n) (exprs_keeps n d nested) (λ k p known. known.values)
      (λ k j p found before room known new.
      let later = insert_later n k j p before known in
      record { table = later.table; columns = later.columns; values = new; rows = later.rows }))
      (take_keeps c (λ k p q room among good known.
      let later = insert_later n k (k + 1) p (omega arith) known in
      (record { table = later.table; columns = later.columns; values = later.values; rows = omega (arith, known.rows) }, le-leb 1 (p.rows + 1) (omega arith)))))

  insert_full_later : (k j : ℕ) (p : InsertParts) → k ≤ j → InsertKnown n k p → InsertKnown n j p
  insert_full_later k j p room known = (insert_later n k j p room known.0, known.1)

  insert_rest_keeps : Keeps c Free printed.insert_rest (InsertKnown n)
  unfolding printed.insert_rest
  insert_rest_keeps =
      then_keeps c (InsertSoFar n) insert_table_keeps
      (then_keeps c (InsertSoFar n)
      (part_keeps c (Few (name_in n)) (Few (name_in n)) insert_columns_keeps (λ k p known. known.columns)
      (λ k j p all before room known new.
      let later = insert_later n k j p before known in
      record { table = later.table; columns = new; values = later.values; rows = later.rows }))
      (then_keeps c (InsertSoFar n) (word_keeps n d (insert_later n))
      (commas_keeps n d insert_full_later row_keeps (known_keeps c (λ k p known. known.0) (λ k p known. known) row_keeps))))

  -- name "=" expr
  assignment_keeps : Keeps c (UpdateKnown n) printed.assignment (UpdateKnown n)
  unfolding printed.assignment set_column
  assignment_keeps =
      then_keeps c (UpdateKnown n)
      (then_keeps c (UpdateKnown n)
      (part_keeps c (Few (name_in n)) (Few (name_in n)) name_as_column_keeps (λ k p known. known.columns)
      (λ k j p all before room known new.
      let later = update_later n k j p before known in
      record { source = later.source; columns = new; values = later.values; conditions = later.conditions }))
      (word_keeps n d (update_later n)))
      (part_keeps c (Loose n) (Loose n) (loose_expr n d nested) (λ k p known. known.values)
      (λ k j p found before room known new.
      let later = update_later n k j p before known in
      record { source = later.source; columns = later.columns; values = new; conditions = later.conditions }))

  update_rest_keeps : Keeps c Free printed.update_rest (UpdateKnown n)
  unfolding printed.update_rest
  update_rest_keeps =
      then_keeps c (UpdateKnown n)
      (use_keeps c Free (Passes (source_in n)) (source_keeps n d) (λ k u known. tt)
      (λ k i u x room known new.
      record { source = new.1; columns = few_none (name_in n) (k + i); values = few_none (name_in n) (k + i); conditions = few_none (condition_in n) (k + i) }))
      (then_keeps c (UpdateKnown n) (word_keeps n d (update_later n))
      (then_keeps c (UpdateKnown n) (commas_keeps n d (update_later n) assignment_keeps assignment_keeps)
      (part_keeps c (Few (condition_in n)) (Few (condition_in n)) (where_keeps n d nested) (λ k p known. known.conditions)
      (λ k j p all before room known new.
      let later = update_later n k j p before known in
      record { source = later.source; columns = later.columns; values = later.values; conditions = new }))))

  delete_rest_keeps : Keeps c Free printed.delete_rest (λ k body. body_in n body ≡ true)
  unfolding printed.delete_rest
  delete_rest_keeps =
      then_keeps c Free (free_keeps c)
      (then_keeps c (Passes (source_in n)) (source_keeps n d)
      (use_keeps c (Few (condition_in n)) (Few (condition_in n)) (where_keeps n d nested) (λ k x known. few_none (condition_in n) 0)
      (λ k i x all room known new. and_from (source_in n x) (conditions_in n all) known.1 (few_in (condition_in n) i all (omega (arith, room)) new))))

  -- workloads

  first_keeps : {kind : TerminalKind} → Keeps c (StatementsKnown n) (Take (kind ∷ []) beside) (NextKnown n)
  first_keeps = take_keeps c (λ k progress p room among good known. (known, good.1))

  statement_keeps : Keeps c (StatementsKnown n) printed.statement (StatementsKnown n)
  unfolding printed.statement printed.select printed.insert printed.update printed.delete
  statement_keeps =
      either_keeps c
      (then_keeps c (NextKnown n) first_keeps
      (use_keeps c Free (SelectKnown n) select_rest_keeps (λ k s known. tt)
      (λ k i s select room known new. one_more n k (k + i) s (bodies.Select select) known (select_body n i select (omega (arith, room)) new))))
      (either_keeps c
      (then_keeps c (NextKnown n) first_keeps
      (use_keeps c Free (InsertKnown n) insert_rest_keeps (λ k s known. tt)
      (λ k i s parts room known new. one_more n k (k + i) s (insert_body parts) known (insert_known n i parts (omega (arith, room)) new))))
      (either_keeps c
      (then_keeps c (NextKnown n) first_keeps
      (use_keeps c Free (UpdateKnown n) update_rest_keeps (λ k s known. tt)
      (λ k i s parts room known new. one_more n k (k + i) s (update_body parts) known (update_known n i parts (omega (arith, room)) new))))
      (then_keeps c (NextKnown n) first_keeps
      (use_keeps c Free (λ k body. body_in n body ≡ true) delete_rest_keeps (λ k s known. tt)
      (λ k i s body room known new. one_more n k (k + i) s body known new)))))

  -- workload = [statement] { ";" [statement] }
  pub workload_keeps : Keeps c (StatementsKnown n) printed.workload (StatementsKnown n)
  unfolding printed.workload
  workload_keeps =
      then_keeps c (StatementsKnown n) (maybe_keeps n d statement_keeps)
      (many_keeps c (then_keeps c (StatementsKnown n) (word_keeps n d (λ k j progress room known. known)) (maybe_keeps n d statement_keeps)))

-- nested forms, level by level

none_nested : (n : ℕ) → NestedKeep n (IsNested printed.grammar zero)
unfolding IsNested
none_nested n = record {
  conditions = record { keeps = λ k j a ps b e room good known is. absurd is };
  parenthesis = λ before. record { keeps = λ k j a ps b e room good known is. absurd is };
  call = λ before. record { keeps = λ k j a ps b e room good known is. absurd is };
  signed_operand = λ before. record { keeps = λ k j a ps b e room good known is. absurd is };
}

next_nested : (n m : ℕ) → NestedKeep n (IsNested printed.grammar m) → NestedKeep n (IsNested printed.grammar (suc m))
unfolding IsNested printed.grammar
next_nested n m nested =
    let d = IsNested printed.grammar m in
    record {
      conditions = record { keeps = λ k j a ps b e room good known is. (nested_conds_keeps n d nested).keeps k j a ps b e room good known is };
      parenthesis = λ before. record { keeps = λ k j a ps b e room good known is. (parenthesis_keeps n d nested before).keeps k j a ps b e room good known is };
      call = λ before. record { keeps = λ k j a ps b e room good known is. (call_keeps n d nested before).keeps k j a ps b e room good known is };
      signed_operand = λ before. record { keeps = λ k j a ps b e room good known is. (signed_keeps n d nested before).keeps k j a ps b e room good known is };
    }

pub all_nested : (n m : ℕ) → NestedKeep n (IsNested printed.grammar m)
all_nested n zero = none_nested n
all_nested n (suc m) = next_nested n m (all_nested n m)
