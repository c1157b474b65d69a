-- The grammar means what it means as it is printed.
use Rattle.std.proofs.Common.{◌≡◌, ℕ, zero, suc, true, List, refl, ap, ◌∙◌, inl, inr}
use Rattle.sql_reader.specs.declared.kind.TerminalKind.TheVariants as kinds
use Rattle.sql_reader.specs.declared.terminal.Terminal.{Terminal}
use Rattle.sql_reader.specs.declared.seen.Seen.{Seen}
use Rattle.sql_reader.specs.declared.parsed.Body.{Body}
use Rattle.sql_reader.specs.declared.parsed.Body.TheVariants as bodies
use Rattle.sql_reader.specs.declared.parts.Progress.{Progress}
use Rattle.sql_reader.specs.Values.{insert_body, update_body, with_source, with_statement}
use Rattle.sql_reader.specs.Rule.{Nesting, State, Rule, Then, Use, Meaning, IsOver, IsNested}
use Rattle.sql_reader.specs.Grammar.{grammar, after_name, column, star_argument, maybe_distinct, listed_arguments, arguments, call, parenthesis, signed_operand, one_item, another_item, more_items, item_list, quantifier, one_source, join_word, on_part, joined_source, another_source, more_sources, source_list, where_part, one_column, another_column, more_columns, column_list, group_part, having_test, another_having_test, more_having_tests, having_tests, having_part, direction, order_value, one_order, another_order, more_orders, order_list, order_part, offset_part, limit_part, from_part, select_head, group_and_having, order_and_limit, select_tail, select_rest, name_as_column, another_name, more_names, name_list, insert_columns, row_values, row, another_row, more_rows, rows, insert_table, insert_rest, set_column, assignment, another_assignment, more_assignments, assignments, update_source, update_rest, delete_conditions, delete_rest, select, insert, update, select_statement, insert_statement, update_statement, delete_statement, statement, maybe_statement, another_statement, more_statements, workload}
use Rattle.sql_reader.specs.Printed as printed
use Rattle.sql_reader.specs.Printed.{MeanTheSame, IsAsPrinted}
use Rattle.sql_reader.proofs.Alike.{Same, flat, flat_same, give_same, take_same, then_same, use_same, either_same, many_same}
use Rattle.sql_reader.proofs.PrintedOperands.{Linked, source_same, value_same, prim_same, expr_same, exprs_same}
use Rattle.sql_reader.proofs.PrintedConditions.{cond_same, conds_same, nested_same, where_same}
use Rattle.sql_reader.proofs.PrintedItems.{item_same}

-- rules that are printed as they are read have no nested forms

flat_quantifier : flat quantifier ≡ true
unfolding quantifier
flat_quantifier = refl

flat_group_part : flat group_part ≡ true
unfolding group_part column_list one_column more_columns another_column column after_name
flat_group_part = refl

flat_direction : flat direction ≡ true
unfolding direction
flat_direction = refl

flat_limit_part : flat limit_part ≡ true
unfolding limit_part offset_part
flat_limit_part = refl

flat_insert_table : flat insert_table ≡ true
unfolding insert_table
flat_insert_table = refl

flat_insert_columns : flat insert_columns ≡ true
unfolding insert_columns name_list name_as_column more_names another_name
flat_insert_columns = refl

flat_set_column : flat set_column ≡ true
unfolding set_column name_as_column
flat_set_column = refl

module _ (d e : (x : Nesting) → Meaning (State x) (State x)) (linked : Linked d e) where
  -- the nested forms

  -- [DISTINCT] expr { "," expr } ")"
  listed_same : Same d e listed_arguments (Then (printed.maybe (printed.word kinds.Distinct)) (Then (printed.commas printed.expr) printed.closed))
  unfolding listed_arguments maybe_distinct printed.closed
  listed_same = then_same d e (either_same d e _ _ (take_same d e _ _) (give_same d e _)) (then_same d e (exprs_same d e linked) (take_same d e _ _))

  call_there : (a : Seen) (ps : List Terminal) (b : Seen) → IsOver d (Then printed.call_name call) a ps b → IsOver e printed.call a ps b
  unfolding call arguments star_argument printed.call printed.call_name printed.closed
  call_there a ps b (front, back, m, split, name, (front2, back2, m2, split2, open_sign, inl h)) = inl (front, back, m, split, name, (front2, back2, m2, split2, open_sign, h))
  call_there a ps b (front, back, m, split, name, (front2, back2, m2, split2, open_sign, inr (inl h))) = inr (inl (front, back, m, split, name, (front2, back2, m2, split2, open_sign, h)))
  call_there a ps b (front, back, m, split, name, (front2, back2, m2, split2, open_sign, inr (inr h))) = inr (inr (front, back, m, split, name, (front2, back2, m2, split2, open_sign, listed_same.there m2 back2 b h)))

  call_back : (a : Seen) (ps : List Terminal) (b : Seen) → IsOver e printed.call a ps b → IsOver d (Then printed.call_name call) a ps b
  unfolding call arguments star_argument printed.call printed.call_name printed.closed
  call_back a ps b (inl (front, back, m, split, name, (front2, back2, m2, split2, open_sign, h))) = (front, back, m, split, name, (front2, back2, m2, split2, open_sign, inl h))
  call_back a ps b (inr (inl (front, back, m, split, name, (front2, back2, m2, split2, open_sign, h)))) = (front, back, m, split, name, (front2, back2, m2, split2, open_sign, inr (inl h)))
  call_back a ps b (inr (inr (front, back, m, split, name, (front2, back2, m2, split2, open_sign, h)))) = (front, back, m, split, name, (front2, back2, m2, split2, open_sign, inr (inr (listed_same.back m2 back2 b h))))

  -- call = name "(" ")" | name "(" "*" ")" | name "(" [DISTINCT] expr { "," expr } ")"
  call_same : Same d e (Then printed.call_name call) printed.call
  call_same = record { there = call_there; back = call_back }

  -- "(" expr ")"
  parenthesis_same : Same d e parenthesis printed.parenthesis
  unfolding parenthesis printed.parenthesis printed.closed
  parenthesis_same = then_same d e (take_same d e _ _) (then_same d e (expr_same d e linked) (take_same d e _ _))

  -- ("+" | "-") prim
  signed_same : Same d e signed_operand printed.signed_prim
  unfolding signed_operand printed.signed_prim
  signed_same = then_same d e (take_same d e _ _) (then_same d e (prim_same d e linked) (give_same d e _))

  -- SELECT

  items_same : Same d e item_list (printed.commas (printed.behind printed.item))
  unfolding item_list one_item more_items another_item
  items_same =
      then_same d e (use_same d e _ _ (item_same d e linked))
      (many_same d e _ _ (then_same d e (take_same d e _ _) (use_same d e _ _ (item_same d e linked))))

  one_source_same : Same d e one_source (printed.also printed.source with_source)
  unfolding one_source
  one_source_same = use_same d e _ _ (source_same d e)

  -- source { "," source | [INNER] JOIN source ON conds }
  sources_same : Same d e source_list printed.sources
  unfolding source_list more_sources another_source joined_source join_word on_part printed.sources
  sources_same =
      then_same d e one_source_same
      (many_same d e _ _ (either_same d e _ _ (then_same d e (take_same d e _ _) one_source_same)
      (then_same d e (then_same d e (either_same d e _ _ (take_same d e _ _) (give_same d e _)) (take_same d e _ _))
      (then_same d e one_source_same (then_same d e (take_same d e _ _) (use_same d e _ _ (conds_same d e linked)))))))

  -- test = expr compare expr
  test_same : Same d e having_test printed.test
  unfolding having_test printed.test
  test_same = then_same d e (expr_same d e linked) (then_same d e (take_same d e _ _) (expr_same d e linked))

  -- [HAVING test { AND test }]
  having_same : Same d e having_part printed.having
  unfolding having_part having_tests more_having_tests another_having_test printed.having
  having_same =
      either_same d e _ _ (then_same d e (take_same d e _ _) (use_same d e _ _
      (then_same d e test_same (many_same d e _ _ (then_same d e (take_same d e _ _) test_same))))) (give_same d e _)

  -- order = expr [ASC | DESC]
  order_same : Same d e order_value printed.order
  unfolding order_value printed.order
  order_same = then_same d e (give_same d e _) (then_same d e (expr_same d e linked) (flat_same d e direction flat_direction))

  -- [ORDER BY order { "," order }]
  orders_same : Same d e order_part printed.orders
  unfolding order_part order_list one_order more_orders another_order printed.orders
  orders_same =
      either_same d e _ _ (then_same d e (take_same d e _ _) (then_same d e (take_same d e _ _) (use_same d e _ _
      (then_same d e (use_same d e _ _ order_same) (many_same d e _ _ (then_same d e (take_same d e _ _) (use_same d e _ _ order_same))))))) (give_same d e _)

  select_rest_same : Same d e select_rest printed.select_rest
  unfolding select_rest select_head from_part select_tail where_part group_and_having order_and_limit printed.select_rest
  select_rest_same =
      then_same d e (give_same d e _)
      (then_same d e (then_same d e (flat_same d e quantifier flat_quantifier) (then_same d e (use_same d e _ _ items_same) (then_same d e (take_same d e _ _) sources_same)))
      (then_same d e (use_same d e _ _ (where_same d e linked))
      (then_same d e (then_same d e (flat_same d e group_part flat_group_part) having_same)
      (then_same d e orders_same (use_same d e _ _ (flat_same d e limit_part flat_limit_part))))))

  -- the other statements

  -- row = "(" expr { "," expr } ")"
  row_same : Same d e row printed.row
  unfolding row row_values printed.row
  row_same = then_same d e (take_same d e _ _) (then_same d e (use_same d e _ _ (exprs_same d e linked)) (take_same d e _ _))

  insert_rest_same : Same d e insert_rest printed.insert_rest
  unfolding insert_rest rows more_rows another_row printed.insert_rest
  insert_rest_same =
      then_same d e (flat_same d e insert_table flat_insert_table)
      (then_same d e (use_same d e _ _ (flat_same d e insert_columns flat_insert_columns))
      (then_same d e (take_same d e _ _) (then_same d e row_same (many_same d e _ _ (then_same d e (take_same d e _ _) row_same)))))

  assignment_same : Same d e assignment printed.assignment
  unfolding assignment printed.assignment
  assignment_same = then_same d e (flat_same d e set_column flat_set_column) (use_same d e _ _ (expr_same d e linked))

  update_rest_same : Same d e update_rest printed.update_rest
  unfolding update_rest update_source assignments more_assignments another_assignment printed.update_rest
  update_rest_same =
      then_same d e (use_same d e _ _ (source_same d e))
      (then_same d e (take_same d e _ _)
      (then_same d e (then_same d e assignment_same (many_same d e _ _ (then_same d e (take_same d e _ _) assignment_same)))
      (use_same d e _ _ (where_same d e linked))))

  delete_rest_same : Same d e delete_rest printed.delete_rest
  unfolding delete_rest delete_conditions printed.delete_rest
  delete_rest_same = then_same d e (take_same d e _ _) (then_same d e (source_same d e) (use_same d e _ _ (where_same d e linked)))

  -- what follows a statement's first terminal, as its body
  module _ {X : Type 0} (r s : Rule (Unit {0}) X) (body : X → Body) (same : Same d e r s) where
    body_there : (a : Progress × Terminal) (ps : List Terminal) (b : Progress) →
        IsOver d (Use (λ _. tt) (Use (λ u. u) r (λ _ x. body x)) (λ s y. with_statement s.0 s.1 y)) a ps b → IsOver e (Use (λ _. tt) s (λ s x. with_statement s.0 s.1 (body x))) a ps b
    body_there a ps b (m, (x, h, em), eb) = (x, same.there (tt {0}) ps x h, eb ∙ ap (with_statement a.0 a.1) em)

    body_back : (a : Progress × Terminal) (ps : List Terminal) (b : Progress) →
        IsOver e (Use (λ _. tt) s (λ s x. with_statement s.0 s.1 (body x))) a ps b → IsOver d (Use (λ _. tt) (Use (λ u. u) r (λ _ x. body x)) (λ s y. with_statement s.0 s.1 y)) a ps b
    body_back a ps b (x, h, eb) = (body x, (x, same.back (tt {0}) ps x h, refl), eb)

    body_same : Same d e (Use (λ _. tt) (Use (λ u. u) r (λ _ x. body x)) (λ (s : Progress × Terminal) y. with_statement s.0 s.1 y)) (Use (λ _. tt) s (λ s x. with_statement s.0 s.1 (body x)))
    body_same = record { there = body_there; back = body_back }

  select_same : Same d e select_statement printed.select
  unfolding select_statement select printed.select
  select_same = then_same d e (take_same d e _ _) (body_same select_rest printed.select_rest bodies.Select select_rest_same)

  insert_same : Same d e insert_statement printed.insert
  unfolding insert_statement insert printed.insert
  insert_same = then_same d e (take_same d e _ _) (body_same insert_rest printed.insert_rest insert_body insert_rest_same)

  update_same : Same d e update_statement printed.update
  unfolding update_statement update printed.update
  update_same = then_same d e (take_same d e _ _) (body_same update_rest printed.update_rest update_body update_rest_same)

  delete_same : Same d e delete_statement printed.delete
  unfolding delete_statement printed.delete
  delete_same = then_same d e (take_same d e _ _) (use_same d e _ _ delete_rest_same)

  -- statement = select | insert | update | delete
  statement_same : Same d e statement printed.statement
  unfolding statement printed.statement
  statement_same = either_same d e _ _ select_same (either_same d e _ _ insert_same (either_same d e _ _ update_same delete_same))

  -- [statement]
  maybe_same : Same d e maybe_statement (printed.maybe printed.statement)
  unfolding maybe_statement
  maybe_same = either_same d e _ _ statement_same (give_same d e _)

  -- workload = [statement] { ";" [statement] }
  workload_same : Same d e workload printed.workload
  unfolding workload more_statements another_statement printed.workload
  workload_same = then_same d e maybe_same (many_same d e _ _ (then_same d e (take_same d e _ _) maybe_same))

-- where no level nests, nothing is a nested form
none_linked : Linked (IsNested grammar zero) (IsNested printed.grammar zero)
unfolding IsNested
none_linked = record {
  conditions = record { there = λ a ps b h. h; back = λ a ps b h. h };
  parentheses = record { there = λ a ps b h. h; back = λ a ps b h. h };
  calls = record { there = λ a ps b h. h.5; back = λ a ps b h. absurd h };
  signed = record { there = λ a ps b h. h; back = λ a ps b h. h };
}

next_linked : (n : ℕ) → Linked (IsNested grammar n) (IsNested printed.grammar n) → Linked (IsNested grammar (suc n)) (IsNested printed.grammar (suc n))
unfolding IsNested grammar printed.grammar printed.call_name
next_linked n linked =
    let nested = nested_same (IsNested grammar n) (IsNested printed.grammar n) linked in
    let parentheses = parenthesis_same (IsNested grammar n) (IsNested printed.grammar n) linked in
    let calls = call_same (IsNested grammar n) (IsNested printed.grammar n) linked in
    let signed = signed_same (IsNested grammar n) (IsNested printed.grammar n) linked in
    record {
      conditions = record { there = nested.there; back = nested.back };
      parentheses = record { there = parentheses.there; back = parentheses.back };
      calls = record { there = calls.there; back = calls.back };
      signed = record { there = signed.there; back = signed.back };
    }

all_linked : (n : ℕ) → Linked (IsNested grammar n) (IsNested printed.grammar n)
all_linked zero = none_linked
all_linked (suc n) = next_linked n (all_linked n)

-- rules that are the same at each level mean the same
from_same : {A B : Type 0} {r s : Rule A B} → ((n : ℕ) → Linked (IsNested grammar n) (IsNested printed.grammar n) → Same (IsNested grammar n) (IsNested printed.grammar n) r s) →
    MeanTheSame r s
from_same same n start terminals end =
    ((same n (all_linked n)).there start terminals end, (same n (all_linked n)).back start terminals end)

-- each production means the same in both forms
pub is_as_printed : IsAsPrinted
is_as_printed = record {
  workload_rule = from_same (λ n linked. workload_same (IsNested grammar n) (IsNested printed.grammar n) linked);
  statement_rule = from_same (λ n linked. statement_same (IsNested grammar n) (IsNested printed.grammar n) linked);
  select_rule = from_same (λ n linked. select_same (IsNested grammar n) (IsNested printed.grammar n) linked);
  item_rule = from_same (λ n linked. item_same (IsNested grammar n) (IsNested printed.grammar n) linked);
  source_rule = from_same (λ n linked. source_same (IsNested grammar n) (IsNested printed.grammar n));
  conds_rule = from_same (λ n linked. conds_same (IsNested grammar n) (IsNested printed.grammar n) linked);
  cond_rule = from_same (λ n linked. cond_same (IsNested grammar n) (IsNested printed.grammar n) linked);
  test_rule = from_same (λ n linked. test_same (IsNested grammar n) (IsNested printed.grammar n) linked);
  order_rule = from_same (λ n linked. order_same (IsNested grammar n) (IsNested printed.grammar n) linked);
  insert_rule = from_same (λ n linked. insert_same (IsNested grammar n) (IsNested printed.grammar n) linked);
  row_rule = from_same (λ n linked. row_same (IsNested grammar n) (IsNested printed.grammar n) linked);
  update_rule = from_same (λ n linked. update_same (IsNested grammar n) (IsNested printed.grammar n) linked);
  delete_rule = from_same (λ n linked. delete_same (IsNested grammar n) (IsNested printed.grammar n) linked);
  expr_rule = from_same (λ n linked. expr_same (IsNested grammar n) (IsNested printed.grammar n) linked);
  prim_rule = from_same (λ n linked. prim_same (IsNested grammar n) (IsNested printed.grammar n) linked);
  call_rule = from_same (λ n linked. call_same (IsNested grammar n) (IsNested printed.grammar n) linked);
  value_rule = from_same (λ n linked. value_same (IsNested grammar n) (IsNested printed.grammar n));
}
