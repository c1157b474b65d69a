-- The grammar passes the test: one look ahead reads it.
use Rattle.std.proofs.Common.{◌≡◌, true, refl}
use Rattle.sql_reader.specs.Rule.{Conditions, Parenthesis, Call, Signed, good, closes}
use Rattle.sql_reader.specs.Exact.{IsGood}
use Rattle.sql_reader.specs.Grammar.{grammar, borders, after_name, column, alias, source, plain_value, value, called_name, after_operand_name, after_operand_date, other_operand, operand, operation, operations, expression, another_expression, more_expressions, expressions, star_argument, maybe_distinct, listed_arguments, arguments, call, parenthesis, signed_operand, turned_test, tied_test, after_equal_date, equal_test, unequal_test, between_test, in_value, more_in_values, in_values, in_test, like_test, null_test, column_test, after_test_name, after_test_date, plain_condition, condition, and_condition, more_conditions, conditions, nested_conditions, where_conditions, rest_of_item, after_item_point, after_item_name, after_item_date, literal_item, item_value, one_item, another_item, more_items, item_list, quantifier, one_source, join_word, on_part, joined_source, another_source, more_sources, source_list, where_part, one_column, another_column, more_columns, column_list, group_part, having_test, another_having_test, more_having_tests, having_tests, having_part, direction, order_value, one_order, another_order, more_orders, order_list, order_part, offset_part, limit_part, from_part, select_head, group_and_having, order_and_limit, select_tail, select_rest, name_as_column, another_name, more_names, name_list, insert_columns, row_values, row, another_row, more_rows, rows, insert_table, insert_rest, set_column, assignment, another_assignment, more_assignments, assignments, update_source, update_rest, delete_conditions, delete_rest, select, insert, update, select_statement, insert_statement, update_statement, delete_statement, statement, maybe_statement, another_statement, more_statements, workload}

pub good_workload : good borders workload ≡ true
unfolding grammar after_name column alias source plain_value value called_name after_operand_name after_operand_date other_operand operand operation operations expression another_expression more_expressions expressions star_argument maybe_distinct listed_arguments arguments call parenthesis signed_operand turned_test tied_test after_equal_date equal_test unequal_test between_test in_value more_in_values in_values in_test like_test null_test column_test after_test_name after_test_date plain_condition condition and_condition more_conditions conditions nested_conditions where_conditions rest_of_item after_item_point after_item_name after_item_date literal_item item_value one_item another_item more_items item_list quantifier one_source join_word on_part joined_source another_source more_sources source_list where_part one_column another_column more_columns column_list group_part having_test another_having_test more_having_tests having_tests having_part direction order_value one_order another_order more_orders order_list order_part offset_part limit_part from_part select_head group_and_having order_and_limit select_tail select_rest name_as_column another_name more_names name_list insert_columns row_values row another_row more_rows rows insert_table insert_rest set_column assignment another_assignment more_assignments assignments update_source update_rest delete_conditions delete_rest select insert update select_statement insert_statement update_statement delete_statement statement maybe_statement another_statement more_statements workload
good_workload = refl

pub closes_workload : closes workload ≡ true
unfolding grammar after_name column alias source plain_value value called_name after_operand_name after_operand_date other_operand operand operation operations expression another_expression more_expressions expressions star_argument maybe_distinct listed_arguments arguments call parenthesis signed_operand turned_test tied_test after_equal_date equal_test unequal_test between_test in_value more_in_values in_values in_test like_test null_test column_test after_test_name after_test_date plain_condition condition and_condition more_conditions conditions nested_conditions where_conditions rest_of_item after_item_point after_item_name after_item_date literal_item item_value one_item another_item more_items item_list quantifier one_source join_word on_part joined_source another_source more_sources source_list where_part one_column another_column more_columns column_list group_part having_test another_having_test more_having_tests having_tests having_part direction order_value one_order another_order more_orders order_list order_part offset_part limit_part from_part select_head group_and_having order_and_limit select_tail select_rest name_as_column another_name more_names name_list insert_columns row_values row another_row more_rows rows insert_table insert_rest set_column assignment another_assignment more_assignments assignments update_source update_rest delete_conditions delete_rest select insert update select_statement insert_statement update_statement delete_statement statement maybe_statement another_statement more_statements workload
closes_workload = refl

pub good_grammar : IsGood borders grammar
unfolding grammar after_name column alias source plain_value value called_name after_operand_name after_operand_date other_operand operand operation operations expression another_expression more_expressions expressions star_argument maybe_distinct listed_arguments arguments call parenthesis signed_operand turned_test tied_test after_equal_date equal_test unequal_test between_test in_value more_in_values in_values in_test like_test null_test column_test after_test_name after_test_date plain_condition condition and_condition more_conditions conditions nested_conditions where_conditions rest_of_item after_item_point after_item_name after_item_date literal_item item_value one_item another_item more_items item_list quantifier one_source join_word on_part joined_source another_source more_sources source_list where_part one_column another_column more_columns column_list group_part having_test another_having_test more_having_tests having_tests having_part direction order_value one_order another_order more_orders order_list order_part offset_part limit_part from_part select_head group_and_having order_and_limit select_tail select_rest name_as_column another_name more_names name_list insert_columns row_values row another_row more_rows rows insert_table insert_rest set_column assignment another_assignment more_assignments assignments update_source update_rest delete_conditions delete_rest select insert update select_statement insert_statement update_statement delete_statement statement maybe_statement another_statement more_statements workload
good_grammar Conditions = refl
good_grammar Parenthesis = refl
good_grammar Call = refl
good_grammar Signed = refl
