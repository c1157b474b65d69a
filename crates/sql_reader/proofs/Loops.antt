-- Each repetition of the grammar, turn by turn.
use Rattle.std.proofs.Common.{◌≡◌, ℕ, zero, suc, ◌<◌, ◌≤◌, Bool, true, false, List, [], ◌∷◌, ◌++◌, length, sym, refl, ap, ◌∙◌, subst, arith, length-append, le_refl, if◌then◌else◌}
use Rattle.sql_reader.specs.declared.kind.TerminalKind.{TerminalKind}
use Rattle.sql_reader.specs.declared.kind.TerminalKind.TheVariants as kinds
use Rattle.sql_reader.specs.declared.terminal.Terminal.{Terminal}
use Rattle.sql_reader.specs.Rule.{Rule, Many, Reading, Read, Stuck, ◌>>=◌, begins, Reader, repeated, IsNested, read_nested, may_be_empty, good, IsOver}
use Rattle.sql_reader.specs.declared.cursor.Unread.{Unread}
use Rattle.sql_reader.specs.declared.cursor.Unread.TheVariants.{Memory, Here}
use Rattle.sql_reader.specs.inner.Reads.{StopsAt}
use Rattle.sql_reader.specs.Exact.{reads}
use Rattle.sql_reader.specs.Grammar.{grammar, borders, operators, after_name, column, alias, source, plain_value, value, called_name, after_operand_name, after_operand_date, other_operand, operand, operation, operations, expression, another_expression, more_expressions, expressions, turned_test, tied_test, after_equal_date, equal_test, unequal_test, between_test, in_value, more_in_values, in_values, in_test, like_test, null_test, column_test, after_test_name, after_test_date, plain_condition, condition, and_condition, more_conditions, conditions, where_conditions, rest_of_item, after_item_point, after_item_name, after_item_date, literal_item, item_value, one_item, another_item, more_items, item_list, quantifier, one_source, join_word, on_part, joined_source, another_source, more_sources, source_list, where_part, one_column, another_column, more_columns, column_list, group_part, having_test, another_having_test, more_having_tests, having_tests, having_part, direction, order_value, one_order, another_order, more_orders, order_list, order_part, offset_part, limit_part, from_part, select_head, group_and_having, order_and_limit, select_tail, select_rest, name_as_column, another_name, more_names, name_list, insert_columns, row_values, row, another_row, more_rows, rows, insert_table, insert_rest, set_column, assignment, another_assignment, more_assignments, assignments, update_source, update_rest, delete_conditions, delete_rest, select, insert, update, select_statement, insert_statement, update_statement, delete_statement, statement, maybe_statement, another_statement}
use Rattle.sql_reader.proofs.KindSets.{not_both}
use Rattle.sql_reader.proofs.Theory.{Explains, right, empty_only, repeated_ends}
use Rattle.sql_reader.proofs.Exactly.{levels_sensible}
use Rattle.sql_reader.proofs.Good.{good_grammar}

-- where reading stops, it stops before what would stand behind
stops_behind : {A B : Type 0} (stop : Unread) (rest : List Terminal) (x : Reading A) (f : Reader A B) → StopsAt stop x rest → StopsAt stop (x >>= f) rest
stops_behind Memory rest x f h = tt
stops_behind {A} {B} Here rest x f h = ap (λ (y : Reading A). y >>= f) h

-- what a rule reads that reads something leaves less
pub takes_some : {A B : Type 0} (rule : Rule A B) → good borders rule ≡ true → may_be_empty rule ≡ false → (n : ℕ) (a : A) (ps : List Terminal) (b : B) (rest : List Terminal) →
    reads grammar n rule a ps ≡ Read b rest → length rest < length ps
takes_some {A} {B} rule g full n a ps b rest e =
    let s = levels_sensible borders grammar good_grammar n in
    let meant : Explains (IsOver (IsNested grammar n) rule) a ps (Read b rest) =
    subst (λ (x : Reading B). Explains (IsOver (IsNested grammar n) rule) a ps x) e (right borders (IsNested grammar n) (read_nested grammar n) s rule g a ps) in
    less meant.0 meant.1 meant.2
  where
    less : (front : List Terminal) → ps ≡ front ++ rest → IsOver (IsNested grammar n) rule a front b → length rest < length ps
    less [] e h = not_both (may_be_empty rule) (empty_only borders (IsNested grammar n) (read_nested grammar n) (levels_sensible borders grammar good_grammar n) rule a b h) full
    less (p ∷ front) e h = omega (arith, ap length e, length-append front rest)

-- two ways to go on that agree behind a reading
same_behind : {A B : Type 0} (x : Reading A) (f g : Reader A B) → ((m : A) (rest : List Terminal) → x ≡ Read m rest → f m rest ≡ g m rest) → (x >>= f) ≡ (x >>= g)
same_behind (Stuck rest) f g h = refl
same_behind (Read m rest) f g h = h m rest refl

-- turns that take something end, however many may be taken
same_turns : {A : Type 0} (kinds : List TerminalKind) (turn : Reader A A) → ((a : A) (ps : List Terminal) (m : A) (rest : List Terminal) → turn a ps ≡ Read m rest → length rest < length ps) →
    (n n2 : ℕ) (a : A) (ps : List Terminal) → length ps ≤ n → length ps ≤ n2 → repeated n kinds turn a ps ≡ repeated n2 kinds turn a ps
same_turns kinds turn less zero n2 a [] room room2 = sym (repeated_ends n2 kinds turn a [] refl)
same_turns kinds turn less zero n2 a (p ∷ ps) room room2 = absurd (omega arith)
same_turns kinds turn less (suc n) zero a [] room room2 = refl
same_turns kinds turn less (suc n) zero a (p ∷ ps) room room2 = absurd (omega arith)
same_turns {A} kinds turn less (suc n) (suc n2) a ps room room2 =
    ap (λ (x : Reading A). if begins kinds ps then x else Read a ps)
    (same_behind (turn a ps) (repeated n kinds turn) (repeated n2 kinds turn)
    (λ m rest e. let l = less a ps m rest e in same_turns kinds turn less n n2 m rest (omega arith) (omega arith)))

-- What one turn of a repetition is, where these kinds begin one: one look ahead reads it, and it is never empty.
pub record IsTurn {A : Type 0} (kinds : List TerminalKind) (rule : Rule A A) : Type 0 where
  pub one_look : good borders rule ≡ true
  pub some : may_be_empty rule ≡ false

-- one turn, and those behind it
pub many_goes : {A : Type 0} (kinds : List TerminalKind) (rule : Rule A A) → good borders rule ≡ true → may_be_empty rule ≡ false → (n : ℕ) (a : A) (ps : List Terminal) → begins kinds ps ≡ true →
    reads grammar n (Many kinds rule) a ps ≡ (reads grammar n rule a ps >>= reads grammar n (Many kinds rule))
many_goes kinds rule g full n a [] k = absurd cc
many_goes {A} kinds rule g full n a (p ∷ ps) k =
    ap (λ (c : Bool). if c then (reads grammar n rule a (p ∷ ps) >>= repeated (length ps) kinds (reads grammar n rule)) else Read a (p ∷ ps)) k ∙ same_more (reads grammar n rule a (p ∷ ps)) refl
  where
    same_more : (x : Reading A) → reads grammar n rule a (p ∷ ps) ≡ x → (x >>= repeated (length ps) kinds (reads grammar n rule)) ≡ (x >>= reads grammar n (Many kinds rule))
    same_more (Stuck rest) e = refl
    same_more (Read m rest) e =
        let l = takes_some rule g full n a (p ∷ ps) m rest e in
        same_turns kinds (reads grammar n rule) (takes_some rule g full n) (length ps) (length rest) m rest (omega arith) (le_refl (length rest))

module _ {A : Type 0} {kinds : List TerminalKind} {rule : Rule A A} (turn : IsTurn kinds rule) (n : ℕ) where
  -- a turn leaves less
  pub takes : (a : A) (ps : List Terminal) (b : A) (rest : List Terminal) → reads grammar n rule a ps ≡ Read b rest → length rest < length ps
  takes a ps b rest e = takes_some rule turn.one_look turn.some n a ps b rest e

  goes : (a : A) (ps : List Terminal) → begins kinds ps ≡ true → reads grammar n (Many kinds rule) a ps ≡ (reads grammar n rule a ps >>= reads grammar n (Many kinds rule))
  goes a ps k = many_goes kinds rule turn.one_look turn.some n a ps k

  -- what is left to read behind a turn is what was to be read
  pub keep : (x : Reading A) (a : A) (ps : List Terminal) (b : A) (rest : List Terminal) → reads grammar n (Many kinds rule) a ps ≡ x → begins kinds ps ≡ true →
      reads grammar n rule a ps ≡ Read b rest → reads grammar n (Many kinds rule) b rest ≡ x
  keep x a ps b rest i k e = sym (goes a ps k ∙ ap (λ (y : Reading A). y >>= reads grammar n (Many kinds rule)) e) ∙ i

  -- where a turn stops, the repetition does
  pub exit : (x : Reading A) (a : A) (ps : List Terminal) (stop : Unread) (rest : List Terminal) → reads grammar n (Many kinds rule) a ps ≡ x → begins kinds ps ≡ true →
      StopsAt stop (reads grammar n rule a ps) rest → StopsAt stop x rest
  exit x a ps stop rest i k e =
      subst (λ (y : Reading A). StopsAt stop y rest) (sym (goes a ps k) ∙ i) (stops_behind stop rest (reads grammar n rule a ps) (reads grammar n (Many kinds rule)) e)

  -- where no other turn begins, the repetition ends
  pub end : (x : Reading A) (a : A) (ps : List Terminal) → reads grammar n (Many kinds rule) a ps ≡ x → begins kinds ps ≡ false → x ≡ Read a ps
  end x a ps i k = sym i ∙ repeated_ends (length ps) kinds (reads grammar n rule) a ps k

-- the turns of the grammar

pub turn-operation : IsTurn operators operation
unfolding called_name after_operand_name after_operand_date other_operand operand operation
turn-operation = record { one_look = refl; some = refl }

pub turn-another_expression : IsTurn (kinds.Comma ∷ []) another_expression
unfolding called_name after_operand_name after_operand_date other_operand operand operation operations expression another_expression
turn-another_expression = record { one_look = refl; some = refl }

pub turn-in_value : IsTurn (kinds.Comma ∷ []) in_value
unfolding plain_value value in_value
turn-in_value = record { one_look = refl; some = refl }

pub turn-and_condition : IsTurn (kinds.And ∷ []) and_condition
unfolding after_name column plain_value value turned_test tied_test after_equal_date equal_test unequal_test between_test in_value more_in_values in_values in_test like_test null_test column_test after_test_name after_test_date plain_condition condition and_condition
turn-and_condition = record { one_look = refl; some = refl }

pub turn-another_item : IsTurn (kinds.Comma ∷ []) another_item
unfolding alias called_name after_operand_name after_operand_date other_operand operand operation operations rest_of_item after_item_point after_item_name after_item_date literal_item item_value one_item another_item
turn-another_item = record { one_look = refl; some = refl }

pub turn-another_source : IsTurn (kinds.Comma ∷ kinds.Inner ∷ kinds.Join ∷ []) another_source
unfolding after_name column alias source plain_value value turned_test tied_test after_equal_date equal_test unequal_test between_test in_value more_in_values in_values in_test like_test null_test column_test after_test_name after_test_date plain_condition condition and_condition more_conditions conditions one_source join_word on_part joined_source another_source
turn-another_source = record { one_look = refl; some = refl }

pub turn-another_column : IsTurn (kinds.Comma ∷ []) another_column
unfolding after_name column one_column another_column
turn-another_column = record { one_look = refl; some = refl }

pub turn-another_having_test : IsTurn (kinds.And ∷ []) another_having_test
unfolding called_name after_operand_name after_operand_date other_operand operand operation operations expression having_test another_having_test
turn-another_having_test = record { one_look = refl; some = refl }

pub turn-another_order : IsTurn (kinds.Comma ∷ []) another_order
unfolding called_name after_operand_name after_operand_date other_operand operand operation operations expression direction order_value one_order another_order
turn-another_order = record { one_look = refl; some = refl }

pub turn-another_name : IsTurn (kinds.Comma ∷ []) another_name
unfolding name_as_column another_name
turn-another_name = record { one_look = refl; some = refl }

pub turn-another_row : IsTurn (kinds.Comma ∷ []) another_row
unfolding called_name after_operand_name after_operand_date other_operand operand operation operations expression another_expression more_expressions expressions row_values row another_row
turn-another_row = record { one_look = refl; some = refl }

pub turn-another_assignment : IsTurn (kinds.Comma ∷ []) another_assignment
unfolding called_name after_operand_name after_operand_date other_operand operand operation operations expression name_as_column set_column assignment another_assignment
turn-another_assignment = record { one_look = refl; some = refl }

pub turn-another_statement : IsTurn (kinds.Semicolon ∷ []) another_statement
unfolding after_name column alias source plain_value value called_name after_operand_name after_operand_date other_operand operand operation operations expression another_expression more_expressions expressions turned_test tied_test after_equal_date equal_test unequal_test between_test in_value more_in_values in_values in_test like_test null_test column_test after_test_name after_test_date plain_condition condition and_condition more_conditions conditions where_conditions rest_of_item after_item_point after_item_name after_item_date literal_item item_value one_item another_item more_items item_list quantifier one_source join_word on_part joined_source another_source more_sources source_list where_part one_column another_column more_columns column_list group_part having_test another_having_test more_having_tests having_tests having_part direction order_value one_order another_order more_orders order_list order_part offset_part limit_part from_part select_head group_and_having order_and_limit select_tail select_rest name_as_column another_name more_names name_list insert_columns row_values row another_row more_rows rows insert_table insert_rest set_column assignment another_assignment more_assignments assignments update_source update_rest delete_conditions delete_rest select insert update select_statement insert_statement update_statement delete_statement statement maybe_statement another_statement
turn-another_statement = record { one_look = refl; some = refl }
