-- Statements of two texts are read alike.
use Rattle.std.proofs.Common.{ℕ, zero, suc, ◌+◌, List, None, refl, ap}
use Rattle.sql_reader.specs.declared.parsed.ParsedItem.{ParsedItem}
use Rattle.sql_reader.specs.declared.parsed.ParsedSelect.{ParsedSelect}
use Rattle.sql_reader.specs.Rule.{Nesting, State, Nest, Conditions, Parenthesis, Call, Signed, Meaning, IsNested}
use Rattle.sql_reader.specs.Values.{with_source}
use Rattle.sql_reader.specs.Grammar.{quantifier, group_part, column_list, one_column, more_columns, another_column, direction, limit_part, offset_part, insert_table, insert_columns, name_list, name_as_column, more_names, another_name, set_column}
use Rattle.sql_reader.specs.Printed as printed
use Rattle.workload_fold.specs.Pairs.{Pairs}
use Rattle.workload_fold.specs.Readings.{StatementsReadAlike}
use Rattle.workload_fold.specs.Places.{Texts, SameSpan, SameMaybe, SameName, SameNames, SameSource, SameCondition, SameSeen, SameItem, SameOrder, SameSelect, SameInsert, SameUpdate, SameBody}
use Rattle.workload_fold.proofs.Following.{Kin, Any, Follows, pairs_push, give_follows, take_follows, then_follows, use_follows, either_follows, many_follows, word_follows, maybe_follows, commas_follow, behind_follows}
use Rattle.workload_fold.proofs.ReadAlike.{terminals_of, NestedFollow, same_expr_of, column_follows, alias_follows, source_follows, expr_follows, call_follows, parenthesis_follows, signed_follows, conds_follow, nested_conds_follow, where_conds_follow}

-- ## Parts of a SELECT with others

same_items : (t : Texts) (x y : ParsedSelect) (xs ys : List ParsedItem) → SameSelect t x y → Pairs (SameItem t) xs ys → SameSelect t (record x { items = xs }) (record y { items = ys })
same_items t x y xs ys h all =
    record { distinct = h.distinct; items = all; sources = h.sources; conditions = h.conditions; group = h.group; having = h.having; order = h.order }

module _ (t : Texts) (d : (x : Nesting) → Meaning (State x) (State x)) (nested : NestedFollow t d) where
  abbrev k : Kin
  k = terminals_of t d

  -- ## SELECT

  item_follows : Follows k Any printed.item (SameItem t)
  unfolding printed.item
  item_follows =
      either_follows k (take_follows k (λ a c p q agree known. tt))
      (either_follows k
      (then_follows k (SameSpan t) (take_follows k (λ a c p q agree known. agree.span))
      (then_follows k (SameSpan t) (word_follows k) (take_follows k (λ a c p q agree known. known))))
      (then_follows k (SameSeen t) (give_follows k (λ a c known. record { uses = tt; stars = refl; aggregate = refl; form = refl }))
      (then_follows k (SameSeen t) (expr_follows t d nested)
      (use_follows k Any (SameMaybe t) (alias_follows t d) (λ a c known. tt) (λ a c m n known other. (same_expr_of t a c known, other))))))

  test_follows : Follows k (SameSeen t) printed.test (SameSeen t)
  unfolding printed.test
  test_follows =
      then_follows k (SameSeen t) (expr_follows t d nested)
      (then_follows k (SameSeen t) (take_follows k (λ a c p q agree known. known)) (expr_follows t d nested))

  direction_follows : Follows k (SameSeen t) direction (SameOrder t)
  unfolding direction
  direction_follows =
      either_follows k (take_follows k (λ a c p q agree known. record { expr = same_expr_of t a c known; down = refl }))
      (either_follows k (take_follows k (λ a c p q agree known. record { expr = same_expr_of t a c known; down = refl }))
      (give_follows k (λ a c known. record { expr = same_expr_of t a c known; down = refl })))

  order_follows : Follows k Any printed.order (SameOrder t)
  unfolding printed.order
  order_follows =
      then_follows k (SameSeen t) (give_follows k (λ a c known. record { uses = tt; stars = refl; aggregate = refl; form = refl }))
      (then_follows k (SameSeen t) (expr_follows t d nested) direction_follows)

  with_source_follows : Follows k (SameSelect t) (printed.also printed.source with_source) (SameSelect t)
  with_source_follows =
      use_follows k Any (SameSource t) (source_follows t d) (λ a c known. tt)
      (λ a c m n known other.
      record { distinct = known.distinct; items = known.items; sources = pairs_push (SameSource t) a.sources c.sources m n known.sources other; conditions = known.conditions; group = known.group; having = known.having; order = known.order })

  sources_follow : Follows k (SameSelect t) printed.sources (SameSelect t)
  unfolding printed.sources
  sources_follow =
      then_follows k (SameSelect t) with_source_follows
      (many_follows k
      (either_follows k (then_follows k (SameSelect t) (word_follows k) with_source_follows)
      (then_follows k (SameSelect t) (then_follows k (SameSelect t) (maybe_follows k (word_follows k)) (word_follows k))
      (then_follows k (SameSelect t) with_source_follows
      (then_follows k (SameSelect t) (word_follows k)
      (use_follows k (Pairs (SameCondition t)) (Pairs (SameCondition t)) (conds_follow t d nested) (λ a c known. known.conditions)
      (λ a c m n known other.
      record { distinct = known.distinct; items = known.items; sources = known.sources; conditions = other; group = known.group; having = known.having; order = known.order })))))))

  having_follows : Follows k (SameSelect t) printed.having (SameSelect t)
  unfolding printed.having
  having_follows =
      maybe_follows k
      (then_follows k (SameSelect t) (word_follows k)
      (use_follows k (SameSeen t) (SameSeen t)
      (then_follows k (SameSeen t) test_follows (many_follows k (then_follows k (SameSeen t) (word_follows k) test_follows)))
      (λ a c known. record { uses = tt; stars = refl; aggregate = refl; form = refl })
      (λ a c m n known other.
      record { distinct = known.distinct; items = known.items; sources = known.sources; conditions = known.conditions; group = known.group; having = other.uses; order = known.order })))

  orders_follow : Follows k (SameSelect t) printed.orders (SameSelect t)
  unfolding printed.orders
  orders_follow =
      maybe_follows k
      (then_follows k (SameSelect t) (word_follows k)
      (then_follows k (SameSelect t) (word_follows k)
      (use_follows k (Pairs (SameOrder t)) (Pairs (SameOrder t)) (commas_follow k (behind_follows k (SameOrder t) order_follows)) (λ a c known. known.order)
      (λ a c m n known other.
      record { distinct = known.distinct; items = known.items; sources = known.sources; conditions = known.conditions; group = known.group; having = known.having; order = other }))))

  quantifier_follows : Follows k (SameSelect t) quantifier (SameSelect t)
  unfolding quantifier
  quantifier_follows =
      either_follows k (take_follows k (λ a c p q agree known. known))
      (either_follows k
      (take_follows k (λ a c p q agree known.
      record { distinct = refl; items = known.items; sources = known.sources; conditions = known.conditions; group = known.group; having = known.having; order = known.order }))
      (give_follows k (λ a c known. known)))

  one_column_follows : Follows k (SameNames t) one_column (SameNames t)
  unfolding one_column
  one_column_follows = use_follows k Any (SameName t) (column_follows t d) (λ a c known. tt) (λ a c m n known other. pairs_push (SameName t) a c m n known other)

  columns_follow : Follows k (SameNames t) column_list (SameNames t)
  unfolding column_list more_columns another_column
  columns_follow =
      then_follows k (SameNames t) one_column_follows
      (many_follows k (then_follows k (SameNames t) (take_follows k (λ a c p q agree known. known)) one_column_follows))

  group_follows : Follows k (SameSelect t) group_part (SameSelect t)
  unfolding group_part
  group_follows =
      either_follows k
      (then_follows k (SameSelect t) (take_follows k (λ a c p q agree known. known))
      (then_follows k (SameSelect t) (take_follows k (λ a c p q agree known. known))
      (use_follows k (SameNames t) (SameNames t) columns_follow (λ a c known. known.group)
      (λ a c m n known other.
      record { distinct = known.distinct; items = known.items; sources = known.sources; conditions = known.conditions; group = other; having = known.having; order = known.order }))))
      (give_follows k (λ a c known. known))

  offset_follows : Follows k Any offset_part Any
  unfolding offset_part
  offset_follows =
      either_follows k (then_follows k Any (take_follows k (λ a c p q agree known. tt)) (take_follows k (λ a c p q agree known. tt))) (give_follows k (λ a c known. tt))

  limit_follows : Follows k Any limit_part Any
  unfolding limit_part
  limit_follows =
      either_follows k
      (then_follows k Any (take_follows k (λ a c p q agree known. tt)) (then_follows k Any (take_follows k (λ a c p q agree known. tt)) offset_follows))
      (give_follows k (λ a c known. tt))

  pub select_follows : Follows k Any printed.select_rest (SameSelect t)
  unfolding printed.select_rest
  select_follows =
      then_follows k (SameSelect t)
      (give_follows k (λ a c known. record { distinct = refl; items = tt; sources = tt; conditions = tt; group = tt; having = tt; order = tt }))
      (then_follows k (SameSelect t)
      (then_follows k (SameSelect t) quantifier_follows
      (then_follows k (SameSelect t)
      (use_follows k (Pairs (SameItem t)) (Pairs (SameItem t)) (commas_follow k (behind_follows k (SameItem t) item_follows)) (λ a c known. known.items)
      (λ a c m n known other. same_items t a c m n known other))
      (then_follows k (SameSelect t) (word_follows k) sources_follow)))
      (then_follows k (SameSelect t)
      (use_follows k (Pairs (SameCondition t)) (Pairs (SameCondition t)) (where_conds_follow t d nested) (λ a c known. known.conditions)
      (λ a c m n known other.
      record { distinct = known.distinct; items = known.items; sources = known.sources; conditions = other; group = known.group; having = known.having; order = known.order }))
      (then_follows k (SameSelect t) (then_follows k (SameSelect t) group_follows having_follows)
      (then_follows k (SameSelect t) orders_follow (use_follows k Any Any limit_follows (λ a c known. tt) (λ a c m n known other. known))))))

  -- ## INSERT

  name_follows : Follows k (SameNames t) name_as_column (SameNames t)
  unfolding name_as_column
  name_follows =
      take_follows k (λ a c p q agree known.
      pairs_push (SameName t) a c (record { qualifier = None; name = p.span }) (record { qualifier = None; name = q.span }) known (record { qualifier = tt; name = agree.span }))

  insert_columns_follow : Follows k (SameNames t) insert_columns (SameNames t)
  unfolding insert_columns name_list more_names another_name
  insert_columns_follow =
      either_follows k
      (then_follows k (SameNames t) (take_follows k (λ a c p q agree known. known))
      (then_follows k (SameNames t)
      (then_follows k (SameNames t) name_follows (many_follows k (then_follows k (SameNames t) (take_follows k (λ a c p q agree known. known)) name_follows)))
      (take_follows k (λ a c p q agree known. known))))
      (give_follows k (λ a c known. known))

  insert_table_follows : Follows k Any insert_table (SameInsert t)
  unfolding insert_table
  insert_table_follows =
      then_follows k Any (take_follows k (λ a c p q agree known. tt))
      (take_follows k (λ a c p q agree known.
      record { table = agree.span; columns = tt; found = record { uses = tt; stars = refl; aggregate = refl; form = refl }; rows = refl }))

  row_follows : Follows k (SameInsert t) printed.row (SameInsert t)
  unfolding printed.row
  row_follows =
      then_follows k (SameInsert t) (word_follows k)
      (then_follows k (SameInsert t)
      (use_follows k (SameSeen t) (SameSeen t) (commas_follow k (expr_follows t d nested)) (λ a c known. known.found)
      (λ a c m n known other. record { table = known.table; columns = known.columns; found = other; rows = known.rows }))
      (take_follows k (λ a c p q agree known. record { table = known.table; columns = known.columns; found = known.found; rows = ap (λ (x : ℕ). x + 1) known.rows })))

  pub insert_follows : Follows k Any printed.insert_rest (SameInsert t)
  unfolding printed.insert_rest
  insert_follows =
      then_follows k (SameInsert t) insert_table_follows
      (then_follows k (SameInsert t)
      (use_follows k (SameNames t) (SameNames t) insert_columns_follow (λ a c known. known.columns)
      (λ a c m n known other. record { table = known.table; columns = other; found = known.found; rows = known.rows }))
      (then_follows k (SameInsert t) (word_follows k) (commas_follow k row_follows)))

  -- ## UPDATE and DELETE

  set_column_follows : Follows k (SameUpdate t) set_column (SameUpdate t)
  unfolding set_column
  set_column_follows =
      then_follows k (SameUpdate t)
      (use_follows k (SameNames t) (SameNames t) name_follows (λ a c known. known.columns)
      (λ a c m n known other. record { source = known.source; columns = other; found = known.found; conditions = known.conditions }))
      (take_follows k (λ a c p q agree known. known))

  assignment_follows : Follows k (SameUpdate t) printed.assignment (SameUpdate t)
  unfolding printed.assignment
  assignment_follows =
      then_follows k (SameUpdate t) set_column_follows
      (use_follows k (SameSeen t) (SameSeen t) (expr_follows t d nested) (λ a c known. known.found)
      (λ a c m n known other. record { source = known.source; columns = known.columns; found = other; conditions = known.conditions }))

  pub update_follows : Follows k Any printed.update_rest (SameUpdate t)
  unfolding printed.update_rest
  update_follows =
      then_follows k (SameUpdate t)
      (use_follows k Any (SameSource t) (source_follows t d) (λ a c known. tt)
      (λ a c m n known other. record { source = other; columns = tt; found = record { uses = tt; stars = refl; aggregate = refl; form = refl }; conditions = tt }))
      (then_follows k (SameUpdate t) (word_follows k)
      (then_follows k (SameUpdate t) (commas_follow k assignment_follows)
      (use_follows k (Pairs (SameCondition t)) (Pairs (SameCondition t)) (where_conds_follow t d nested) (λ a c known. known.conditions)
      (λ a c m n known other. record { source = known.source; columns = known.columns; found = known.found; conditions = other }))))

  pub delete_follows : Follows k Any printed.delete_rest (SameBody t)
  unfolding printed.delete_rest
  delete_follows =
      then_follows k Any (word_follows k)
      (then_follows k (SameSource t) (source_follows t d)
      (use_follows k (Pairs (SameCondition t)) (Pairs (SameCondition t)) (where_conds_follow t d nested) (λ a c known. tt) (λ a c m n known other. (known, other))))

-- ## Nested forms, however many levels nest

no_level : (t : Texts) (x : Nesting) (R : State x → State x → Type 0) → Follows (terminals_of t (IsNested printed.grammar zero)) R (Nest x) R
unfolding IsNested
no_level t x R = record { follows = λ a c ps qs b known agree is. absurd is }

one_level : (t : Texts) (n : ℕ) → NestedFollow t (IsNested printed.grammar n) → NestedFollow t (IsNested printed.grammar (suc n))
unfolding IsNested printed.grammar
one_level t n deeper =
    let d = IsNested printed.grammar n in
    let conditions = nested_conds_follow t d deeper in
    let parenthesis = parenthesis_follows t d deeper in
    let call = call_follows t d deeper in
    let signed_operand = signed_follows t d deeper in
    record {
      conditions = record { follows = λ a c ps qs b known agree is. conditions.follows a c ps qs b known agree is };
      parenthesis = record { follows = λ a c ps qs b known agree is. parenthesis.follows a c ps qs b known agree is };
      call = record { follows = λ a c ps qs b known agree is. call.follows a c ps qs b known agree is };
      signed_operand = record { follows = λ a c ps qs b known agree is. signed_operand.follows a c ps qs b known agree is };
    }

pub levels_follow : (t : Texts) (n : ℕ) → NestedFollow t (IsNested printed.grammar n)
levels_follow t zero = record {
  conditions = no_level t Conditions (Pairs (SameCondition t));
  parenthesis = no_level t Parenthesis (SameSeen t);
  call = no_level t Call (SameSeen t);
  signed_operand = no_level t Signed (SameSeen t);
}
levels_follow t (suc n) = one_level t n (levels_follow t n)

-- each statement behind its first word
pub statements_read_alike : StatementsReadAlike
statements_read_alike = record {
  select = λ t n ps qs b agree is. (select_follows t (IsNested printed.grammar n) (levels_follow t n)).follows tt tt ps qs b tt agree is;
  insert = λ t n ps qs b agree is. (insert_follows t (IsNested printed.grammar n) (levels_follow t n)).follows tt tt ps qs b tt agree is;
  update = λ t n ps qs b agree is. (update_follows t (IsNested printed.grammar n) (levels_follow t n)).follows tt tt ps qs b tt agree is;
  delete = λ t n ps qs b agree is. (delete_follows t (IsNested printed.grammar n) (levels_follow t n)).follows tt tt ps qs b tt agree is;
}
