-- What was read keeps what binding asks.
use Rattle.std.proofs.Common.{◌≡◌, ℕ, ◌^◌, ◌<◌, ◌≤◌, Bool, true, ◌&&◌, List, [], ◌∷◌, length, Option, Some, sym, ap, ◌∙◌, arith}
use Rattle.std.specs.Prelude.{All, nat_le}
use Rattle.std.specs.List.{list_all}
use Rattle.std.proofs.lemmas.Bool.{leb-true, ltb-true, and_parts}
use Rattle.std.proofs.lemmas.List.Elements.{All-nil, All-cons}
use Rattle.sql_tokens.specs.declared.token.Span.{Span}
use Rattle.sql_reader.specs.declared.parsed.Body.{Body}
use Rattle.sql_reader.specs.declared.parsed.Condition.{Condition}
use Rattle.sql_reader.specs.declared.parsed.Expr.{Expr}
use Rattle.sql_reader.specs.declared.parsed.NameUse.{NameUse}
use Rattle.sql_reader.specs.declared.parsed.ParsedItem.{ParsedItem}
use Rattle.sql_reader.specs.declared.parsed.ParsedOrder.{ParsedOrder}
use Rattle.sql_reader.specs.declared.parsed.ParsedSelect.{ParsedSelect}
use Rattle.sql_reader.specs.declared.parsed.ParsedStatement.{ParsedStatement}
use Rattle.sql_reader.specs.declared.parsed.Source.{Source}
use Rattle.sql_reader.specs.Valid.{span_in, option_in, name_in, names_in, literal_in, condition_in, conditions_in, are_few, expr_in, one_if_plain, item_in, items_in, sources_in, source_in, order_in, order_item_in, select_in, rows_in, body_in, statement_in, statements_in}
use Rattle.binder.specs.Limits.{IsShort, NameLimits, SourceLimits, ItemLimits, OrderLimits, ConditionLimits, ConditionsLimits, SelectLimits, BodyLimits, StatementLimits}

list_all-All : {X : Type 0} (p : X → Bool) (P : X → Type 0) → ((x : X) → p x ≡ true → P x) → (xs : List X) → list_all p xs ≡ true → All P xs
list_all-All p P has [] e = All-nil P
list_all-All p P has (x ∷ xs) e = let both = and_parts (p x) (list_all p xs) e in All-cons P x xs (has x both.0) (list_all-All p P has xs both.1)

few-All : {X : Type 0} (p : X → Bool) (P : X → Type 0) → ((x : X) → p x ≡ true → P x) → (xs : List X) → (are_few (length xs) && list_all p xs) ≡ true → (length xs < 2 ^ 32) × All P xs
few-All p P has xs e = let both = and_parts (are_few (length xs)) (list_all p xs) e in (ltb-true (length xs) (2 ^ 32) both.0, list_all-All p P has xs both.1)

-- of a text of n bytes
module _ (n : ℕ) (few : n < 2 ^ 32) where
  span-short : (s : Span) → span_in n s ≡ true → IsShort s
  span-short s e =
      let both = and_parts (nat_le s.from s.to) (nat_le s.to n) e in
      let forward : s.from ≤ s.to = leb-true s.from s.to both.0 in
      let inside : s.to ≤ n = leb-true s.to n both.1 in
      omega arith

  option-short : (o : Option Span) → option_in n o ≡ true → (s : Span) → o ≡ Some s → IsShort s
  option-short o e s is = span-short s (sym (ap (option_in n) is) ∙ e)

  name-limits : (u : NameUse) → name_in n u ≡ true → NameLimits u
  name-limits u e = let both = and_parts (option_in n u.qualifier) (span_in n u.name) e in record { qualifier = option-short u.qualifier both.0; name = span-short u.name both.1 }

  names-limits : (us : List NameUse) → names_in n us ≡ true → All NameLimits us
  names-limits us e = (few-All (name_in n) NameLimits name-limits us e).1

  expr-limits : (x : Expr) → expr_in n x ≡ true → All NameLimits x.uses
  expr-limits x e = names-limits x.uses (and_parts (names_in n x.uses) (one_if_plain x.plain (length x.uses)) e).0

  source-limits : (s : Source) → source_in n s ≡ true → SourceLimits s
  source-limits s e = let both = and_parts (span_in n s.table) (option_in n s.alias) e in record { table = span-short s.table both.0; alias = option-short s.alias both.1 }

  item-limits : (item : ParsedItem) → item_in n item ≡ true → ItemLimits item
  item-limits item e = record {
    stars = λ s is. span-short s (sym (ap (item_in n) is) ∙ e);
    made = λ x alias is. expr-limits x (and_parts (expr_in n x) (option_in n alias) (sym (ap (item_in n) is) ∙ e)).0;
  }

  order-limits : (order : ParsedOrder) → order_item_in n order ≡ true → OrderLimits order
  order-limits order e = expr-limits order.expr e

  condition-limits : (condition : Condition) → condition_in n condition ≡ true → ConditionLimits condition
  condition-limits condition e = record {
    items = λ name count is. leb-true 1 count (and_parts (name_in n name) (nat_le 1 count) (sym (ap (condition_in n) is) ∙ e)).1;
    compared = λ name compare literal is. name-limits name (and_parts (name_in n name) (literal_in n literal) (sym (ap (condition_in n) is) ∙ e)).0;
    left = λ left right is. name-limits left (and_parts (name_in n left) (name_in n right) (sym (ap (condition_in n) is) ∙ e)).0;
    right = λ left right is. name-limits right (and_parts (name_in n left) (name_in n right) (sym (ap (condition_in n) is) ∙ e)).1;
    between = λ name low high is. name-limits name (and_parts (name_in n name) (literal_in n low && literal_in n high) (sym (ap (condition_in n) is) ∙ e)).0;
    one_of = λ name count is. name-limits name (and_parts (name_in n name) (nat_le 1 count) (sym (ap (condition_in n) is) ∙ e)).0;
    like = λ name is. name-limits name (sym (ap (condition_in n) is) ∙ e);
    is_null = λ name is. name-limits name (sym (ap (condition_in n) is) ∙ e);
    not_null = λ name is. name-limits name (sym (ap (condition_in n) is) ∙ e);
  }

  conditions-limits : (conditions : List Condition) → conditions_in n conditions ≡ true → ConditionsLimits conditions
  conditions-limits conditions e = let both = few-All (condition_in n) ConditionLimits condition-limits conditions e in record { most = both.0; each = both.1 }

  select-reads : (s : ParsedSelect) → select_in n s ≡ true → SelectLimits s
  select-reads s e =
      let a = and_parts (items_in n s.items) (sources_in n s.sources && (conditions_in n s.conditions && (names_in n s.group && (names_in n s.having && order_in n s.order)))) e in
      let b = and_parts (sources_in n s.sources) (conditions_in n s.conditions && (names_in n s.group && (names_in n s.having && order_in n s.order))) a.1 in
      let c = and_parts (conditions_in n s.conditions) (names_in n s.group && (names_in n s.having && order_in n s.order)) b.1 in
      let d = and_parts (names_in n s.group) (names_in n s.having && order_in n s.order) c.1 in
      let f = and_parts (names_in n s.having) (order_in n s.order) d.1 in
      let sources = and_parts (nat_le 1 (length s.sources)) (are_few (length s.sources) && list_all (source_in n) s.sources) b.0 in
      let order = few-All (order_item_in n) OrderLimits order-limits s.order f.1 in
      record {
        items = (few-All (item_in n) ItemLimits item-limits s.items a.0).1;
        sources_some = leb-true 1 (length s.sources) sources.0;
        sources = (few-All (source_in n) SourceLimits source-limits s.sources sources.1).1;
        conditions = conditions-limits s.conditions c.0;
        group = names-limits s.group d.0;
        having = names-limits s.having f.0;
        order_most = order.0;
        order = order.1;
      }

  body-limits : (body : Body) → body_in n body ≡ true → BodyLimits body
  body-limits body e = record {
    selects = λ s is. select-reads s (sym (ap (body_in n) is) ∙ e);
    inserts = λ table columns uses rows is.
        let a = and_parts (span_in n table) (names_in n columns && (names_in n uses && rows_in rows)) (sym (ap (body_in n) is) ∙ e) in
        let b = and_parts (names_in n columns) (names_in n uses && rows_in rows) a.1 in
        let c = and_parts (names_in n uses) (rows_in rows) b.1 in
        let d = and_parts (nat_le 1 rows) (are_few rows) c.1 in
        record { table = span-short table a.0; columns = names-limits columns b.0; uses = names-limits uses c.0; rows_least = leb-true 1 rows d.0; rows_most = ltb-true rows (2 ^ 32) d.1 };
    updates = λ source columns uses conditions is.
        let a = and_parts (source_in n source) (names_in n columns && (names_in n uses && conditions_in n conditions)) (sym (ap (body_in n) is) ∙ e) in
        let b = and_parts (names_in n columns) (names_in n uses && conditions_in n conditions) a.1 in
        let c = and_parts (names_in n uses) (conditions_in n conditions) b.1 in
        record { source = source-limits source a.0; columns = names-limits columns b.0; uses = names-limits uses c.0; conditions = conditions-limits conditions c.1 };
    deletes = λ source conditions is.
        let a = and_parts (source_in n source) (conditions_in n conditions) (sym (ap (body_in n) is) ∙ e) in
        record { source = source-limits source a.0; conditions = conditions-limits conditions a.1 };
  }

  statement-limits : (s : ParsedStatement) → statement_in n s ≡ true → StatementLimits s
  statement-limits s e =
      let a = and_parts (nat_le 1 s.weight) (nat_le s.weight 1000000 && body_in n s.body) e in
      let b = and_parts (nat_le s.weight 1000000) (body_in n s.body) a.1 in
      record { weight_least = leb-true 1 s.weight a.0; weight_most = leb-true s.weight 1000000 b.0; body = body-limits s.body b.1 }

  -- the statements of a text keep what binding asks
  pub read-limits : (statements : List ParsedStatement) → statements_in n statements ≡ true → All StatementLimits statements
  read-limits statements e = list_all-All (statement_in n) StatementLimits statement-limits statements (and_parts (nat_le (length statements) 1000) (list_all (statement_in n) statements) e).1

-- and they are at most 1000
pub few-read : (n : ℕ) (statements : List ParsedStatement) → statements_in n statements ≡ true → length statements ≤ 1000
few-read n statements e = leb-true (length statements) 1000 (and_parts (nat_le (length statements) 1000) (list_all (statement_in n) statements) e).0
