-- The grammar of workloads as docs/FORMATS.md prints it: a rule for each production, alternative by alternative. One
-- look ahead doesn't tell the alternatives apart, so nothing is read by these rules; they mean what the rules of
-- Grammar mean, by which workloads are read. Rules that are printed as they are read are those of Grammar.
use Rattle.std.specs.Prelude.{ℕ, ◌+◌, ◌↔◌, List, [], ◌∷◌, ◌++◌, Option, Some, None}
use Rattle.sql_tokens.specs.declared.token.Span.{Span}
use Rattle.sql_reader.specs.declared.kind.TerminalKind.{TerminalKind}
use Rattle.sql_reader.specs.declared.kind.TerminalKind.TheVariants as kinds
use Rattle.sql_reader.specs.declared.terminal.Terminal.{Terminal}
use Rattle.sql_reader.specs.declared.seen.Seen.{Seen}
use Rattle.sql_reader.specs.declared.parsed.NameUse.{NameUse}
use Rattle.sql_reader.specs.declared.parsed.ParsedItem.{ParsedItem}
use Rattle.sql_reader.specs.declared.parsed.ParsedItem.TheVariants as items
use Rattle.sql_reader.specs.declared.parsed.Source.{Source}
use Rattle.sql_reader.specs.declared.parsed.Literal.{Literal}
use Rattle.sql_reader.specs.declared.parsed.Condition.{Condition}
use Rattle.sql_reader.specs.declared.parsed.Condition.TheVariants.{Compared, Tied, Between, OneOf, Like}
use Rattle.sql_reader.specs.declared.parsed.ParsedOrder.{ParsedOrder}
use Rattle.sql_reader.specs.declared.parsed.ParsedSelect.{ParsedSelect}
use Rattle.sql_reader.specs.declared.parsed.Body.{Body}
use Rattle.sql_reader.specs.declared.parsed.Body.TheVariants as bodies
use Rattle.sql_reader.specs.declared.parts.InsertParts.{InsertParts}
use Rattle.sql_reader.specs.declared.parts.UpdateParts.{UpdateParts}
use Rattle.sql_reader.specs.declared.parts.Progress.{Progress}
use Rattle.sql_reader.specs.Rule.{Rule, Give, Take, Then, Use, Either, Many, Nest, Conditions, Parenthesis, Call, Signed, Grammar}
use Rattle.sql_reader.specs.Exact.{IsRead}
use Rattle.sql_reader.specs.Values.{day_literal, literal_of, signed, compare_of, turned, nothing_found, with_form, not_alone, with_use, with_star, called, beside, beside_kind, with_source, with_conditions, with_having, with_order, with_items, with_values, with_row, with_insert_columns, with_set_values, with_update_conditions, conditions_of, order_of, items_of, values_of, insert_columns_of, set_values_of, update_conditions_of, literal_form, expr_of, empty_select, insert_body, empty_update, update_body, with_statement}
use Rattle.sql_reader.specs.Grammar.{names, literals, signs, operators, comparisons, column, null_test, quantifier, group_part, direction, limit_part, insert_table, insert_columns, set_column}
use Rattle.sql_reader.specs.Grammar as factored

-- How productions are printed.

-- one rule behind another
infixr 30 ◌▸◌
abbrev pub ◌▸◌ : {A B C : Type 0} → Rule A B → Rule B C → Rule A C
first ▸ second = Then first second

-- left | right
infixr 20 ◌or◌
abbrev pub ◌or◌ : {A B : Type 0} → Rule A B → Rule A B → Rule A B
left or right = Either [] left right

-- [ rule ]
abbrev pub maybe : {A : Type 0} → Rule A A → Rule A A
maybe rule = rule or Give (λ a. a)

-- { rule }
abbrev pub any : {A : Type 0} → Rule A A → Rule A A
any rule = Many [] rule

-- a word or sign that says no more than that it stands there
abbrev pub word : {A : Type 0} → TerminalKind → Rule A A
word kind = Take (kind ∷ []) (λ a _. a)

-- rule { "," rule }
abbrev pub commas : {A : Type 0} → Rule A A → Rule A A
commas rule = rule ▸ any (word kinds.Comma ▸ rule)

-- a rule that needs nothing of what is known, and what it gives joined to that
abbrev pub also : {A B C : Type 0} → Rule (Unit {0}) B → (A → B → C) → Rule A C
also rule join = Use (λ _. tt) rule join

-- a rule, its value put behind those before
abbrev pub behind : {A : Type 0} → Rule (Unit {0}) A → Rule (List A) (List A)
behind rule = also rule (λ before x. before ++ x ∷ [])

-- Names, values.

-- [[AS] name]
unfoldable pub alias : Rule (Unit {0}) (Option Span)
alias = (maybe (word kinds.As) ▸ Take names (λ _ p. Some p.span)) or Give (λ _. None)

-- source = name [[AS] name]
unfoldable pub source : Rule (Unit {0}) Source
source = Take names (λ _ p. p.span) ▸ also alias (λ table other. record { table = table; alias = other })

-- literal = Whole | Decimal | Text | DATE Text | NULL | "?"
-- A Text that holds a date is of a kind of its own, Day. The literals of one terminal are taken together.
unfoldable pub literal : Rule (Unit {0}) Literal
literal =
    Take literals (λ _ p. literal_of p)
    or (word kinds.Date ▸ Take (kinds.Day ∷ []) (λ _ p. day_literal p))

-- value = literal | ("+" | "-") (Whole | Decimal)
unfoldable pub value : Rule (Unit {0}) Literal
value =
    literal
    or (Take signs (λ _ p. p.kind) ▸ Take (kinds.Whole ∷ kinds.Decimal ∷ []) (λ sign p. signed sign p))

-- Expressions. The sign of a prim with that prim, "(" expr ")" and a call are nested forms, whose rules stand in the
-- grammar below.

-- literal, in an expression
unfoldable pub literal_operand : Rule Seen Seen
literal_operand =
    Take literals (λ found p. with_form (literal_form p.kind p.number) found)
    or (word kinds.Date ▸ Take (kinds.Day ∷ []) (λ found _. not_alone found))

-- prim = ("+" | "-") prim | "(" expr ")" | literal | column | call
unfoldable pub prim : Rule Seen Seen
prim =
    Nest Signed
    or Nest Parenthesis
    or literal_operand
    or also column with_use
    or Nest Call

-- expr = prim { ("+" | "-" | "*" | "/" | "%" | "||") prim }
unfoldable pub expr : Rule Seen Seen
expr = prim ▸ any (Take operators (λ found _. found) ▸ prim ▸ Give not_alone)

-- the ")" of an expression or a call
unfoldable pub closed : Rule Seen Seen
closed = Take (kinds.Close ∷ []) (λ found _. not_alone found)

-- the name of a call
unfoldable pub call_name : Rule Seen Seen
call_name = Take names (λ found p. called found p.kind)

-- call = name "(" ")" | name "(" "*" ")" | name "(" [DISTINCT] expr { "," expr } ")"
unfoldable pub call : Rule Seen Seen
call =
    (call_name ▸ word kinds.Open ▸ closed)
    or (call_name ▸ word kinds.Open ▸ Take (kinds.Star ∷ []) (λ found _. with_star found) ▸ closed)
    or (call_name ▸ word kinds.Open ▸ maybe (word kinds.Distinct) ▸ commas expr ▸ closed)

-- "(" expr ")"
unfoldable pub parenthesis : Rule Seen Seen
parenthesis = word kinds.Open ▸ expr ▸ closed

-- ("+" | "-") prim
unfoldable pub signed_prim : Rule Seen Seen
signed_prim = Take signs (λ found _. found) ▸ prim ▸ Give not_alone

-- Conditions.

-- compare value
unfoldable pub compared : Rule NameUse Condition
compared = Take comparisons beside_kind ▸ also value (λ s v. Compared s.0 (compare_of s.1) v)

-- compare column
unfoldable pub compared_turned : Rule Literal Condition
compared_turned = Take comparisons beside_kind ▸ also column (λ s c. Compared c (turned (compare_of s.1)) s.0)

-- "=" column
unfoldable pub tied : Rule NameUse Condition
tied = word kinds.Equal ▸ also column (λ c other. Tied c other)

-- BETWEEN value AND value
unfoldable pub between : Rule NameUse Condition
between =
    word kinds.Between ▸ also value beside ▸ word kinds.And ▸ also value (λ s high. Between s.0 s.1 high)

-- value { "," value }, and how many
unfoldable pub values : Rule (Unit {0}) ℕ
values = also value (λ _ _. 1) ▸ any (word kinds.Comma ▸ also value (λ n _. n + 1))

-- IN "(" value { "," value } ")"
unfoldable pub one_of : Rule NameUse Condition
one_of = word kinds.In ▸ word kinds.Open ▸ also values beside ▸ Take (kinds.Close ∷ []) (λ s _. OneOf s.0 s.1)

-- LIKE value
unfoldable pub like : Rule NameUse Condition
like = word kinds.Like ▸ also value (λ c _. Like c)

-- cond = "(" conds ")" | column compare value | value compare column | column "=" column
--      | column BETWEEN value AND value | column IN "(" value { "," value } ")"
--      | column LIKE value | column IS [NOT] NULL
-- Here all but the first alternative.
unfoldable pub plain_cond : Rule (Unit {0}) Condition
plain_cond =
    (column ▸ compared)
    or (value ▸ compared_turned)
    or (column ▸ tied)
    or (column ▸ between)
    or (column ▸ one_of)
    or (column ▸ like)
    or (column ▸ null_test)

-- cond, put behind those before
unfoldable pub cond : Rule (List Condition) (List Condition)
cond = Nest Conditions or behind plain_cond

-- conds = cond { AND cond }
unfoldable pub conds : Rule (List Condition) (List Condition)
conds = cond ▸ any (word kinds.And ▸ cond)

-- "(" conds ")"
unfoldable pub nested_conds : Rule (List Condition) (List Condition)
nested_conds = word kinds.Open ▸ conds ▸ word kinds.Close

-- [WHERE conds]
unfoldable pub where_conds : Rule (List Condition) (List Condition)
where_conds = maybe (word kinds.Where ▸ conds)

-- SELECT.

-- item = "*" | name "." "*" | expr [[AS] name]
unfoldable pub item : Rule (Unit {0}) ParsedItem
item =
    Take (kinds.Star ∷ []) (λ _ _. items.Star)
    or (Take names (λ _ p. p.span) ▸ word kinds.Point ▸ Take (kinds.Star ∷ []) (λ name _. items.SlotStar name))
    or (Give (λ _. nothing_found) ▸ expr ▸ also alias (λ found name. items.Made (expr_of found) name))

-- test = expr compare expr
unfoldable pub test : Rule Seen Seen
test = expr ▸ Take comparisons (λ found _. found) ▸ expr

-- order = expr [ASC | DESC]
unfoldable pub order : Rule (Unit {0}) ParsedOrder
order = Give (λ _. nothing_found) ▸ expr ▸ direction

-- source { "," source | [INNER] JOIN source ON conds }
unfoldable pub sources : Rule ParsedSelect ParsedSelect
sources =
    also source with_source
    ▸ any ((word kinds.Comma ▸ also source with_source)
    or (maybe (word kinds.Inner) ▸ word kinds.Join) ▸ also source with_source ▸ word kinds.On ▸ Use conditions_of conds with_conditions)

-- [HAVING test { AND test }]
unfoldable pub having : Rule ParsedSelect ParsedSelect
having =
    maybe (word kinds.Having ▸ Use (λ _. nothing_found) (test ▸ any (word kinds.And ▸ test)) (λ select found. with_having select found.uses))

-- [ORDER BY order { "," order }]
unfoldable pub orders : Rule ParsedSelect ParsedSelect
orders = maybe (word kinds.Order ▸ word kinds.By ▸ Use order_of (commas (behind order)) with_order)

-- [ALL | DISTINCT] item { "," item } FROM source { "," source | [INNER] JOIN source ON conds }
-- [WHERE conds] [GROUP BY column { "," column }] [HAVING test { AND test }]
-- [ORDER BY order { "," order }] [LIMIT count [OFFSET count]]
unfoldable pub select_rest : Rule (Unit {0}) ParsedSelect
select_rest =
    Give (λ _. empty_select)
    ▸ (quantifier ▸ Use items_of (commas (behind item)) with_items ▸ word kinds.From ▸ sources)
    ▸ Use conditions_of where_conds with_conditions
    ▸ (group_part ▸ having)
    ▸ (orders ▸ Use (λ _. tt) limit_part (λ select _. select))

-- The other statements.

-- row = "(" expr { "," expr } ")"
unfoldable pub row : Rule InsertParts InsertParts
row =
    word kinds.Open ▸ Use values_of (commas expr) with_values ▸ Take (kinds.Close ∷ []) (λ parts _. with_row parts)

-- INTO name ["(" name { "," name } ")"] VALUES row { "," row }
unfoldable pub insert_rest : Rule (Unit {0}) InsertParts
insert_rest =
    insert_table ▸ Use insert_columns_of insert_columns with_insert_columns ▸ word kinds.Values ▸ commas row

-- name "=" expr
unfoldable pub assignment : Rule UpdateParts UpdateParts
assignment = set_column ▸ Use set_values_of expr with_set_values

-- source SET name "=" expr { "," name "=" expr } [WHERE conds]
unfoldable pub update_rest : Rule (Unit {0}) UpdateParts
update_rest =
    also source (λ _ x. empty_update x)
    ▸ word kinds.Set
    ▸ commas assignment
    ▸ Use update_conditions_of where_conds with_update_conditions

-- FROM source [WHERE conds]
unfoldable pub delete_rest : Rule (Unit {0}) Body
delete_rest = word kinds.From ▸ source ▸ Use (λ _. []) where_conds (λ x all. bodies.Delete x all)

-- Workloads. The first terminal of a statement gives its place and weight.

-- select = SELECT [ALL | DISTINCT] ..
unfoldable pub select : Rule Progress Progress
select =
    Take (kinds.Select ∷ []) beside ▸ also select_rest (λ s select. with_statement s.0 s.1 (bodies.Select select))

-- insert = INSERT INTO ..
unfoldable pub insert : Rule Progress Progress
insert =
    Take (kinds.Insert ∷ []) beside ▸ also insert_rest (λ s parts. with_statement s.0 s.1 (insert_body parts))

-- update = UPDATE source ..
unfoldable pub update : Rule Progress Progress
update =
    Take (kinds.Update ∷ []) beside ▸ also update_rest (λ s parts. with_statement s.0 s.1 (update_body parts))

-- delete = DELETE FROM ..
unfoldable pub delete : Rule Progress Progress
delete = Take (kinds.Delete ∷ []) beside ▸ also delete_rest (λ s body. with_statement s.0 s.1 body)

-- statement = select | insert | update | delete
unfoldable pub statement : Rule Progress Progress
statement = select or insert or update or delete

-- workload = [statement] { ";" [statement] }
unfoldable pub workload : Rule Progress Progress
workload = maybe statement ▸ any (word kinds.Semicolon ▸ maybe statement)

-- the rules behind the nested forms
unfoldable pub grammar : Grammar
grammar Conditions = nested_conds
grammar Parenthesis = parenthesis
grammar Call = call
grammar Signed = signed_prim

-- A rule by which workloads are read and a printed one say the same: the same terminals lead from the same start to the
-- same end, however many levels may nest.
abbrev pub MeanTheSame : {A B : Type 0} → Rule A B → Rule A B → Type 0
MeanTheSame {A} {B} read printed =
    (levels : ℕ) (start : A) (terminals : List Terminal) (end : B) →
    IsRead factored.grammar levels read start terminals end ↔ IsRead grammar levels printed start terminals end

-- Workloads are read by the grammar that is printed: where a production is read by another rule than it is printed by,
-- both mean the same.
pub record IsAsPrinted : Type 0 where
  pub workload_rule : MeanTheSame factored.workload workload
  pub statement_rule : MeanTheSame factored.statement statement
  pub select_rule : MeanTheSame factored.select_statement select
  pub item_rule : MeanTheSame factored.item_value item
  pub source_rule : MeanTheSame factored.source source
  pub conds_rule : MeanTheSame factored.conditions conds
  pub cond_rule : MeanTheSame factored.condition cond
  pub test_rule : MeanTheSame factored.having_test test
  pub order_rule : MeanTheSame factored.order_value order
  pub insert_rule : MeanTheSame factored.insert_statement insert
  pub row_rule : MeanTheSame factored.row row
  pub update_rule : MeanTheSame factored.update_statement update
  pub delete_rule : MeanTheSame factored.delete_statement delete
  pub expr_rule : MeanTheSame factored.expression expr
  pub prim_rule : MeanTheSame factored.operand prim
  pub call_rule : MeanTheSame (call_name ▸ factored.call) call
  pub value_rule : MeanTheSame factored.value value
