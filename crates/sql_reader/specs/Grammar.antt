-- The grammar of workloads as rules: one for each production of docs/FORMATS.md, factored so that one look ahead
-- tells its alternatives apart. The comment of a rule is the production, or the part of one, that it stands for.
use Rattle.std.specs.Prelude.{ℕ, ◌+◌, true, false, List, [], ◌∷◌, ◌++◌, Option, Some, None}
use Rattle.sql_tokens.specs.declared.token.Span.{Span}
use Rattle.sql_reader.specs.declared.kind.TerminalKind.{TerminalKind}
use Rattle.sql_reader.specs.declared.kind.TerminalKind.TheVariants as kinds
use Rattle.sql_reader.specs.declared.terminal.Terminal.{Terminal}
use Rattle.sql_reader.specs.declared.seen.Seen.{Seen}
use Rattle.sql_reader.specs.declared.parsed.NameUse.{NameUse}
use Rattle.sql_reader.specs.declared.parsed.ParsedItem.{ParsedItem}
use Rattle.sql_reader.specs.declared.parsed.ParsedItem.TheVariants as items
use Rattle.sql_reader.specs.declared.parsed.Source.{Source}
use Rattle.sql_reader.specs.declared.parsed.Literal.{Literal}
use Rattle.sql_reader.specs.declared.parsed.Compare.TheVariants as compares
use Rattle.sql_reader.specs.declared.parsed.Condition.{Condition}
use Rattle.sql_reader.specs.declared.parsed.Condition.TheVariants.{Compared, Tied, Between, OneOf, Like, IsNull, NotNull}
use Rattle.sql_reader.specs.declared.parsed.ParsedOrder.{ParsedOrder}
use Rattle.sql_reader.specs.declared.parsed.ParsedSelect.{ParsedSelect}
use Rattle.sql_reader.specs.declared.parsed.Body.{Body}
use Rattle.sql_reader.specs.declared.parsed.Body.TheVariants as bodies
use Rattle.sql_reader.specs.declared.parts.InsertParts.{InsertParts}
use Rattle.sql_reader.specs.declared.parts.UpdateParts.{UpdateParts}
use Rattle.sql_reader.specs.declared.parts.Progress.{Progress}
use Rattle.sql_reader.specs.Rule.{Nesting, Rule, Give, Take, Then, Use, Either, Many, Nest, Conditions, Parenthesis, Call, Signed, Grammar, Borders}
use Rattle.sql_reader.specs.Values.{plain_column, column_of_source, day_literal, literal_of, signed, compare_of, turned, nothing_found, with_form, not_alone, with_use, with_star, called, beside, beside_kind, beside_span, with_distinct, with_source, with_conditions, with_group, with_having, with_order, with_items, with_values, with_row, with_insert_columns, with_set_columns, with_set_values, with_update_conditions, conditions_of, group_of, order_of, items_of, values_of, insert_columns_of, set_columns_of, set_values_of, update_conditions_of, literal_form, expr_of, empty_select, empty_insert, insert_body, empty_update, update_body, with_statement}

-- name = Word that isn't reserved | Quoted
abbrev pub names : List TerminalKind
names = kinds.Name ∷ kinds.Aggregate ∷ kinds.Date ∷ []

-- the names but for DATE
abbrev pub plain_names : List TerminalKind
plain_names = kinds.Name ∷ kinds.Aggregate ∷ []

-- the literals of one terminal
abbrev pub literals : List TerminalKind
literals = kinds.Whole ∷ kinds.Decimal ∷ kinds.Text ∷ kinds.Day ∷ kinds.Null ∷ kinds.Question ∷ []

-- "+" | "-"
abbrev pub signs : List TerminalKind
signs = kinds.Plus ∷ kinds.Minus ∷ []

-- "+" | "-" | "*" | "/" | "%" | "||"
abbrev pub operators : List TerminalKind
operators = kinds.Plus ∷ kinds.Minus ∷ kinds.Star ∷ kinds.Operator ∷ []

-- compare = "=" | "<>" | "!=" | "<" | "<=" | ">" | ">="
abbrev pub comparisons : List TerminalKind
comparisons = kinds.Equal ∷ kinds.NotEqual ∷ kinds.Below ∷ kinds.Above ∷ []

-- the words with which statements begin
abbrev pub starts : List TerminalKind
starts = kinds.Select ∷ kinds.Insert ∷ kinds.Update ∷ kinds.Delete ∷ []

-- column, behind its first name: [ "." name ]
unfoldable pub after_name : Rule Span NameUse
after_name = Either (kinds.Point ∷ []) (Then (Take (kinds.Point ∷ []) (λ s _. s)) (Take names (λ s p. column_of_source s p.span))) (Give plain_column)

-- column = name [ "." name ]
unfoldable pub column : Rule (Unit {0}) NameUse
column = Then (Take names (λ _ p. p.span)) after_name

-- [[AS] name]
unfoldable pub alias : Rule (Unit {0}) (Option Span)
alias = Either (kinds.As ∷ []) (Then (Take (kinds.As ∷ []) (λ u _. u)) (Take names (λ _ p. Some p.span))) (Either names (Take names (λ _ p. Some p.span)) (Give (λ _. None)))

-- source = name [[AS] name]
unfoldable pub source : Rule (Unit {0}) Source
source = Then (Take names (λ _ p. p.span)) (Use (λ _. tt) alias (λ table other. record { table = table; alias = other }))

-- value, but for DATE: ("+" | "-") (Whole | Decimal), or one terminal
unfoldable pub plain_value : Rule (Unit {0}) Literal
plain_value = Either signs (Then (Take signs (λ _ p. p.kind)) (Take (kinds.Whole ∷ kinds.Decimal ∷ []) (λ sign p. signed sign p))) (Take literals (λ _ p. literal_of p))

-- value = literal | ("+" | "-") (Whole | Decimal)
unfoldable pub value : Rule (Unit {0}) Literal
value = Either (kinds.Date ∷ []) (Then (Take (kinds.Date ∷ []) (λ u _. u)) (Take (kinds.Day ∷ []) (λ _ p. day_literal p))) plain_value

-- a name in an expression: the parentheses of a call, or the end of a column
unfoldable pub called_name : Rule (Seen × Terminal) Seen
called_name = Either (kinds.Open ∷ []) (Use (λ s. called s.0 s.1.kind) (Nest Call) (λ _ found. found)) (Give (λ s. with_use s.0 (plain_column s.1.span)))

-- behind a name in an expression: "." name, a call, or nothing
unfoldable pub after_operand_name : Rule (Seen × Terminal) Seen
after_operand_name = Either (kinds.Point ∷ []) (Then (Take (kinds.Point ∷ []) (λ s _. s)) (Take names (λ s p. with_use s.0 (column_of_source s.1.span p.span)))) called_name

-- behind DATE in an expression: a date, or what stands behind a name
unfoldable pub after_operand_date : Rule (Seen × Terminal) Seen
after_operand_date = Either (kinds.Day ∷ []) (Take (kinds.Day ∷ []) (λ s _. not_alone s.0)) after_operand_name

-- prim, where it begins with no name
unfoldable pub other_operand : Rule Seen Seen
other_operand = Either (kinds.Open ∷ []) (Nest Parenthesis) (Either signs (Nest Signed) (Take literals (λ found p. with_form (literal_form p.kind p.number) found)))

-- prim = ("+" | "-") prim | "(" expr ")" | literal | column | call
unfoldable pub operand : Rule Seen Seen
operand = Either (kinds.Date ∷ []) (Then (Take (kinds.Date ∷ []) beside) after_operand_date) (Either plain_names (Then (Take plain_names beside) after_operand_name) other_operand)

-- an operator and its right side
unfoldable pub operation : Rule Seen Seen
operation = Then (Take operators (λ found _. found)) (Then operand (Give not_alone))

-- { ("+" | "-" | "*" | "/" | "%" | "||") prim }
unfoldable pub operations : Rule Seen Seen
operations = Many operators operation

-- expr = prim { ("+" | "-" | "*" | "/" | "%" | "||") prim }
unfoldable pub expression : Rule Seen Seen
expression = Then operand operations

-- "," expr
unfoldable pub another_expression : Rule Seen Seen
another_expression = Then (Take (kinds.Comma ∷ []) (λ found _. found)) expression

-- { "," expr }
unfoldable pub more_expressions : Rule Seen Seen
more_expressions = Many (kinds.Comma ∷ []) another_expression

-- expr { "," expr }
unfoldable pub expressions : Rule Seen Seen
expressions = Then expression more_expressions

-- "*" ")" of a call
unfoldable pub star_argument : Rule Seen Seen
star_argument = Then (Take (kinds.Star ∷ []) (λ found _. with_star found)) (Take (kinds.Close ∷ []) (λ found _. not_alone found))

-- [DISTINCT]
unfoldable pub maybe_distinct : Rule Seen Seen
maybe_distinct = Either (kinds.Distinct ∷ []) (Take (kinds.Distinct ∷ []) (λ found _. found)) (Give (λ found. found))

-- [DISTINCT] expr { "," expr } ")"
unfoldable pub listed_arguments : Rule Seen Seen
listed_arguments = Then maybe_distinct (Then expressions (Take (kinds.Close ∷ []) (λ found _. not_alone found)))

-- behind the "(" of a call: ")", "*" ")" or [DISTINCT] expr { "," expr } ")"
unfoldable pub arguments : Rule Seen Seen
arguments = Either (kinds.Close ∷ []) (Take (kinds.Close ∷ []) (λ found _. not_alone found)) (Either (kinds.Star ∷ []) star_argument listed_arguments)

-- the parentheses of a call
unfoldable pub call : Rule Seen Seen
call = Then (Take (kinds.Open ∷ []) (λ found _. found)) arguments

-- "(" expr ")"
unfoldable pub parenthesis : Rule Seen Seen
parenthesis = Then (Take (kinds.Open ∷ []) (λ found _. found)) (Then expression (Take (kinds.Close ∷ []) (λ found _. not_alone found)))

-- ("+" | "-") prim
unfoldable pub signed_operand : Rule Seen Seen
signed_operand = Then (Take signs (λ found _. found)) (Then operand (Give not_alone))

-- behind a value: compare column
unfoldable pub turned_test : Rule Literal Condition
turned_test = Then (Take comparisons beside_kind) (Use (λ _. tt) column (λ s c. Compared c (turned (compare_of s.1)) s.0))

-- column "=" column, behind the first name of the second
unfoldable pub tied_test : Rule (NameUse × Span) Condition
tied_test = Use (λ s. s.1) after_name (λ s other. Tied s.0 other)

-- column "=" DATE: a date, or what stands behind a name
unfoldable pub after_equal_date : Rule (NameUse × Span) Condition
after_equal_date = Either (kinds.Day ∷ []) (Take (kinds.Day ∷ []) (λ s p. Compared s.0 compares.Equal (day_literal p))) tied_test

-- behind column "=": value or column
unfoldable pub equal_test : Rule NameUse Condition
equal_test = Either (kinds.Date ∷ []) (Then (Take (kinds.Date ∷ []) beside_span) after_equal_date) (Either plain_names (Then (Take plain_names beside_span) tied_test) (Use (λ _. tt) plain_value (λ c v. Compared c compares.Equal v)))

-- behind a column: another comparison than "=" and a value
unfoldable pub unequal_test : Rule NameUse Condition
unequal_test = Then (Take (kinds.NotEqual ∷ kinds.Below ∷ kinds.Above ∷ []) beside_kind) (Use (λ _. tt) value (λ s v. Compared s.0 (compare_of s.1) v))

-- BETWEEN value AND value
unfoldable pub between_test : Rule NameUse Condition
between_test = Then (Take (kinds.Between ∷ []) (λ c _. c)) (Then (Use (λ _. tt) value beside) (Then (Take (kinds.And ∷ []) (λ s _. s)) (Use (λ _. tt) value (λ s high. Between s.0 s.1 high))))

-- "," value
unfoldable pub in_value : Rule ℕ ℕ
in_value = Then (Take (kinds.Comma ∷ []) (λ n _. n)) (Use (λ _. tt) value (λ n _. n + 1))

-- { "," value }
unfoldable pub more_in_values : Rule ℕ ℕ
more_in_values = Many (kinds.Comma ∷ []) in_value

-- value { "," value }, and how many
unfoldable pub in_values : Rule (Unit {0}) ℕ
in_values = Then (Use (λ _. tt) value (λ _ _. 1)) more_in_values

-- IN "(" value { "," value } ")"
unfoldable pub in_test : Rule NameUse Condition
in_test = Then (Take (kinds.In ∷ []) (λ c _. c)) (Then (Take (kinds.Open ∷ []) (λ c _. c)) (Then (Use (λ _. tt) in_values beside) (Take (kinds.Close ∷ []) (λ s _. OneOf s.0 s.1))))

-- LIKE value
unfoldable pub like_test : Rule NameUse Condition
like_test = Then (Take (kinds.Like ∷ []) (λ c _. c)) (Use (λ _. tt) value (λ c _. Like c))

-- IS [NOT] NULL
unfoldable pub null_test : Rule NameUse Condition
null_test = Then (Take (kinds.Is ∷ []) (λ c _. c)) (Either (kinds.Not ∷ []) (Then (Take (kinds.Not ∷ []) (λ c _. c)) (Take (kinds.Null ∷ []) (λ c _. NotNull c))) (Take (kinds.Null ∷ []) (λ c _. IsNull c)))

-- what a test says of a column
unfoldable pub column_test : Rule NameUse Condition
column_test = Either (kinds.Equal ∷ []) (Then (Take (kinds.Equal ∷ []) (λ c _. c)) equal_test) (Either (kinds.NotEqual ∷ kinds.Below ∷ kinds.Above ∷ []) unequal_test (Either (kinds.Between ∷ []) between_test (Either (kinds.In ∷ []) in_test (Either (kinds.Like ∷ []) like_test null_test))))

-- a test behind the first name of its column
unfoldable pub after_test_name : Rule Span Condition
after_test_name = Then after_name column_test

-- a test behind DATE: a date, or what stands behind a name
unfoldable pub after_test_date : Rule Span Condition
after_test_date = Either (kinds.Day ∷ []) (Then (Take (kinds.Day ∷ []) (λ _ p. day_literal p)) turned_test) after_test_name

-- cond, but for "(" conds ")"
unfoldable pub plain_condition : Rule (Unit {0}) Condition
plain_condition = Either (kinds.Date ∷ []) (Then (Take (kinds.Date ∷ []) (λ _ p. p.span)) after_test_date) (Either plain_names (Then (Take plain_names (λ _ p. p.span)) after_test_name) (Then plain_value turned_test))

-- cond, put behind those before
unfoldable pub condition : Rule (List Condition) (List Condition)
condition = Either (kinds.Open ∷ []) (Nest Conditions) (Use (λ _. tt) plain_condition (λ before c. before ++ c ∷ []))

-- AND cond
unfoldable pub and_condition : Rule (List Condition) (List Condition)
and_condition = Then (Take (kinds.And ∷ []) (λ before _. before)) condition

-- { AND cond }
unfoldable pub more_conditions : Rule (List Condition) (List Condition)
more_conditions = Many (kinds.And ∷ []) and_condition

-- conds = cond { AND cond }
unfoldable pub conditions : Rule (List Condition) (List Condition)
conditions = Then condition more_conditions

-- "(" conds ")"
unfoldable pub nested_conditions : Rule (List Condition) (List Condition)
nested_conditions = Then (Take (kinds.Open ∷ []) (λ before _. before)) (Then conditions (Take (kinds.Close ∷ []) (λ before _. before)))

-- [WHERE conds]
unfoldable pub where_conditions : Rule (List Condition) (List Condition)
where_conditions = Either (kinds.Where ∷ []) (Then (Take (kinds.Where ∷ []) (λ before _. before)) conditions) (Give (λ before. before))

-- the rest of an expression of a select list, and [[AS] name]
unfoldable pub rest_of_item : Rule Seen ParsedItem
rest_of_item = Then operations (Use (λ _. tt) alias (λ found name. items.Made (expr_of found) name))

-- behind name ".": "*", or name and the rest of an expression
unfoldable pub after_item_point : Rule Terminal ParsedItem
after_item_point = Either (kinds.Star ∷ []) (Take (kinds.Star ∷ []) (λ name _. items.SlotStar name.span)) (Then (Take names (λ name p. with_use nothing_found (column_of_source name.span p.span))) rest_of_item)

-- an item behind its first name
unfoldable pub after_item_name : Rule Terminal ParsedItem
after_item_name = Either (kinds.Point ∷ []) (Then (Take (kinds.Point ∷ []) (λ name _. name)) after_item_point) (Then (Use (λ name. (nothing_found, name)) called_name (λ _ found. found)) rest_of_item)

-- an item behind DATE
unfoldable pub after_item_date : Rule Terminal ParsedItem
after_item_date = Either (kinds.Day ∷ []) (Then (Take (kinds.Day ∷ []) (λ _ _. nothing_found)) rest_of_item) after_item_name

-- an item that begins with no name
unfoldable pub literal_item : Rule (Unit {0}) ParsedItem
literal_item = Then (Use (λ _. nothing_found) other_operand (λ _ found. found)) rest_of_item

-- item = "*" | name "." "*" | expr [[AS] name]
unfoldable pub item_value : Rule (Unit {0}) ParsedItem
item_value = Either (kinds.Star ∷ []) (Take (kinds.Star ∷ []) (λ _ _. items.Star)) (Either (kinds.Date ∷ []) (Then (Take (kinds.Date ∷ []) (λ _ p. p)) after_item_date) (Either plain_names (Then (Take plain_names (λ _ p. p)) after_item_name) literal_item))

-- item, put behind those before
unfoldable pub one_item : Rule (List ParsedItem) (List ParsedItem)
one_item = Use (λ _. tt) item_value (λ before x. before ++ x ∷ [])

-- "," item
unfoldable pub another_item : Rule (List ParsedItem) (List ParsedItem)
another_item = Then (Take (kinds.Comma ∷ []) (λ before _. before)) one_item

-- { "," item }
unfoldable pub more_items : Rule (List ParsedItem) (List ParsedItem)
more_items = Many (kinds.Comma ∷ []) another_item

-- item { "," item }
unfoldable pub item_list : Rule (List ParsedItem) (List ParsedItem)
item_list = Then one_item more_items

-- [ALL | DISTINCT]
unfoldable pub quantifier : Rule ParsedSelect ParsedSelect
quantifier = Either (kinds.All ∷ []) (Take (kinds.All ∷ []) (λ select _. select)) (Either (kinds.Distinct ∷ []) (Take (kinds.Distinct ∷ []) (λ select _. with_distinct select)) (Give (λ select. select)))

-- source, put behind those before
unfoldable pub one_source : Rule ParsedSelect ParsedSelect
one_source = Use (λ _. tt) source with_source

-- [INNER] JOIN
unfoldable pub join_word : Rule ParsedSelect ParsedSelect
join_word = Then (Either (kinds.Inner ∷ []) (Take (kinds.Inner ∷ []) (λ select _. select)) (Give (λ select. select))) (Take (kinds.Join ∷ []) (λ select _. select))

-- ON conds
unfoldable pub on_part : Rule ParsedSelect ParsedSelect
on_part = Then (Take (kinds.On ∷ []) (λ select _. select)) (Use conditions_of conditions with_conditions)

-- [INNER] JOIN source ON conds
unfoldable pub joined_source : Rule ParsedSelect ParsedSelect
joined_source = Then join_word (Then one_source on_part)

-- "," source, or [INNER] JOIN source ON conds
unfoldable pub another_source : Rule ParsedSelect ParsedSelect
another_source = Either (kinds.Comma ∷ []) (Then (Take (kinds.Comma ∷ []) (λ select _. select)) one_source) joined_source

-- { "," source | [INNER] JOIN source ON conds }
unfoldable pub more_sources : Rule ParsedSelect ParsedSelect
more_sources = Many (kinds.Comma ∷ kinds.Inner ∷ kinds.Join ∷ []) another_source

-- source { "," source | [INNER] JOIN source ON conds }
unfoldable pub source_list : Rule ParsedSelect ParsedSelect
source_list = Then one_source more_sources

-- [WHERE conds] of a SELECT
unfoldable pub where_part : Rule ParsedSelect ParsedSelect
where_part = Use conditions_of where_conditions with_conditions

-- column, put behind those before
unfoldable pub one_column : Rule (List NameUse) (List NameUse)
one_column = Use (λ _. tt) column (λ before c. before ++ c ∷ [])

-- "," column
unfoldable pub another_column : Rule (List NameUse) (List NameUse)
another_column = Then (Take (kinds.Comma ∷ []) (λ before _. before)) one_column

-- { "," column }
unfoldable pub more_columns : Rule (List NameUse) (List NameUse)
more_columns = Many (kinds.Comma ∷ []) another_column

-- column { "," column }
unfoldable pub column_list : Rule (List NameUse) (List NameUse)
column_list = Then one_column more_columns

-- [GROUP BY column { "," column }]
unfoldable pub group_part : Rule ParsedSelect ParsedSelect
group_part = Either (kinds.Group ∷ []) (Then (Take (kinds.Group ∷ []) (λ select _. select)) (Then (Take (kinds.By ∷ []) (λ select _. select)) (Use group_of column_list with_group))) (Give (λ select. select))

-- test = expr compare expr
unfoldable pub having_test : Rule Seen Seen
having_test = Then expression (Then (Take comparisons (λ found _. found)) expression)

-- AND test
unfoldable pub another_having_test : Rule Seen Seen
another_having_test = Then (Take (kinds.And ∷ []) (λ found _. found)) having_test

-- { AND test }
unfoldable pub more_having_tests : Rule Seen Seen
more_having_tests = Many (kinds.And ∷ []) another_having_test

-- test { AND test }
unfoldable pub having_tests : Rule Seen Seen
having_tests = Then having_test more_having_tests

-- [HAVING test { AND test }]
unfoldable pub having_part : Rule ParsedSelect ParsedSelect
having_part = Either (kinds.Having ∷ []) (Then (Take (kinds.Having ∷ []) (λ select _. select)) (Use (λ _. nothing_found) having_tests (λ select found. with_having select found.uses))) (Give (λ select. select))

-- [ASC | DESC]
unfoldable pub direction : Rule Seen ParsedOrder
direction = Either (kinds.Desc ∷ []) (Take (kinds.Desc ∷ []) (λ found _. record { expr = expr_of found; down = true })) (Either (kinds.Asc ∷ []) (Take (kinds.Asc ∷ []) (λ found _. record { expr = expr_of found; down = false })) (Give (λ found. record { expr = expr_of found; down = false })))

-- order = expr [ASC | DESC]
unfoldable pub order_value : Rule (Unit {0}) ParsedOrder
order_value = Then (Give (λ _. nothing_found)) (Then expression direction)

-- order = expr [ASC | DESC], put behind those before
unfoldable pub one_order : Rule (List ParsedOrder) (List ParsedOrder)
one_order = Use (λ _. tt) order_value (λ before x. before ++ x ∷ [])

-- "," order
unfoldable pub another_order : Rule (List ParsedOrder) (List ParsedOrder)
another_order = Then (Take (kinds.Comma ∷ []) (λ before _. before)) one_order

-- { "," order }
unfoldable pub more_orders : Rule (List ParsedOrder) (List ParsedOrder)
more_orders = Many (kinds.Comma ∷ []) another_order

-- order { "," order }
unfoldable pub order_list : Rule (List ParsedOrder) (List ParsedOrder)
order_list = Then one_order more_orders

-- [ORDER BY order { "," order }]
unfoldable pub order_part : Rule ParsedSelect ParsedSelect
order_part = Either (kinds.Order ∷ []) (Then (Take (kinds.Order ∷ []) (λ select _. select)) (Then (Take (kinds.By ∷ []) (λ select _. select)) (Use order_of order_list with_order))) (Give (λ select. select))

-- [OFFSET count]
unfoldable pub offset_part : Rule (Unit {0}) (Unit {0})
offset_part = Either (kinds.Offset ∷ []) (Then (Take (kinds.Offset ∷ []) (λ u _. u)) (Take (kinds.Whole ∷ kinds.Question ∷ []) (λ u _. u))) (Give (λ u. u))

-- [LIMIT count [OFFSET count]]
unfoldable pub limit_part : Rule (Unit {0}) (Unit {0})
limit_part = Either (kinds.Limit ∷ []) (Then (Take (kinds.Limit ∷ []) (λ u _. u)) (Then (Take (kinds.Whole ∷ kinds.Question ∷ []) (λ u _. u)) offset_part)) (Give (λ u. u))

-- FROM source { "," source | [INNER] JOIN source ON conds }
unfoldable pub from_part : Rule ParsedSelect ParsedSelect
from_part = Then (Take (kinds.From ∷ []) (λ select _. select)) source_list

-- a SELECT up to its sources, behind SELECT
unfoldable pub select_head : Rule ParsedSelect ParsedSelect
select_head = Then quantifier (Then (Use items_of item_list with_items) from_part)

-- [GROUP BY column { "," column }] [HAVING test { AND test }]
unfoldable pub group_and_having : Rule ParsedSelect ParsedSelect
group_and_having = Then group_part having_part

-- [ORDER BY order { "," order }] [LIMIT count [OFFSET count]]
unfoldable pub order_and_limit : Rule ParsedSelect ParsedSelect
order_and_limit = Then order_part (Use (λ _. tt) limit_part (λ select _. select))

-- a SELECT behind its sources
unfoldable pub select_tail : Rule ParsedSelect ParsedSelect
select_tail = Then where_part (Then group_and_having order_and_limit)

-- select, behind SELECT
unfoldable pub select_rest : Rule (Unit {0}) ParsedSelect
select_rest = Then (Give (λ _. empty_select)) (Then select_head select_tail)

-- a name, put behind those before as a column
unfoldable pub name_as_column : Rule (List NameUse) (List NameUse)
name_as_column = Take names (λ before p. before ++ plain_column p.span ∷ [])

-- "," name
unfoldable pub another_name : Rule (List NameUse) (List NameUse)
another_name = Then (Take (kinds.Comma ∷ []) (λ before _. before)) name_as_column

-- { "," name }
unfoldable pub more_names : Rule (List NameUse) (List NameUse)
more_names = Many (kinds.Comma ∷ []) another_name

-- name { "," name }
unfoldable pub name_list : Rule (List NameUse) (List NameUse)
name_list = Then name_as_column more_names

-- ["(" name { "," name } ")"]
unfoldable pub insert_columns : Rule (List NameUse) (List NameUse)
insert_columns = Either (kinds.Open ∷ []) (Then (Take (kinds.Open ∷ []) (λ before _. before)) (Then name_list (Take (kinds.Close ∷ []) (λ before _. before)))) (Give (λ before. before))

-- expr { "," expr } of a row
unfoldable pub row_values : Rule InsertParts InsertParts
row_values = Use values_of expressions with_values

-- row = "(" expr { "," expr } ")"
unfoldable pub row : Rule InsertParts InsertParts
row = Then (Take (kinds.Open ∷ []) (λ parts _. parts)) (Then row_values (Take (kinds.Close ∷ []) (λ parts _. with_row parts)))

-- "," row
unfoldable pub another_row : Rule InsertParts InsertParts
another_row = Then (Take (kinds.Comma ∷ []) (λ parts _. parts)) row

-- { "," row }
unfoldable pub more_rows : Rule InsertParts InsertParts
more_rows = Many (kinds.Comma ∷ []) another_row

-- row { "," row }
unfoldable pub rows : Rule InsertParts InsertParts
rows = Then row more_rows

-- INTO name
unfoldable pub insert_table : Rule (Unit {0}) InsertParts
insert_table = Then (Take (kinds.Into ∷ []) (λ u _. u)) (Take names (λ _ p. empty_insert p.span))

-- insert, behind INSERT
unfoldable pub insert_rest : Rule (Unit {0}) InsertParts
insert_rest = Then insert_table (Then (Use insert_columns_of insert_columns with_insert_columns) (Then (Take (kinds.Values ∷ []) (λ parts _. parts)) rows))

-- name "="
unfoldable pub set_column : Rule UpdateParts UpdateParts
set_column = Then (Use set_columns_of name_as_column with_set_columns) (Take (kinds.Equal ∷ []) (λ parts _. parts))

-- name "=" expr
unfoldable pub assignment : Rule UpdateParts UpdateParts
assignment = Then set_column (Use set_values_of expression with_set_values)

-- "," name "=" expr
unfoldable pub another_assignment : Rule UpdateParts UpdateParts
another_assignment = Then (Take (kinds.Comma ∷ []) (λ parts _. parts)) assignment

-- { "," name "=" expr }
unfoldable pub more_assignments : Rule UpdateParts UpdateParts
more_assignments = Many (kinds.Comma ∷ []) another_assignment

-- name "=" expr { "," name "=" expr }
unfoldable pub assignments : Rule UpdateParts UpdateParts
assignments = Then assignment more_assignments

-- the source of an UPDATE
unfoldable pub update_source : Rule (Unit {0}) UpdateParts
update_source = Use (λ u. u) source (λ _ x. empty_update x)

-- update, behind UPDATE
unfoldable pub update_rest : Rule (Unit {0}) UpdateParts
update_rest = Then update_source (Then (Take (kinds.Set ∷ []) (λ parts _. parts)) (Then assignments (Use update_conditions_of where_conditions with_update_conditions)))

-- [WHERE conds] of a DELETE
unfoldable pub delete_conditions : Rule Source Body
delete_conditions = Use (λ _. []) where_conditions (λ x all. bodies.Delete x all)

-- delete, behind DELETE
unfoldable pub delete_rest : Rule (Unit {0}) Body
delete_rest = Then (Take (kinds.From ∷ []) (λ u _. u)) (Then source delete_conditions)

-- select, behind SELECT, as a body
unfoldable pub select : Rule (Unit {0}) Body
select = Use (λ u. u) select_rest (λ _ select. bodies.Select select)

-- insert, behind INSERT, as a body
unfoldable pub insert : Rule (Unit {0}) Body
insert = Use (λ u. u) insert_rest (λ _ parts. insert_body parts)

-- update, behind UPDATE, as a body
unfoldable pub update : Rule (Unit {0}) Body
update = Use (λ u. u) update_rest (λ _ parts. update_body parts)

-- select, put behind the statements before
unfoldable pub select_statement : Rule Progress Progress
select_statement = Then (Take (kinds.Select ∷ []) beside) (Use (λ _. tt) select (λ s body. with_statement s.0 s.1 body))

-- insert, put behind the statements before
unfoldable pub insert_statement : Rule Progress Progress
insert_statement = Then (Take (kinds.Insert ∷ []) beside) (Use (λ _. tt) insert (λ s body. with_statement s.0 s.1 body))

-- update, put behind the statements before
unfoldable pub update_statement : Rule Progress Progress
update_statement = Then (Take (kinds.Update ∷ []) beside) (Use (λ _. tt) update (λ s body. with_statement s.0 s.1 body))

-- delete, put behind the statements before
unfoldable pub delete_statement : Rule Progress Progress
delete_statement = Then (Take (kinds.Delete ∷ []) beside) (Use (λ _. tt) delete_rest (λ s body. with_statement s.0 s.1 body))

-- statement = select | insert | update | delete
unfoldable pub statement : Rule Progress Progress
statement = Either (kinds.Select ∷ []) select_statement (Either (kinds.Insert ∷ []) insert_statement (Either (kinds.Update ∷ []) update_statement delete_statement))

-- [statement]
unfoldable pub maybe_statement : Rule Progress Progress
maybe_statement = Either starts statement (Give (λ progress. progress))

-- ";" [statement]
unfoldable pub another_statement : Rule Progress Progress
another_statement = Then (Take (kinds.Semicolon ∷ []) (λ progress _. progress)) maybe_statement

-- { ";" [statement] }
unfoldable pub more_statements : Rule Progress Progress
more_statements = Many (kinds.Semicolon ∷ []) another_statement

-- workload = [statement] { ";" [statement] }
unfoldable pub workload : Rule Progress Progress
workload = Then maybe_statement more_statements

-- the rules behind the nested forms
unfoldable pub grammar : Grammar
grammar Conditions = nested_conditions
grammar Parenthesis = parenthesis
grammar Call = call
grammar Signed = signed_operand

-- with which kinds a nested form begins, and with which it may go on where it could end too
abbrev pub first_of_nesting : Nesting → List TerminalKind
first_of_nesting Conditions = kinds.Open ∷ []
first_of_nesting Parenthesis = kinds.Open ∷ []
first_of_nesting Call = kinds.Open ∷ []
first_of_nesting Signed = signs

abbrev pub more_of_nesting : Nesting → List TerminalKind
more_of_nesting Conditions = []
more_of_nesting Parenthesis = []
more_of_nesting Call = []
more_of_nesting Signed = kinds.Point ∷ kinds.Open ∷ kinds.Day ∷ []

abbrev pub borders : Borders
borders = record { first = first_of_nesting; more = more_of_nesting }

-- how many levels nest
abbrev pub levels : ℕ
levels = 200
