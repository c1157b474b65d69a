-- What binding asks of the statements that were read, and what it keeps of what they do.
use Rattle.std.specs.Prelude.{◌≡◌, ℕ, ◌+◌, ◌<◌, ◌≤◌, ◌^◌, true, List, length, All, Option, Some}
use Rattle.sql_tokens.specs.declared.token.Span.{Span}
use Rattle.sql_reader.specs.declared.parsed.NameUse.{NameUse}
use Rattle.sql_reader.specs.declared.parsed.Source.{Source}
use Rattle.sql_reader.specs.declared.parsed.Condition.{Condition}
use Rattle.sql_reader.specs.declared.parsed.Condition.TheVariants.{Compared, Tied, Between, OneOf, Like, IsNull, NotNull}
use Rattle.sql_reader.specs.declared.parsed.Compare.{Compare}
use Rattle.sql_reader.specs.declared.parsed.Literal.{Literal}
use Rattle.sql_reader.specs.declared.parsed.Expr.{Expr}
use Rattle.sql_reader.specs.declared.parsed.ParsedItem.{ParsedItem}
use Rattle.sql_reader.specs.declared.parsed.ParsedItem.TheVariants.{SlotStar, Made}
use Rattle.sql_reader.specs.declared.parsed.ParsedOrder.{ParsedOrder}
use Rattle.sql_reader.specs.declared.parsed.ParsedSelect.{ParsedSelect}
use Rattle.sql_reader.specs.declared.parsed.Body.{Body}
use Rattle.sql_reader.specs.declared.parsed.Body.TheVariants.{Select, Insert, Update, Delete}
use Rattle.sql_reader.specs.declared.parsed.ParsedStatement.{ParsedStatement}
use Rattle.adv_base.specs.declared.limits.TheConstants.{MOST_WEIGHT, MOST_ROWS}
use Rattle.adv_base.specs.declared.workload.Work.{Work}
use Rattle.adv_base.specs.declared.workload.Work.TheVariants as works
use Rattle.adv_base.specs.declared.workload.block.Block.{Block}
use Rattle.adv_base.specs.Limits.Works.{ChangeLimits}

-- the place of a span is a number of 64 bits
abbrev pub IsShort : Span → Type 0
IsShort span = span.from + 1 < 2 ^ 64

pub record NameLimits (name_use : NameUse) : Type 0 where
  pub qualifier : (span : Span) → name_use.qualifier ≡ Some span → IsShort span
  pub name : IsShort name_use.name

pub record SourceLimits (source : Source) : Type 0 where
  pub table : IsShort source.table
  pub alias : (span : Span) → source.alias ≡ Some span → IsShort span

pub record ItemLimits (item : ParsedItem) : Type 0 where
  pub stars : (span : Span) → item ≡ SlotStar span → IsShort span
  pub made : (expr : Expr) (alias : Option Span) → item ≡ Made expr alias → All NameLimits expr.uses

abbrev pub OrderLimits : ParsedOrder → Type 0
OrderLimits order = All NameLimits order.expr.uses

-- an IN has at least one item
pub record ConditionLimits (condition : Condition) : Type 0 where
  pub items : (name : NameUse) (n : ℕ) → condition ≡ OneOf name n → 1 ≤ n
  pub compared : (name : NameUse) (compare : Compare) (literal : Literal) → condition ≡ Compared name compare literal → NameLimits name
  pub left : (left right : NameUse) → condition ≡ Tied left right → NameLimits left
  pub right : (left right : NameUse) → condition ≡ Tied left right → NameLimits right
  pub between : (name : NameUse) (low high : Literal) → condition ≡ Between name low high → NameLimits name
  pub one_of : (name : NameUse) (n : ℕ) → condition ≡ OneOf name n → NameLimits name
  pub like : (name : NameUse) → condition ≡ Like name → NameLimits name
  pub is_null : (name : NameUse) → condition ≡ IsNull name → NameLimits name
  pub not_null : (name : NameUse) → condition ≡ NotNull name → NameLimits name

pub record ConditionsLimits (conditions : List Condition) : Type 0 where
  pub most : length conditions < 2 ^ 32
  pub each : All ConditionLimits conditions

pub record SelectLimits (select : ParsedSelect) : Type 0 where
  pub items : All ItemLimits select.items
  pub sources_some : 1 ≤ length select.sources
  pub sources : All SourceLimits select.sources
  pub conditions : ConditionsLimits select.conditions
  pub group : All NameLimits select.group
  pub having : All NameLimits select.having
  pub order_most : length select.order < 2 ^ 32
  pub order : All OrderLimits select.order

-- an INSERT has 1 to 2^32 - 1 rows
pub record InsertLimits (into : Span) (listed used : List NameUse) (rows : ℕ) : Type 0 where
  pub table : IsShort into
  pub columns : All NameLimits listed
  pub uses : All NameLimits used
  pub rows_least : 1 ≤ rows
  pub rows_most : rows < 2 ^ 32

pub record UpdateLimits (over : Source) (set used : List NameUse) (tests : List Condition) : Type 0 where
  pub source : SourceLimits over
  pub columns : All NameLimits set
  pub uses : All NameLimits used
  pub conditions : ConditionsLimits tests

pub record DeleteLimits (over : Source) (tests : List Condition) : Type 0 where
  pub source : SourceLimits over
  pub conditions : ConditionsLimits tests

pub record BodyLimits (body : Body) : Type 0 where
  pub selects : (select : ParsedSelect) → body ≡ Select select → SelectLimits select
  pub inserts : (table : Span) (columns uses : List NameUse) (rows : ℕ) → body ≡ Insert table columns uses rows → InsertLimits table columns uses rows
  pub updates : (source : Source) (columns uses : List NameUse) (conditions : List Condition) → body ≡ Update source columns uses conditions → UpdateLimits source columns uses conditions
  pub deletes : (source : Source) (conditions : List Condition) → body ≡ Delete source conditions → DeleteLimits source conditions

pub record StatementLimits (statement : ParsedStatement) : Type 0 where
  pub weight_least : 1 ≤ statement.weight
  pub weight_most : statement.weight ≤ MOST_WEIGHT
  pub body : BodyLimits statement.body

-- what a statement of any weight keeps
pub record WorkLimits (work : Work) : Type 0 where
  pub selects : (block : Block) → work ≡ works.Select block → block.may_cover ≡ true
  pub updates : (block : Block) (columns : List ℕ) → work ≡ works.Update block columns → ChangeLimits block
  pub deletes : (block : Block) → work ≡ works.Delete block → ChangeLimits block
  pub inserts : (table rows : ℕ) → work ≡ works.Insert table rows → (1 ≤ rows) × (rows ≤ MOST_ROWS)
