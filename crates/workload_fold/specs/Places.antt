-- What is read of two texts, the same but for the places at which names and texts stand.
use Rattle.std.specs.Prelude.{◌≡◌, ℕ, List, Option, Some, None}
use Rattle.sql_tokens.specs.declared.token.Span.{Span}
use Rattle.sql_reader.specs.declared.terminal.Terminal.{Terminal}
use Rattle.sql_reader.specs.declared.seen.Seen.{Seen}
use Rattle.sql_reader.specs.declared.parsed.NameUse.{NameUse}
use Rattle.sql_reader.specs.declared.parsed.Expr.{Expr}
use Rattle.sql_reader.specs.declared.parsed.ParsedItem.{ParsedItem}
use Rattle.sql_reader.specs.declared.parsed.ParsedItem.TheVariants as items
use Rattle.sql_reader.specs.declared.parsed.Source.{Source}
use Rattle.sql_reader.specs.declared.parsed.Literal.{Literal}
use Rattle.sql_reader.specs.declared.parsed.Literal.TheVariants as literals
use Rattle.sql_reader.specs.declared.parsed.Condition.{Condition}
use Rattle.sql_reader.specs.declared.parsed.Condition.TheVariants.{Compared, Tied, Between, OneOf, Like, IsNull, NotNull}
use Rattle.sql_reader.specs.declared.parsed.ParsedOrder.{ParsedOrder}
use Rattle.sql_reader.specs.declared.parsed.ParsedSelect.{ParsedSelect}
use Rattle.sql_reader.specs.declared.parsed.Body.{Body}
use Rattle.sql_reader.specs.declared.parsed.Body.TheVariants as bodies
use Rattle.sql_reader.specs.declared.parts.InsertParts.{InsertParts}
use Rattle.sql_reader.specs.declared.parts.UpdateParts.{UpdateParts}
use Rattle.binder.specs.Names.{span_bytes}
use Rattle.workload_fold.specs.Pairs.{Pairs}

-- two texts
pub record Texts : Type 0 where
  pub one : List ℕ
  pub other : List ℕ

-- a span of each, with the same bytes
abbrev pub SameSpan : Texts → Span → Span → Type 0
SameSpan t s u = span_bytes t.one s ≡ span_bytes t.other u

abbrev pub SameMaybe : Texts → Option Span → Option Span → Type 0
SameMaybe t None None = Unit {0}
SameMaybe t (Some s) (Some u) = SameSpan t s u
SameMaybe t x y = ⊥

-- terminals of one kind, number and spelling
pub record SameTerminal (t : Texts) (p q : Terminal) : Type 0 where
  pub kind : p.kind ≡ q.kind
  pub number : p.number ≡ q.number
  pub span : SameSpan t p.span q.span

pub record SameName (t : Texts) (u v : NameUse) : Type 0 where
  pub qualifier : SameMaybe t u.qualifier v.qualifier
  pub name : SameSpan t u.name v.name

abbrev pub SameNames : Texts → List NameUse → List NameUse → Type 0
SameNames t us vs = Pairs (SameName t) us vs

pub record SameSource (t : Texts) (x y : Source) : Type 0 where
  pub table : SameSpan t x.table y.table
  pub alias : SameMaybe t x.alias y.alias

abbrev pub SameLiteral : Texts → Literal → Literal → Type 0
SameLiteral t (literals.Whole m) (literals.Whole n) = m ≡ n
SameLiteral t (literals.Day m) (literals.Day n) = m ≡ n
SameLiteral t (literals.Text s) (literals.Text u) = SameSpan t s u
SameLiteral t literals.Other literals.Other = Unit {0}
SameLiteral t x y = ⊥

abbrev pub SameCondition : Texts → Condition → Condition → Type 0
SameCondition t (Compared u c l) (Compared v d m) = SameName t u v × (c ≡ d) × SameLiteral t l m
SameCondition t (Tied u v) (Tied x y) = SameName t u x × SameName t v y
SameCondition t (Between u l m) (Between v k n) = SameName t u v × SameLiteral t l k × SameLiteral t m n
SameCondition t (OneOf u m) (OneOf v n) = SameName t u v × (m ≡ n)
SameCondition t (Like u) (Like v) = SameName t u v
SameCondition t (IsNull u) (IsNull v) = SameName t u v
SameCondition t (NotNull u) (NotNull v) = SameName t u v
SameCondition t x y = ⊥

pub record SameExpr (t : Texts) (x y : Expr) : Type 0 where
  pub uses : SameNames t x.uses y.uses
  pub stars : x.stars ≡ y.stars
  pub plain : x.plain ≡ y.plain
  pub aggregate : x.aggregate ≡ y.aggregate
  pub ordinal : x.ordinal ≡ y.ordinal

-- an expression so far
pub record SameSeen (t : Texts) (x y : Seen) : Type 0 where
  pub uses : SameNames t x.uses y.uses
  pub stars : x.stars ≡ y.stars
  pub aggregate : x.aggregate ≡ y.aggregate
  pub form : x.form ≡ y.form

abbrev pub SameItem : Texts → ParsedItem → ParsedItem → Type 0
SameItem t items.Star items.Star = Unit {0}
SameItem t (items.SlotStar s) (items.SlotStar u) = SameSpan t s u
SameItem t (items.Made x a) (items.Made y b) = SameExpr t x y × SameMaybe t a b
SameItem t x y = ⊥

pub record SameOrder (t : Texts) (x y : ParsedOrder) : Type 0 where
  pub expr : SameExpr t x.expr y.expr
  pub down : x.down ≡ y.down

pub record SameSelect (t : Texts) (x y : ParsedSelect) : Type 0 where
  pub distinct : x.distinct ≡ y.distinct
  pub items : Pairs (SameItem t) x.items y.items
  pub sources : Pairs (SameSource t) x.sources y.sources
  pub conditions : Pairs (SameCondition t) x.conditions y.conditions
  pub group : SameNames t x.group y.group
  pub having : SameNames t x.having y.having
  pub order : Pairs (SameOrder t) x.order y.order

-- an INSERT and an UPDATE so far
pub record SameInsert (t : Texts) (x y : InsertParts) : Type 0 where
  pub table : SameSpan t x.table y.table
  pub columns : SameNames t x.columns y.columns
  pub found : SameSeen t x.found y.found
  pub rows : x.rows ≡ y.rows

pub record SameUpdate (t : Texts) (x y : UpdateParts) : Type 0 where
  pub source : SameSource t x.source y.source
  pub columns : SameNames t x.columns y.columns
  pub found : SameSeen t x.found y.found
  pub conditions : Pairs (SameCondition t) x.conditions y.conditions

abbrev pub SameBody : Texts → Body → Body → Type 0
SameBody t (bodies.Select x) (bodies.Select y) = SameSelect t x y
SameBody t (bodies.Insert a cs us m) (bodies.Insert b ds vs n) = SameSpan t a b × SameNames t cs ds × SameNames t us vs × (m ≡ n)
SameBody t (bodies.Update x cs us ts) (bodies.Update y ds vs ws) = SameSource t x y × SameNames t cs ds × SameNames t us vs × Pairs (SameCondition t) ts ws
SameBody t (bodies.Delete x ts) (bodies.Delete y ws) = SameSource t x y × Pairs (SameCondition t) ts ws
SameBody t x y = ⊥
