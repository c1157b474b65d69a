-- What holds of literals, conditions, items and bodies of one form holds of those that are the same but for places.
use Rattle.std.proofs.Common.{ℕ, ℤ, subst}
use Rattle.sql_tokens.specs.declared.token.Span.{Span}
use Rattle.sql_reader.specs.declared.parsed.NameUse.{NameUse}
use Rattle.sql_reader.specs.declared.parsed.Compare.{Compare}
use Rattle.sql_reader.specs.declared.parsed.Literal.{Literal}
use Rattle.sql_reader.specs.declared.parsed.Literal.TheVariants as literals
use Rattle.sql_reader.specs.declared.parsed.Condition.{Condition}
use Rattle.sql_reader.specs.declared.parsed.Condition.TheVariants.{Compared, Tied, Between, OneOf, Like, IsNull, NotNull}
use Rattle.workload_fold.specs.Places.{Texts, SameSpan, SameName, SameLiteral, SameCondition}

pub by_literals : (t : Texts) (P : Literal → Literal → Type 0)
    → ((m : ℤ) → P (literals.Whole m) (literals.Whole m))
    → ((m : ℤ) → P (literals.Day m) (literals.Day m))
    → ((s u : Span) → SameSpan t s u → P (literals.Text s) (literals.Text u))
    → P literals.Other literals.Other
    → (x y : Literal) → SameLiteral t x y → P x y
by_literals t P w d f o (literals.Whole m) (literals.Whole n) h = subst (λ (z : ℤ). P (literals.Whole m) (literals.Whole z)) h (w m)
by_literals t P w d f o (literals.Whole m) (literals.Day n) h = absurd h
by_literals t P w d f o (literals.Whole m) (literals.Text u) h = absurd h
by_literals t P w d f o (literals.Whole m) literals.Other h = absurd h
by_literals t P w d f o (literals.Day m) (literals.Whole n) h = absurd h
by_literals t P w d f o (literals.Day m) (literals.Day n) h = subst (λ (z : ℤ). P (literals.Day m) (literals.Day z)) h (d m)
by_literals t P w d f o (literals.Day m) (literals.Text u) h = absurd h
by_literals t P w d f o (literals.Day m) literals.Other h = absurd h
by_literals t P w d f o (literals.Text s) (literals.Whole n) h = absurd h
by_literals t P w d f o (literals.Text s) (literals.Day n) h = absurd h
by_literals t P w d f o (literals.Text s) (literals.Text u) h = f s u h
by_literals t P w d f o (literals.Text s) literals.Other h = absurd h
by_literals t P w d f o literals.Other (literals.Whole n) h = absurd h
by_literals t P w d f o literals.Other (literals.Day n) h = absurd h
by_literals t P w d f o literals.Other (literals.Text u) h = absurd h
by_literals t P w d f o literals.Other literals.Other h = o

-- the same of each form of condition
pub record CoversConditions (t : Texts) (P : Condition → Condition → Type 0) : Type 0 where
  pub compared : (u v : NameUse) (c : Compare) (l m : Literal) → SameName t u v → SameLiteral t l m → P (Compared u c l) (Compared v c m)
  pub tied : (u v x y : NameUse) → SameName t u x → SameName t v y → P (Tied u v) (Tied x y)
  pub between : (u v : NameUse) (l m k n : Literal) → SameName t u v → SameLiteral t l k → SameLiteral t m n → P (Between u l m) (Between v k n)
  pub one_of : (u v : NameUse) (m : ℕ) → SameName t u v → P (OneOf u m) (OneOf v m)
  pub like : (u v : NameUse) → SameName t u v → P (Like u) (Like v)
  pub is_null : (u v : NameUse) → SameName t u v → P (IsNull u) (IsNull v)
  pub not_null : (u v : NameUse) → SameName t u v → P (NotNull u) (NotNull v)

pub by_conditions : (t : Texts) (P : Condition → Condition → Type 0) → CoversConditions t P → (a b : Condition) → SameCondition t a b → P a b
by_conditions t P covers (Compared u1 c1 l1) (Compared u2 c2 l2) h = subst (λ (c : Compare). P (Compared u1 c1 l1) (Compared u2 c l2)) h.1 (covers.compared u1 u2 c1 l1 l2 h.0 h.2)
by_conditions t P covers (Compared u1 c1 l1) (Tied u2 v2) h = absurd h
by_conditions t P covers (Compared u1 c1 l1) (Between u2 l2 m2) h = absurd h
by_conditions t P covers (Compared u1 c1 l1) (OneOf u2 n2) h = absurd h
by_conditions t P covers (Compared u1 c1 l1) (Like u2) h = absurd h
by_conditions t P covers (Compared u1 c1 l1) (IsNull u2) h = absurd h
by_conditions t P covers (Compared u1 c1 l1) (NotNull u2) h = absurd h
by_conditions t P covers (Tied u1 v1) (Compared u2 c2 l2) h = absurd h
by_conditions t P covers (Tied u1 v1) (Tied u2 v2) h = covers.tied u1 v1 u2 v2 h.0 h.1
by_conditions t P covers (Tied u1 v1) (Between u2 l2 m2) h = absurd h
by_conditions t P covers (Tied u1 v1) (OneOf u2 n2) h = absurd h
by_conditions t P covers (Tied u1 v1) (Like u2) h = absurd h
by_conditions t P covers (Tied u1 v1) (IsNull u2) h = absurd h
by_conditions t P covers (Tied u1 v1) (NotNull u2) h = absurd h
by_conditions t P covers (Between u1 l1 m1) (Compared u2 c2 l2) h = absurd h
by_conditions t P covers (Between u1 l1 m1) (Tied u2 v2) h = absurd h
by_conditions t P covers (Between u1 l1 m1) (Between u2 l2 m2) h = covers.between u1 u2 l1 m1 l2 m2 h.0 h.1 h.2
by_conditions t P covers (Between u1 l1 m1) (OneOf u2 n2) h = absurd h
by_conditions t P covers (Between u1 l1 m1) (Like u2) h = absurd h
by_conditions t P covers (Between u1 l1 m1) (IsNull u2) h = absurd h
by_conditions t P covers (Between u1 l1 m1) (NotNull u2) h = absurd h
by_conditions t P covers (OneOf u1 n1) (Compared u2 c2 l2) h = absurd h
by_conditions t P covers (OneOf u1 n1) (Tied u2 v2) h = absurd h
by_conditions t P covers (OneOf u1 n1) (Between u2 l2 m2) h = absurd h
by_conditions t P covers (OneOf u1 n1) (OneOf u2 n2) h = subst (λ (n : ℕ). P (OneOf u1 n1) (OneOf u2 n)) h.1 (covers.one_of u1 u2 n1 h.0)
by_conditions t P covers (OneOf u1 n1) (Like u2) h = absurd h
by_conditions t P covers (OneOf u1 n1) (IsNull u2) h = absurd h
by_conditions t P covers (OneOf u1 n1) (NotNull u2) h = absurd h
by_conditions t P covers (Like u1) (Compared u2 c2 l2) h = absurd h
by_conditions t P covers (Like u1) (Tied u2 v2) h = absurd h
by_conditions t P covers (Like u1) (Between u2 l2 m2) h = absurd h
by_conditions t P covers (Like u1) (OneOf u2 n2) h = absurd h
by_conditions t P covers (Like u1) (Like u2) h = covers.like u1 u2 h
by_conditions t P covers (Like u1) (IsNull u2) h = absurd h
by_conditions t P covers (Like u1) (NotNull u2) h = absurd h
by_conditions t P covers (IsNull u1) (Compared u2 c2 l2) h = absurd h
by_conditions t P covers (IsNull u1) (Tied u2 v2) h = absurd h
by_conditions t P covers (IsNull u1) (Between u2 l2 m2) h = absurd h
by_conditions t P covers (IsNull u1) (OneOf u2 n2) h = absurd h
by_conditions t P covers (IsNull u1) (Like u2) h = absurd h
by_conditions t P covers (IsNull u1) (IsNull u2) h = covers.is_null u1 u2 h
by_conditions t P covers (IsNull u1) (NotNull u2) h = absurd h
by_conditions t P covers (NotNull u1) (Compared u2 c2 l2) h = absurd h
by_conditions t P covers (NotNull u1) (Tied u2 v2) h = absurd h
by_conditions t P covers (NotNull u1) (Between u2 l2 m2) h = absurd h
by_conditions t P covers (NotNull u1) (OneOf u2 n2) h = absurd h
by_conditions t P covers (NotNull u1) (Like u2) h = absurd h
by_conditions t P covers (NotNull u1) (IsNull u2) h = absurd h
by_conditions t P covers (NotNull u1) (NotNull u2) h = covers.not_null u1 u2 h
