-- Names, values, expressions and conditions of two texts are read alike.
use Rattle.std.proofs.Common.{◌≡◌, ℕ, ◌+◌, ◌||◌, ℤ, pos, [], ◌∷◌, ◌++◌, Option, Some, None, refl, ap, subst}
use Rattle.sql_reader.specs.declared.kind.TerminalKind.{TerminalKind}
use Rattle.sql_reader.specs.declared.kind.TerminalKind.TheVariants as kinds
use Rattle.sql_reader.specs.declared.terminal.Terminal.{Terminal}
use Rattle.sql_reader.specs.declared.seen.ExprForm.TheVariants as forms
use Rattle.sql_reader.specs.declared.seen.Seen.{Seen}
use Rattle.sql_reader.specs.declared.parsed.NameUse.{NameUse}
use Rattle.sql_reader.specs.declared.parsed.Literal.{Literal}
use Rattle.sql_reader.specs.Rule.{Nesting, State, Nest, Conditions, Parenthesis, Call, Signed, Meaning}
use Rattle.sql_reader.specs.Values.{with_form, number_or, whole_literal, literal_of, literal_of_kind, negative, signed, compare_of, turned, literal_form, is_aggregate, is_column, ordinal_of, expr_of}
use Rattle.sql_reader.specs.Grammar.{after_name, column, null_test}
use Rattle.sql_reader.specs.Printed as printed
use Rattle.workload_fold.specs.Pairs.{Pairs}
use Rattle.workload_fold.specs.Places.{Texts, SameSpan, SameMaybe, SameTerminal, SameName, SameSource, SameLiteral, SameCondition, SameExpr, SameSeen}
use Rattle.workload_fold.proofs.ByForms.{by_literals}
use Rattle.workload_fold.proofs.Following.{Kin, Any, Follows, pairs_push, give_follows, take_follows, then_follows, use_follows, either_follows, many_follows, word_follows, maybe_follows, commas_follow, behind_follows}

-- ## Literals

same_whole : (t : Texts) (m n : Option ℤ) → m ≡ n → SameLiteral t (whole_literal m) (whole_literal n)
same_whole t m n e = subst (λ (x : Option ℤ). SameLiteral t (whole_literal m) (whole_literal x)) e (itself m)
  where
    itself : (x : Option ℤ) → SameLiteral t (whole_literal x) (whole_literal x)
    itself None = tt
    itself (Some z) = refl

same_of_kind : (t : Texts) (kind : TerminalKind) (p q : Terminal) → SameTerminal t p q → SameLiteral t (literal_of_kind kind p) (literal_of_kind kind q)
same_of_kind t kinds.Whole p q h = same_whole t p.number q.number h.number
same_of_kind t kinds.Text p q h = h.span
same_of_kind t kinds.Day p q h = h.span
same_of_kind t _ p q h = tt

pub same_literal_of : (t : Texts) (p q : Terminal) → SameTerminal t p q → SameLiteral t (literal_of p) (literal_of q)
same_literal_of t p q h = subst (λ (x : TerminalKind). SameLiteral t (literal_of p) (literal_of_kind x q)) h.kind (same_of_kind t p.kind p q h)

same_negative : (t : Texts) (l m : Literal) → SameLiteral t l m → SameLiteral t (negative l) (negative m)
same_negative t l m h =
    by_literals t (λ x y. SameLiteral t (negative x) (negative y)) (λ a. refl) (λ a. refl) (λ s u e. e) tt l m h

same_signed_kind : (t : Texts) (sign : TerminalKind) (p q : Terminal) → SameTerminal t p q → SameLiteral t (signed sign p) (signed sign q)
same_signed_kind t kinds.Minus p q h = same_negative t (literal_of p) (literal_of q) (same_literal_of t p q h)
same_signed_kind t _ p q h = same_literal_of t p q h

same_signed : (t : Texts) (sign other : TerminalKind) (p q : Terminal) → sign ≡ other → SameTerminal t p q → SameLiteral t (signed sign p) (signed other q)
same_signed t sign other p q e h = subst (λ (x : TerminalKind). SameLiteral t (signed sign p) (signed x q)) e (same_signed_kind t sign p q h)

-- ## Expressions

same_use : (t : Texts) (x y : Seen) (u v : NameUse) → SameSeen t x y → SameName t u v
    → Pairs (SameName t) (x.uses ++ u ∷ []) (y.uses ++ v ∷ [])
same_use t x y u v h k = pairs_push (SameName t) x.uses y.uses u v h.uses k

pub same_not_alone : (t : Texts) (x y : Seen) → SameSeen t x y → SameSeen t (with_form forms.Other x) (with_form forms.Other y)
same_not_alone t x y h = record { uses = h.uses; stars = h.stars; aggregate = h.aggregate; form = refl }

pub same_expr_of : (t : Texts) (x y : Seen) → SameSeen t x y → SameExpr t (expr_of x) (expr_of y)
same_expr_of t x y h =
    record { uses = h.uses; stars = h.stars; plain = ap is_column h.form; aggregate = h.aggregate; ordinal = ap ordinal_of h.form }

abbrev pub terminals_of : Texts → ((x : Nesting) → Meaning (State x) (State x)) → Kin
terminals_of t d = record { Agree = SameTerminal t; kind = λ p q h. h.kind; deeper = d }

-- what is beside the kind of a terminal
abbrev BesideKind : {A : Type 0} → (A → A → Type 0) → A × TerminalKind → A × TerminalKind → Type 0
BesideKind R x y = R x.0 y.0 × (x.1 ≡ y.1)

abbrev Both : {A B : Type 0} → (A → A → Type 0) → (B → B → Type 0) → A × B → A × B → Type 0
Both R S x y = R x.0 y.0 × S x.1 y.1

abbrev Equal : {A : Type 0} → A → A → Type 0
Equal x y = x ≡ y

-- what nested forms follow
pub record NestedFollow (t : Texts) (d : (x : Nesting) → Meaning (State x) (State x)) : Type 0 where
  pub conditions : Follows (terminals_of t d) (Pairs (SameCondition t)) (Nest Conditions) (Pairs (SameCondition t))
  pub parenthesis : Follows (terminals_of t d) (SameSeen t) (Nest Parenthesis) (SameSeen t)
  pub call : Follows (terminals_of t d) (SameSeen t) (Nest Call) (SameSeen t)
  pub signed_operand : Follows (terminals_of t d) (SameSeen t) (Nest Signed) (SameSeen t)

module _ (t : Texts) (d : (x : Nesting) → Meaning (State x) (State x)) where
  abbrev k : Kin
  k = terminals_of t d

  after_name_follows : Follows k (SameSpan t) after_name (SameName t)
  unfolding after_name
  after_name_follows =
      either_follows k
      (then_follows k (SameSpan t) (take_follows k (λ a c p q agree known. known)) (take_follows k (λ a c p q agree known. record { qualifier = known; name = agree.span })))
      (give_follows k (λ a c known. record { qualifier = tt; name = known }))

  -- column = name [ "." name ]
  pub column_follows : Follows k Any column (SameName t)
  unfolding column
  column_follows = then_follows k (SameSpan t) (take_follows k (λ a c p q agree known. agree.span)) after_name_follows

  -- [[AS] name]
  pub alias_follows : Follows k Any printed.alias (SameMaybe t)
  unfolding printed.alias
  alias_follows =
      either_follows k
      (then_follows k Any (maybe_follows k (word_follows k)) (take_follows k (λ a c p q agree known. agree.span)))
      (give_follows k (λ a c known. tt))

  -- source = name [[AS] name]
  pub source_follows : Follows k Any printed.source (SameSource t)
  unfolding printed.source
  source_follows =
      then_follows k (SameSpan t) (take_follows k (λ a c p q agree known. agree.span))
      (use_follows k Any (SameMaybe t) alias_follows (λ a c known. tt) (λ a c m n known other. record { table = known; alias = other }))

  literal_follows : Follows k Any printed.literal (SameLiteral t)
  unfolding printed.literal
  literal_follows =
      either_follows k (take_follows k (λ a c p q agree known. same_literal_of t p q agree))
      (then_follows k Any (word_follows k) (take_follows k (λ a c p q agree known. ap (number_or (pos 0)) agree.number)))

  -- value = literal | ("+" | "-") (Whole | Decimal)
  value_follows : Follows k Any printed.value (SameLiteral t)
  unfolding printed.value
  value_follows =
      either_follows k literal_follows
      (then_follows k Equal (take_follows k (λ a c p q agree known. agree.kind)) (take_follows k (λ a c p q agree known. same_signed t a c p q known agree)))

  module _ (nested : NestedFollow t d) where
    literal_operand_follows : Follows k (SameSeen t) printed.literal_operand (SameSeen t)
    unfolding printed.literal_operand
    literal_operand_follows =
        either_follows k
        (take_follows k (λ a c p q agree known.
        record { uses = known.uses; stars = known.stars; aggregate = known.aggregate; form = λ i. literal_form (agree.kind i) (agree.number i) }))
        (then_follows k (SameSeen t) (word_follows k) (take_follows k (λ a c p q agree known. same_not_alone t a c known)))

    prim_follows : Follows k (SameSeen t) printed.prim (SameSeen t)
    unfolding printed.prim
    prim_follows =
        either_follows k nested.signed_operand
        (either_follows k nested.parenthesis
        (either_follows k literal_operand_follows
        (either_follows k
        (use_follows k Any (SameName t) column_follows (λ a c known. tt)
        (λ a c m n known other. record { uses = same_use t a c m n known other; stars = known.stars; aggregate = known.aggregate; form = refl }))
        nested.call)))

    pub expr_follows : Follows k (SameSeen t) printed.expr (SameSeen t)
    unfolding printed.expr
    expr_follows =
        then_follows k (SameSeen t) prim_follows
        (many_follows k
        (then_follows k (SameSeen t) (take_follows k (λ a c p q agree known. known))
        (then_follows k (SameSeen t) prim_follows (give_follows k (λ a c known. same_not_alone t a c known)))))

    closed_follows : Follows k (SameSeen t) printed.closed (SameSeen t)
    unfolding printed.closed
    closed_follows = take_follows k (λ a c p q agree known. same_not_alone t a c known)

    call_name_follows : Follows k (SameSeen t) printed.call_name (SameSeen t)
    unfolding printed.call_name
    call_name_follows =
        take_follows k (λ a c p q agree known.
        record { uses = known.uses; stars = known.stars; aggregate = λ i. known.aggregate i || is_aggregate (agree.kind i); form = known.form })

    pub call_follows : Follows k (SameSeen t) printed.call (SameSeen t)
    unfolding printed.call
    call_follows =
        either_follows k (then_follows k (SameSeen t) call_name_follows (then_follows k (SameSeen t) (word_follows k) closed_follows))
        (either_follows k
        (then_follows k (SameSeen t) call_name_follows
        (then_follows k (SameSeen t) (word_follows k)
        (then_follows k (SameSeen t)
        (take_follows k (λ a c p q agree known. record { uses = known.uses; stars = ap (λ (n : ℕ). n + 1) known.stars; aggregate = known.aggregate; form = known.form }))
        closed_follows)))
        (then_follows k (SameSeen t) call_name_follows
        (then_follows k (SameSeen t) (word_follows k)
        (then_follows k (SameSeen t) (maybe_follows k (word_follows k)) (then_follows k (SameSeen t) (commas_follow k expr_follows) closed_follows)))))

    pub parenthesis_follows : Follows k (SameSeen t) printed.parenthesis (SameSeen t)
    unfolding printed.parenthesis
    parenthesis_follows = then_follows k (SameSeen t) (word_follows k) (then_follows k (SameSeen t) expr_follows closed_follows)

    pub signed_follows : Follows k (SameSeen t) printed.signed_prim (SameSeen t)
    unfolding printed.signed_prim
    signed_follows =
        then_follows k (SameSeen t) (take_follows k (λ a c p q agree known. known))
        (then_follows k (SameSeen t) prim_follows (give_follows k (λ a c known. same_not_alone t a c known)))

    -- ## Conditions

    compared_follows : Follows k (SameName t) printed.compared (SameCondition t)
    unfolding printed.compared
    compared_follows =
        then_follows k (BesideKind (SameName t)) (take_follows k (λ a c p q agree known. (known, agree.kind)))
        (use_follows k Any (SameLiteral t) value_follows (λ a c known. tt) (λ a c m n known other. (known.0, ap compare_of known.1, other)))

    turned_follows : Follows k (SameLiteral t) printed.compared_turned (SameCondition t)
    unfolding printed.compared_turned
    turned_follows =
        then_follows k (BesideKind (SameLiteral t)) (take_follows k (λ a c p q agree known. (known, agree.kind)))
        (use_follows k Any (SameName t) column_follows (λ a c known. tt) (λ a c m n known other. (other, ap (λ x. turned (compare_of x)) known.1, known.0)))

    tied_follows : Follows k (SameName t) printed.tied (SameCondition t)
    unfolding printed.tied
    tied_follows =
        then_follows k (SameName t) (word_follows k) (use_follows k Any (SameName t) column_follows (λ a c known. tt) (λ a c m n known other. (known, other)))

    between_follows : Follows k (SameName t) printed.between (SameCondition t)
    unfolding printed.between
    between_follows =
        then_follows k (SameName t) (word_follows k)
        (then_follows k (Both (SameName t) (SameLiteral t)) (use_follows k Any (SameLiteral t) value_follows (λ a c known. tt) (λ a c m n known other. (known, other)))
        (then_follows k (Both (SameName t) (SameLiteral t)) (word_follows k)
        (use_follows k Any (SameLiteral t) value_follows (λ a c known. tt) (λ a c m n known other. (known.0, known.1, other)))))

    values_follow : Follows k Any printed.values Equal
    unfolding printed.values
    values_follow =
        then_follows k Equal (use_follows k Any (SameLiteral t) value_follows (λ a c known. tt) (λ a c m n known other. refl))
        (many_follows k
        (then_follows k Equal (word_follows k) (use_follows k Any (SameLiteral t) value_follows (λ a c known. tt) (λ a c m n known other. ap (λ (x : ℕ). x + 1) known))))

    one_of_follows : Follows k (SameName t) printed.one_of (SameCondition t)
    unfolding printed.one_of
    one_of_follows =
        then_follows k (SameName t) (word_follows k)
        (then_follows k (SameName t) (word_follows k)
        (then_follows k (Both (SameName t) Equal) (use_follows k Any Equal values_follow (λ a c known. tt) (λ a c m n known other. (known, other)))
        (take_follows k (λ a c p q agree known. (known.0, known.1)))))

    like_follows : Follows k (SameName t) printed.like (SameCondition t)
    unfolding printed.like
    like_follows =
        then_follows k (SameName t) (word_follows k) (use_follows k Any (SameLiteral t) value_follows (λ a c known. tt) (λ a c m n known other. known))

    null_follows : Follows k (SameName t) null_test (SameCondition t)
    unfolding null_test
    null_follows =
        then_follows k (SameName t) (take_follows k (λ a c p q agree known. known))
        (either_follows k
        (then_follows k (SameName t) (take_follows k (λ a c p q agree known. known)) (take_follows k (λ a c p q agree known. known)))
        (take_follows k (λ a c p q agree known. known)))

    plain_follows : Follows k Any printed.plain_cond (SameCondition t)
    unfolding printed.plain_cond
    plain_follows =
        either_follows k (then_follows k (SameName t) column_follows compared_follows)
        (either_follows k (then_follows k (SameLiteral t) value_follows turned_follows)
        (either_follows k (then_follows k (SameName t) column_follows tied_follows)
        (either_follows k (then_follows k (SameName t) column_follows between_follows)
        (either_follows k (then_follows k (SameName t) column_follows one_of_follows)
        (either_follows k (then_follows k (SameName t) column_follows like_follows) (then_follows k (SameName t) column_follows null_follows))))))

    cond_follows : Follows k (Pairs (SameCondition t)) printed.cond (Pairs (SameCondition t))
    unfolding printed.cond
    cond_follows = either_follows k nested.conditions (behind_follows k (SameCondition t) plain_follows)

    pub conds_follow : Follows k (Pairs (SameCondition t)) printed.conds (Pairs (SameCondition t))
    unfolding printed.conds
    conds_follow =
        then_follows k (Pairs (SameCondition t)) cond_follows (many_follows k (then_follows k (Pairs (SameCondition t)) (word_follows k) cond_follows))

    pub nested_conds_follow : Follows k (Pairs (SameCondition t)) printed.nested_conds (Pairs (SameCondition t))
    unfolding printed.nested_conds
    nested_conds_follow =
        then_follows k (Pairs (SameCondition t)) (word_follows k) (then_follows k (Pairs (SameCondition t)) conds_follow (word_follows k))

    pub where_conds_follow : Follows k (Pairs (SameCondition t)) printed.where_conds (Pairs (SameCondition t))
    unfolding printed.where_conds
    where_conds_follow = maybe_follows k (then_follows k (Pairs (SameCondition t)) (word_follows k) conds_follow)
