-- Names, values and expressions mean what they mean as they are printed.
use Rattle.std.proofs.Common.{◌≡◌, true, List, [], ◌∷◌, ◌++◌, Option, sym, refl, ap, ◌∙◌, subst, ◌⊎◌, inl, inr}
use Rattle.std.proofs.lemmas.Bool.{or_cases}
use Rattle.sql_tokens.specs.declared.token.Span.{Span}
use Rattle.sql_reader.specs.declared.kind.TerminalKind.{TerminalKind}
use Rattle.sql_reader.specs.declared.kind.TerminalKind.TheVariants as kinds
use Rattle.sql_reader.specs.declared.terminal.Terminal.{Terminal}
use Rattle.sql_reader.specs.declared.seen.Seen.{Seen}
use Rattle.sql_reader.specs.declared.parsed.NameUse.{NameUse}
use Rattle.sql_reader.specs.declared.parsed.Literal.{Literal}
use Rattle.sql_reader.specs.Kinds.{has}
use Rattle.sql_reader.specs.Values.{plain_column, column_of_source, not_alone, with_use, called, beside}
use Rattle.sql_reader.specs.Rule.{Nesting, State, Take, Then, Use, Either, Nest, Conditions, Parenthesis, Call, Signed, Meaning, IsOver}
use Rattle.sql_reader.specs.Grammar.{names, plain_names, after_name, column, alias, source, plain_value, value, called_name, after_operand_name, after_operand_date, other_operand, operand, operation, operations, expression, another_expression, more_expressions, expressions}
use Rattle.sql_reader.specs.Printed as printed
use Rattle.sql_reader.proofs.KindSets.{in_wider, has-append}
use Rattle.sql_reader.proofs.Alike.{Same, give_same, take_same, then_same, use_same, many_same, took, put}

-- a name is DATE or another
pub name_parts : (k : TerminalKind) → has names k ≡ true → (has plain_names k ≡ true) ⊎ (has (kinds.Date ∷ []) k ≡ true)
name_parts k h = or_cases (has plain_names k) (has (kinds.Date ∷ []) k) (sym (has-append plain_names (kinds.Date ∷ []) k) ∙ h)

pub plain_is_name : (k : TerminalKind) → has plain_names k ≡ true → has names k ≡ true
plain_is_name k h = in_wider plain_names names k refl h

pub date_is_name : (k : TerminalKind) → has (kinds.Date ∷ []) k ≡ true → has names k ≡ true
date_is_name k h = in_wider (kinds.Date ∷ []) names k refl h

-- What the nested forms mean is the same, but that a call is printed with its name.
pub record Linked (d e : (x : Nesting) → Meaning (State x) (State x)) : Type 0 where
  pub conditions : Same d e (Nest Conditions) (Nest Conditions)
  pub parentheses : Same d e (Nest Parenthesis) (Nest Parenthesis)
  pub calls : Same d e (Then printed.call_name (Nest Call)) (Nest Call)
  pub signed : Same d e (Nest Signed) (Nest Signed)

module _ (d e : (x : Nesting) → Meaning (State x) (State x)) where
  alias_there : (a : Unit {0}) (ps : List Terminal) (b : Option Span) → IsOver d alias a ps b → IsOver e printed.alias a ps b
  unfolding alias printed.alias
  alias_there a ps b (inl (front, back, m, split, h, k)) = inl (front, back, m, split, inl h, k)
  alias_there a ps b (inr (inl h)) = inl ([], ps, a, refl, inr (refl, refl), h)
  alias_there a ps b (inr (inr h)) = inr h

  alias_back : (a : Unit {0}) (ps : List Terminal) (b : Option Span) → IsOver e printed.alias a ps b → IsOver d alias a ps b
  unfolding alias printed.alias
  alias_back a ps b (inl (front, back, m, split, inl h, k)) = inl (front, back, m, split, h, k)
  alias_back a ps b (inl (front, back, m, split, inr (ef, em), (p, k, eb, e2))) =
      inr (inl (p, k, split ∙ ap (λ (x : List Terminal). x ++ back) ef ∙ eb, e2))
  alias_back a ps b (inr h) = inr (inr h)

  -- [[AS] name]
  pub alias_same : Same d e alias printed.alias
  alias_same = record { there = alias_there; back = alias_back }

  -- source = name [[AS] name]
  pub source_same : Same d e source printed.source
  unfolding source printed.source
  source_same = then_same d e (take_same d e _ _) (use_same d e _ _ alias_same)

  value_there : (a : Unit {0}) (ps : List Terminal) (b : Literal) → IsOver d value a ps b → IsOver e printed.value a ps b
  unfolding value plain_value printed.value printed.literal
  value_there a ps b (inl h) = inl (inr h)
  value_there a ps b (inr (inl h)) = inr h
  value_there a ps b (inr (inr h)) = inl (inl h)

  value_back : (a : Unit {0}) (ps : List Terminal) (b : Literal) → IsOver e printed.value a ps b → IsOver d value a ps b
  unfolding value plain_value printed.value printed.literal
  value_back a ps b (inl (inl h)) = inr (inr h)
  value_back a ps b (inl (inr h)) = inl h
  value_back a ps b (inr h) = inr (inl h)

  -- value = literal | ("+" | "-") (Whole | Decimal)
  pub value_same : Same d e value printed.value
  value_same = record { there = value_there; back = value_back }

-- a name and what stands behind it begin an operand
pub named_operand : (d : (x : Nesting) → Meaning (State x) (State x)) (a : Seen) (ps : List Terminal) (b : Seen) (p : Terminal) (rest : List Terminal) →
    has names p.kind ≡ true → ps ≡ p ∷ rest → IsOver d after_operand_name (a, p) rest b → IsOver d operand a ps b
unfolding operand after_operand_date
named_operand d a ps b p rest k split h =
    elim (name_parts p.kind k) [
      | inl plain ↦ inr (inl (put d plain_names beside after_operand_name a ps b p rest plain split h))
      | inr date ↦ inl (put d (kinds.Date ∷ []) beside after_operand_date a ps b p rest date split (inr h))
    ]

module _ (d e : (x : Nesting) → Meaning (State x) (State x)) (linked : Linked d e) where
  -- what stands behind the name of an operand makes it a column or a call
  name_there : (a : Seen) (ps : List Terminal) (b : Seen) (p : Terminal) (rest : List Terminal) → has names p.kind ≡ true → ps ≡ p ∷ rest → IsOver d after_operand_name (a, p) rest b →
      IsOver e (Either [] (Use (λ _. tt) column with_use) (Nest Call)) a ps b
  unfolding after_operand_name called_name column after_name printed.call_name
  name_there a ps b p rest k split (inl h) =
      let (q, rest2, kq, split2, t) = took d (kinds.Point ∷ []) (λ s _. s) (Take names (λ s n. with_use s.0 (column_of_source s.1.span n.span))) (a, p) rest b h in
      let (n, kn, en, eb) = t in
      let behind = put e (kinds.Point ∷ []) (λ s _. s) (Take names (λ s n. column_of_source s n.span)) p.span rest (column_of_source p.span n.span) q rest2 kq split2 (n, kn, en, refl) in
      inl (column_of_source p.span n.span, put e names (λ _ p. p.span) after_name (tt {0}) ps (column_of_source p.span n.span) p rest k split (inl behind), eb)
  name_there a ps b p rest k split (inr (inl (m, h, eb))) =
      let h2 = subst (λ (x : Seen). d Call (called a p.kind) rest x) (sym eb) h in
      inr (linked.calls.there a ps b (put d names (λ found p. called found p.kind) (Nest Call) a ps b p rest k split h2))
  name_there a ps b p rest k split (inr (inr (en, eb))) =
      inl (plain_column p.span, put e names (λ _ p. p.span) after_name (tt {0}) ps (plain_column p.span) p rest k split (inr (en, refl)), eb)

  date_there : (a : Seen) (ps : List Terminal) (b : Seen) (p : Terminal) (rest : List Terminal) → has (kinds.Date ∷ []) p.kind ≡ true → ps ≡ p ∷ rest → IsOver d after_operand_date (a, p) rest b →
      IsOver e printed.prim a ps b
  unfolding after_operand_date printed.prim printed.literal_operand
  date_there a ps b p rest k split (inl h) =
      inr (inr (inl (inr (put e (kinds.Date ∷ []) (λ a _. a) (Take (kinds.Day ∷ []) (λ found _. not_alone found)) a ps b p rest k split h))))
  date_there a ps b p rest k split (inr h) = inr (inr (inr (name_there a ps b p rest (date_is_name p.kind k) split h)))

  prim_there : (a : Seen) (ps : List Terminal) (b : Seen) → IsOver d operand a ps b → IsOver e printed.prim a ps b
  unfolding operand other_operand printed.prim printed.literal_operand
  prim_there a ps b (inl h) =
      let (p, rest, k, split, h2) = took d (kinds.Date ∷ []) beside after_operand_date a ps b h in
      date_there a ps b p rest k split h2
  prim_there a ps b (inr (inl h)) =
      let (p, rest, k, split, h2) = took d plain_names beside after_operand_name a ps b h in
      inr (inr (inr (name_there a ps b p rest (plain_is_name p.kind k) split h2)))
  prim_there a ps b (inr (inr (inl h))) = inr (inl (linked.parentheses.there a ps b h))
  prim_there a ps b (inr (inr (inr (inl h)))) = inl (linked.signed.there a ps b h)
  prim_there a ps b (inr (inr (inr (inr h)))) = inr (inr (inl (inl h)))

  -- what stands behind the name of a column, in an operand
  behind_name : (a : Seen) (p : Terminal) (rest : List Terminal) (m : NameUse) (b : Seen) → IsOver e after_name p.span rest m → b ≡ with_use a m → IsOver d after_operand_name (a, p) rest b
  unfolding after_operand_name called_name after_name
  behind_name a p rest m b (inl h) eb =
      let (q, rest2, kq, split2, t) = took e (kinds.Point ∷ []) (λ s _. s) (Take names (λ s n. column_of_source s n.span)) p.span rest m h in
      let (n, kn, en, em) = t in
      inl (put d (kinds.Point ∷ []) (λ s _. s) (Take names (λ s n. with_use s.0 (column_of_source s.1.span n.span))) (a, p) rest b q rest2 kq split2 (n, kn, en, eb ∙ ap (with_use a) em))
  behind_name a p rest m b (inr (en, em)) eb = inr (inr (en, eb ∙ ap (with_use a) em))

  column_back : (a : Seen) (ps : List Terminal) (b : Seen) → IsOver e (Use (λ _. tt) column with_use) a ps b → IsOver d operand a ps b
  unfolding column
  column_back a ps b (m, h, eb) =
      let (p, rest, k, split, h2) = took e names (λ _ p. p.span) after_name (tt {0}) ps m h in
      named_operand d a ps b p rest k split (behind_name a p rest m b h2 eb)

  call_back : (a : Seen) (ps : List Terminal) (b : Seen) → IsOver e (Nest Call) a ps b → IsOver d operand a ps b
  unfolding printed.call_name after_operand_name called_name
  call_back a ps b h =
      let (p, rest, k, split, h2) = took d names (λ found p. called found p.kind) (Nest Call) a ps b (linked.calls.back a ps b h) in
      named_operand d a ps b p rest k split (inr (inl (b, h2, refl)))

  prim_back : (a : Seen) (ps : List Terminal) (b : Seen) → IsOver e printed.prim a ps b → IsOver d operand a ps b
  unfolding operand after_operand_date other_operand printed.prim printed.literal_operand
  prim_back a ps b (inl h) = inr (inr (inr (inl (linked.signed.back a ps b h))))
  prim_back a ps b (inr (inl h)) = inr (inr (inl (linked.parentheses.back a ps b h)))
  prim_back a ps b (inr (inr (inl (inl h)))) = inr (inr (inr (inr h)))
  prim_back a ps b (inr (inr (inl (inr h)))) =
      let (p, rest, k, split, h2) = took e (kinds.Date ∷ []) (λ a _. a) (Take (kinds.Day ∷ []) (λ found _. not_alone found)) a ps b h in
      inl (put d (kinds.Date ∷ []) beside after_operand_date a ps b p rest k split (inl h2))
  prim_back a ps b (inr (inr (inr (inl h)))) = column_back a ps b h
  prim_back a ps b (inr (inr (inr (inr h)))) = call_back a ps b h

  -- prim = ("+" | "-") prim | "(" expr ")" | literal | column | call
  pub prim_same : Same d e operand printed.prim
  prim_same = record { there = prim_there; back = prim_back }

  -- expr = prim { ("+" | "-" | "*" | "/" | "%" | "||") prim }
  pub expr_same : Same d e expression printed.expr
  unfolding expression operations operation printed.expr
  expr_same = then_same d e prim_same (many_same d e _ _ (then_same d e (take_same d e _ _) (then_same d e prim_same (give_same d e _))))

  -- expr { "," expr }
  pub exprs_same : Same d e expressions (printed.commas printed.expr)
  unfolding expressions more_expressions another_expression
  exprs_same = then_same d e expr_same (many_same d e _ _ (then_same d e (take_same d e _ _) expr_same))
