-- Conditions mean what they mean as they are printed.
use Rattle.std.proofs.Common.{◌≡◌, true, List, [], ◌∷◌, ◌++◌, sym, refl, ap, ◌∙◌, subst, ◌⊎◌, inl, inr}
use Rattle.std.proofs.lemmas.Bool.{or_cases}
use Rattle.sql_reader.specs.declared.kind.TerminalKind.{TerminalKind}
use Rattle.sql_reader.specs.declared.kind.TerminalKind.TheVariants as kinds
use Rattle.sql_reader.specs.declared.terminal.Terminal.{Terminal}
use Rattle.sql_reader.specs.declared.parsed.NameUse.{NameUse}
use Rattle.sql_reader.specs.declared.parsed.Literal.{Literal}
use Rattle.sql_reader.specs.declared.parsed.Compare.{Compare}
use Rattle.sql_reader.specs.declared.parsed.Compare.TheVariants as compares
use Rattle.sql_reader.specs.declared.parsed.Condition.{Condition}
use Rattle.sql_reader.specs.declared.parsed.Condition.TheVariants.{Compared, Tied}
use Rattle.sql_reader.specs.Kinds.{has}
use Rattle.sql_reader.specs.Values.{day_literal, compare_of, beside_kind, beside_span}
use Rattle.sql_reader.specs.Rule.{Nesting, State, Take, Use, Meaning, IsOver}
use Rattle.sql_reader.specs.Grammar.{names, plain_names, comparisons, after_name, column, value, turned_test, tied_test, after_equal_date, equal_test, unequal_test, between_test, in_value, more_in_values, in_values, in_test, like_test, null_test, column_test, after_test_name, after_test_date, plain_condition, condition, and_condition, more_conditions, conditions, nested_conditions, where_conditions}
use Rattle.sql_reader.specs.Printed as printed
use Rattle.sql_reader.proofs.KindSets.{in_wider, has-append}
use Rattle.sql_reader.proofs.Alike.{Same, flat, flat_same, give_same, take_same, then_same, use_same, either_same, many_same, took, put}
use Rattle.sql_reader.proofs.PrintedOperands.{name_parts, plain_is_name, date_is_name, value_same, Linked}

-- the comparisons other than "="
abbrev unequal : List TerminalKind
unequal = kinds.NotEqual ∷ kinds.Below ∷ kinds.Above ∷ []

-- what is read as "=" compares for being equal
compares_equal : (k : TerminalKind) → has (kinds.Equal ∷ []) k ≡ true → compare_of k ≡ compares.Equal
compares_equal kinds.Equal h = refl
compares_equal _ h = absurd cc

comparison_parts : (k : TerminalKind) → has comparisons k ≡ true → (has (kinds.Equal ∷ []) k ≡ true) ⊎ (has unequal k ≡ true)
comparison_parts k h = or_cases (has (kinds.Equal ∷ []) k) (has unequal k) (sym (has-append (kinds.Equal ∷ []) unequal k) ∙ h)

flat_column : flat column ≡ true
unfolding column after_name
flat_column = refl

flat_null_test : flat null_test ≡ true
unfolding null_test
flat_null_test = refl

module _ (d e : (x : Nesting) → Meaning (State x) (State x)) where
  column_same : Same d e column column
  column_same = flat_same d e column flat_column

  -- BETWEEN value AND value
  between_same : Same d e between_test printed.between
  unfolding between_test printed.between
  between_same = then_same d e (take_same d e _ _) (then_same d e (use_same d e _ _ (value_same d e)) (then_same d e (take_same d e _ _) (use_same d e _ _ (value_same d e))))

  -- value { "," value }
  values_same : Same d e in_values printed.values
  unfolding in_values more_in_values in_value printed.values
  values_same = then_same d e (use_same d e _ _ (value_same d e)) (many_same d e _ _ (then_same d e (take_same d e _ _) (use_same d e _ _ (value_same d e))))

  -- IN "(" value { "," value } ")"
  one_of_same : Same d e in_test printed.one_of
  unfolding in_test printed.one_of
  one_of_same = then_same d e (take_same d e _ _) (then_same d e (take_same d e _ _) (then_same d e (use_same d e _ _ values_same) (take_same d e _ _)))

  -- LIKE value
  like_same : Same d e like_test printed.like
  unfolding like_test printed.like
  like_same = then_same d e (take_same d e _ _) (use_same d e _ _ (value_same d e))

  -- IS [NOT] NULL
  null_same : Same d e null_test null_test
  null_same = flat_same d e null_test flat_null_test

  -- compare column
  turned_same : Same d e turned_test printed.compared_turned
  unfolding turned_test printed.compared_turned
  turned_same = then_same d e (take_same d e _ _) (use_same d e _ _ column_same)

  -- a column with a test of it is a condition
  module _ (ps : List Terminal) (b : Condition) (front back : List Terminal) (m : NameUse) (split : ps ≡ front ++ back) (is_column : IsOver e column (tt {0}) front m) where
    compared_there : IsOver e printed.compared m back b → IsOver e printed.plain_cond (tt {0}) ps b
    unfolding printed.plain_cond
    compared_there h = inl (front, back, m, split, is_column, h)

    tied_there : IsOver e printed.tied m back b → IsOver e printed.plain_cond (tt {0}) ps b
    unfolding printed.plain_cond
    tied_there h = inr (inr (inl (front, back, m, split, is_column, h)))

    -- "=" and a value
    equal_value : (p : Terminal) (rest : List Terminal) (v : Literal) → has (kinds.Equal ∷ []) p.kind ≡ true → back ≡ p ∷ rest → IsOver d value (tt {0}) rest v → b ≡ Compared m compares.Equal v → IsOver e printed.plain_cond (tt {0}) ps b
    unfolding printed.compared
    equal_value p rest v k at h eb =
        let is_value = (value_same d e).there (tt {0}) rest v h in
        let same : b ≡ Compared m (compare_of p.kind) v = eb ∙ ap (λ (c : Compare). Compared m c v) (sym (compares_equal p.kind k)) in
        compared_there (put e comparisons beside_kind (Use (λ _. tt) printed.value (λ s v. Compared s.0 (compare_of s.1) v)) m back b p rest (in_wider (kinds.Equal ∷ []) comparisons p.kind refl k) at (v, is_value, same))

    -- "=" and a column
    equal_column : (p q : Terminal) (rest rest2 : List Terminal) → has (kinds.Equal ∷ []) p.kind ≡ true → back ≡ p ∷ rest → has names q.kind ≡ true → rest ≡ q ∷ rest2 → IsOver d tied_test (m, q.span) rest2 b → IsOver e printed.plain_cond (tt {0}) ps b
    unfolding printed.tied tied_test column after_name
    equal_column p q rest rest2 k at kq at2 (o, h, eb) =
        let other = put e names (λ _ p. p.span) after_name (tt {0}) rest o q rest2 kq at2 h in
        tied_there (put e (kinds.Equal ∷ []) (λ c _. c) (Use (λ _. tt) column (λ c other. Tied c other)) m back b p rest k at (o, other, eb))

    equal_date : (p q : Terminal) (rest rest2 : List Terminal) → has (kinds.Equal ∷ []) p.kind ≡ true → back ≡ p ∷ rest → has (kinds.Date ∷ []) q.kind ≡ true → rest ≡ q ∷ rest2 → IsOver d after_equal_date (m, q.span) rest2 b → IsOver e printed.plain_cond (tt {0}) ps b
    unfolding after_equal_date value
    equal_date p q rest rest2 k at kq at2 (inl (t, kt, et, eb)) =
        equal_value p rest (day_literal t) k at (inl (put d (kinds.Date ∷ []) (λ u _. u) (Take (kinds.Day ∷ []) (λ _ p. day_literal p)) (tt {0}) rest (day_literal t) q rest2 kq at2 (t, kt, et, refl))) eb
    equal_date p q rest rest2 k at kq at2 (inr h) = equal_column p q rest rest2 k at (date_is_name q.kind kq) at2 h

    equal_there : (p : Terminal) (rest : List Terminal) → has (kinds.Equal ∷ []) p.kind ≡ true → back ≡ p ∷ rest → IsOver d equal_test m rest b → IsOver e printed.plain_cond (tt {0}) ps b
    unfolding equal_test value
    equal_there p rest k at (inl h) =
        let (q, rest2, kq, at2, h2) = took d (kinds.Date ∷ []) beside_span after_equal_date m rest b h in
        equal_date p q rest rest2 k at kq at2 h2
    equal_there p rest k at (inr (inl h)) =
        let (q, rest2, kq, at2, h2) = took d plain_names beside_span tied_test m rest b h in
        equal_column p q rest rest2 k at (plain_is_name q.kind kq) at2 h2
    equal_there p rest k at (inr (inr (v, h, eb))) = equal_value p rest v k at (inr h) eb

    unequal_there : IsOver d unequal_test m back b → IsOver e printed.plain_cond (tt {0}) ps b
    unfolding unequal_test printed.compared
    unequal_there h =
        let (p, rest, k, at, t) = took d unequal beside_kind (Use (λ _. tt) value (λ s v. Compared s.0 (compare_of s.1) v)) m back b h in
        let (v, hv, eb) = t in
        compared_there (put e comparisons beside_kind (Use (λ _. tt) printed.value (λ s v. Compared s.0 (compare_of s.1) v)) m back b p rest (in_wider unequal comparisons p.kind refl k) at (v, (value_same d e).there (tt {0}) rest v hv, eb))

    column_there : IsOver d column_test m back b → IsOver e printed.plain_cond (tt {0}) ps b
    unfolding column_test printed.plain_cond
    column_there (inl h) =
        let (p, rest, k, at, h2) = took d (kinds.Equal ∷ []) (λ c _. c) equal_test m back b h in
        equal_there p rest k at h2
    column_there (inr (inl h)) = unequal_there h
    column_there (inr (inr (inl h))) = inr (inr (inr (inl (front, back, m, split, is_column, between_same.there m back b h))))
    column_there (inr (inr (inr (inl h)))) = inr (inr (inr (inr (inl (front, back, m, split, is_column, one_of_same.there m back b h)))))
    column_there (inr (inr (inr (inr (inl h))))) = inr (inr (inr (inr (inr (inl (front, back, m, split, is_column, like_same.there m back b h))))))
    column_there (inr (inr (inr (inr (inr h))))) = inr (inr (inr (inr (inr (inr (front, back, m, split, is_column, null_same.there m back b h))))))

  -- a test behind the name of its column
  name_there : (ps : List Terminal) (b : Condition) (p : Terminal) (rest : List Terminal) → has names p.kind ≡ true → ps ≡ p ∷ rest → IsOver d after_test_name p.span rest b → IsOver e printed.plain_cond (tt {0}) ps b
  unfolding after_test_name column after_name
  name_there ps b p rest k at (front, back, m, split, h, t) =
      let is_column = put e names (λ _ p. p.span) after_name (tt {0}) (p ∷ front) m p front k refl h in
      column_there ps b (p ∷ front) back m (at ∙ ap (λ (x : List Terminal). p ∷ x) split) is_column t

  value_there : (ps : List Terminal) (b : Condition) (front back : List Terminal) (v : Literal) → ps ≡ front ++ back → IsOver d value (tt {0}) front v → IsOver d turned_test v back b → IsOver e printed.plain_cond (tt {0}) ps b
  unfolding printed.plain_cond
  value_there ps b front back v split h t = inr (inl (front, back, v, split, (value_same d e).there (tt {0}) front v h, turned_same.there v back b t))

  date_there : (ps : List Terminal) (b : Condition) (p : Terminal) (rest : List Terminal) → has (kinds.Date ∷ []) p.kind ≡ true → ps ≡ p ∷ rest → IsOver d after_test_date p.span rest b → IsOver e printed.plain_cond (tt {0}) ps b
  unfolding after_test_date value
  date_there ps b p rest k at (inl h) =
      let (q, rest2, kq, at2, t) = took d (kinds.Day ∷ []) (λ _ p. day_literal p) turned_test p.span rest b h in
      let is_value = put d (kinds.Date ∷ []) (λ u _. u) (Take (kinds.Day ∷ []) (λ _ p. day_literal p)) (tt {0}) (p ∷ q ∷ []) (day_literal q) p (q ∷ []) k refl (q, kq, refl, refl) in
      value_there ps b (p ∷ q ∷ []) rest2 (day_literal q) (at ∙ ap (λ (x : List Terminal). p ∷ x) at2) (inl is_value) t
  date_there ps b p rest k at (inr h) = name_there ps b p rest (date_is_name p.kind k) at h

  test_there : (a : Unit {0}) (ps : List Terminal) (b : Condition) → IsOver d plain_condition a ps b → IsOver e printed.plain_cond a ps b
  unfolding plain_condition value
  test_there a ps b (inl h) =
      let (p, rest, k, at, h2) = took d (kinds.Date ∷ []) (λ _ p. p.span) after_test_date (tt {0}) ps b h in
      date_there ps b p rest k at h2
  test_there a ps b (inr (inl h)) =
      let (p, rest, k, at, h2) = took d plain_names (λ _ p. p.span) after_test_name (tt {0}) ps b h in
      name_there ps b p rest (plain_is_name p.kind k) at h2
  test_there a ps b (inr (inr (front, back, v, split, h, t))) = value_there ps b front back v split (inr h) t

  -- what stands behind the name of a column, in a test
  behind_name : (ps : List Terminal) (b : Condition) (p : Terminal) (rest : List Terminal) → has names p.kind ≡ true → ps ≡ p ∷ rest → IsOver d after_test_name p.span rest b → IsOver d plain_condition (tt {0}) ps b
  unfolding plain_condition after_test_date
  behind_name ps b p rest k at h =
      elim (name_parts p.kind k) [
        | inl plain ↦ inr (inl (put d plain_names (λ _ p. p.span) after_test_name (tt {0}) ps b p rest plain at h))
        | inr date ↦ inl (put d (kinds.Date ∷ []) (λ _ p. p.span) after_test_date (tt {0}) ps b p rest date at (inr h))
      ]

  column_back : (ps : List Terminal) (b : Condition) (front back : List Terminal) (m : NameUse) → ps ≡ front ++ back → IsOver e column (tt {0}) front m → IsOver d column_test m back b → IsOver d plain_condition (tt {0}) ps b
  unfolding column after_name after_test_name
  column_back ps b front back m split h t =
      let (p, rest, k, at, h2) = took e names (λ _ p. p.span) after_name (tt {0}) front m h in
      behind_name ps b p (rest ++ back) k (split ∙ ap (λ (x : List Terminal). x ++ back) at) (rest, back, m, refl, h2, t)

  -- "=" and a value, behind a column
  equal_value_back : (m : NameUse) (rest : List Terminal) (v : Literal) (b : Condition) → IsOver d value (tt {0}) rest v → b ≡ Compared m compares.Equal v → IsOver d equal_test m rest b
  unfolding value equal_test after_equal_date
  equal_value_back m rest v b (inl h) eb =
      let (q, rest2, k, at, t) = took d (kinds.Date ∷ []) (λ u _. u) (Take (kinds.Day ∷ []) (λ _ p. day_literal p)) (tt {0}) rest v h in
      let (p, kp, ep, ev) = t in
      inl (put d (kinds.Date ∷ []) beside_span after_equal_date m rest b q rest2 k at (inl (p, kp, ep, eb ∙ ap (Compared m compares.Equal) ev)))
  equal_value_back m rest v b (inr h) eb = inr (inr (v, h, eb))

  compared_back : (m : NameUse) (ps : List Terminal) (b : Condition) → IsOver e printed.compared m ps b → IsOver d column_test m ps b
  unfolding printed.compared column_test unequal_test
  compared_back m ps b h =
      let (p, rest, k, at, t) = took e comparisons beside_kind (Use (λ _. tt) printed.value (λ s v. Compared s.0 (compare_of s.1) v)) m ps b h in
      let (v, hv, eb) = t in
      let is_value = (value_same d e).back (tt {0}) rest v hv in
      elim (comparison_parts p.kind k) [
        | inl equal ↦
            let same : b ≡ Compared m compares.Equal v = eb ∙ ap (λ (c : Compare). Compared m c v) (compares_equal p.kind equal) in
            inl (put d (kinds.Equal ∷ []) (λ c _. c) equal_test m ps b p rest equal at (equal_value_back m rest v b is_value same))
        | inr other ↦ inr (inl (put d unequal beside_kind (Use (λ _. tt) value (λ s v. Compared s.0 (compare_of s.1) v)) m ps b p rest other at (v, is_value, eb)))
      ]

  -- "=" and a column, behind a column
  equal_column_back : (m : NameUse) (rest : List Terminal) (b : Condition) (q : Terminal) (rest2 : List Terminal) → has names q.kind ≡ true → rest ≡ q ∷ rest2 → IsOver d tied_test (m, q.span) rest2 b → IsOver d equal_test m rest b
  unfolding equal_test after_equal_date
  equal_column_back m rest b q rest2 k at h =
      elim (name_parts q.kind k) [
        | inl plain ↦ inr (inl (put d plain_names beside_span tied_test m rest b q rest2 plain at h))
        | inr date ↦ inl (put d (kinds.Date ∷ []) beside_span after_equal_date m rest b q rest2 date at (inr h))
      ]

  tied_back : (m : NameUse) (ps : List Terminal) (b : Condition) → IsOver e printed.tied m ps b → IsOver d column_test m ps b
  unfolding printed.tied column_test column after_name tied_test
  tied_back m ps b h =
      let (p, rest, k, at, t) = took e (kinds.Equal ∷ []) (λ c _. c) (Use (λ _. tt) column (λ c other. Tied c other)) m ps b h in
      let (o, ho, eb) = t in
      let (q, rest2, kq, at2, h2) = took e names (λ _ p. p.span) after_name (tt {0}) rest o ho in
      inl (put d (kinds.Equal ∷ []) (λ c _. c) equal_test m ps b p rest k at (equal_column_back m rest b q rest2 kq at2 (o, h2, eb)))

  value_back : (ps : List Terminal) (b : Condition) (front back : List Terminal) (v : Literal) → ps ≡ front ++ back → IsOver d value (tt {0}) front v → IsOver d turned_test v back b → IsOver d plain_condition (tt {0}) ps b
  unfolding value plain_condition after_test_date
  value_back ps b front back v split (inl h) t =
      let (p, rest, k, at, u) = took d (kinds.Date ∷ []) (λ u _. u) (Take (kinds.Day ∷ []) (λ _ p. day_literal p)) (tt {0}) front v h in
      let (q, kq, eq, ev) = u in
      let whole : ps ≡ p ∷ (q ∷ back) = split ∙ ap (λ (x : List Terminal). x ++ back) at ∙ ap (λ (x : List Terminal). p ∷ (x ++ back)) eq in
      let day = put d (kinds.Day ∷ []) (λ _ p. day_literal p) turned_test p.span (q ∷ back) b q back kq refl (subst (λ (x : Literal). IsOver d turned_test x back b) ev t) in
      inl (put d (kinds.Date ∷ []) (λ _ p. p.span) after_test_date (tt {0}) ps b p (q ∷ back) k whole (inl day))
  value_back ps b front back v split (inr h) t = inr (inr (front, back, v, split, h, t))

  test_back : (a : Unit {0}) (ps : List Terminal) (b : Condition) → IsOver e printed.plain_cond a ps b → IsOver d plain_condition a ps b
  unfolding printed.plain_cond column_test
  test_back a ps b (inl (front, back, m, split, h, t)) = column_back ps b front back m split h (compared_back m back b t)
  test_back a ps b (inr (inl (front, back, v, split, h, t))) = value_back ps b front back v split ((value_same d e).back (tt {0}) front v h) (turned_same.back v back b t)
  test_back a ps b (inr (inr (inl (front, back, m, split, h, t)))) = column_back ps b front back m split h (tied_back m back b t)
  test_back a ps b (inr (inr (inr (inl (front, back, m, split, h, t))))) = column_back ps b front back m split h (inr (inr (inl (between_same.back m back b t))))
  test_back a ps b (inr (inr (inr (inr (inl (front, back, m, split, h, t)))))) = column_back ps b front back m split h (inr (inr (inr (inl (one_of_same.back m back b t)))))
  test_back a ps b (inr (inr (inr (inr (inr (inl (front, back, m, split, h, t))))))) = column_back ps b front back m split h (inr (inr (inr (inr (inl (like_same.back m back b t))))))
  test_back a ps b (inr (inr (inr (inr (inr (inr (front, back, m, split, h, t))))))) = column_back ps b front back m split h (inr (inr (inr (inr (inr (null_same.back m back b t))))))

  -- cond, but for "(" conds ")"
  pub test_same : Same d e plain_condition printed.plain_cond
  test_same = record { there = test_there; back = test_back }

module _ (d e : (x : Nesting) → Meaning (State x) (State x)) (linked : Linked d e) where
  -- cond, put behind those before
  pub cond_same : Same d e condition printed.cond
  unfolding condition printed.cond
  cond_same = either_same d e _ _ linked.conditions (use_same d e _ _ (test_same d e))

  -- conds = cond { AND cond }
  pub conds_same : Same d e conditions printed.conds
  unfolding conditions more_conditions and_condition printed.conds
  conds_same = then_same d e cond_same (many_same d e _ _ (then_same d e (take_same d e _ _) cond_same))

  -- "(" conds ")"
  pub nested_same : Same d e nested_conditions printed.nested_conds
  unfolding nested_conditions printed.nested_conds
  nested_same = then_same d e (take_same d e _ _) (then_same d e conds_same (take_same d e _ _))

  -- [WHERE conds]
  pub where_same : Same d e where_conditions printed.where_conds
  unfolding where_conditions printed.where_conds
  where_same = either_same d e _ _ (then_same d e (take_same d e _ _) conds_same) (give_same d e _)
