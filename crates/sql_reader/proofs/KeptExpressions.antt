-- What the names, values, expressions and conditions of a text of n bytes keep.
use Rattle.std.proofs.Common.{◌≡◌, ℕ, ◌+◌, ◌^◌, ◌<◌, ◌≤◌, Bool, true, false, ◌&&◌, List, [], ◌∷◌, ◌++◌, length, Option, Some, None, nat_le, nat_lt, nat_abs, ℤ, refl, ◌∙◌, arith, rules, tests, length-append, if◌then◌else◌}
use Rattle.std.specs.List.{list_all}
use Rattle.std.proofs.lemmas.List.Folds.{list_all-append}
use Rattle.std.proofs.lemmas.Bool.{le-leb, and_from, lt-ltb}
use Rattle.sql_reader.specs.declared.kind.TerminalKind.{TerminalKind}
use Rattle.sql_reader.specs.declared.kind.TerminalKind.TheVariants as kinds
use Rattle.sql_reader.specs.declared.terminal.Terminal.{Terminal}
use Rattle.sql_reader.specs.declared.seen.ExprForm.TheVariants as forms
use Rattle.sql_reader.specs.declared.seen.Seen.{Seen}
use Rattle.sql_reader.specs.declared.parsed.Literal.{Literal}
use Rattle.sql_reader.specs.declared.parsed.Literal.TheVariants as literals
use Rattle.sql_reader.specs.declared.parsed.Condition.{Condition}
use Rattle.sql_reader.specs.Rule.{Nesting, State, Rule, Nest, Conditions, Parenthesis, Call, Signed, Meaning}
use Rattle.sql_reader.specs.Values.{not_alone, is_column, literal_form, literal_of, literal_of_kind, whole_literal, negative, signed, expr_of}
use Rattle.sql_reader.specs.Valid.{span_in, option_in, name_in, source_in, literal_in, condition_in, are_few, one_if_plain, expr_in}
use Rattle.sql_reader.specs.Words.{is_good_weight}
use Rattle.sql_reader.specs.Grammar.{after_name, column, null_test}
use Rattle.sql_reader.specs.Printed as printed
use Rattle.sql_reader.proofs.KindSets.{not_both}
use Rattle.sql_reader.proofs.Keeps.{Known, Free, Scale, Keeps, give_keeps, take_keeps, then_keeps, use_keeps, either_keeps, many_keeps, known_keeps, free_keeps}

-- a terminal lies in the text, and its weight was judged
abbrev pub InText : ℕ → Terminal → Type 0
InText n p = (span_in n p.span ≡ true) × (is_good_weight p.mark.weight ≡ true)

abbrev pub text_scale : ℕ → ((x : Nesting) → Meaning (State x) (State x)) → Scale
text_scale n d = record { weigh = λ p. 1; limit = 2 ^ 32; Good = InText n; deeper = d }

-- what is known of values

-- at most as many as the terminals, and each passes a test
abbrev pub Few : {X : Type 0} → (X → Bool) → ℕ → List X → Type 0
Few f k xs = (length xs ≤ k) × (list_all f xs ≡ true)

-- something was read, and passes a test
abbrev pub Passes : {X : Type 0} → (X → Bool) → ℕ → X → Type 0
Passes f k x = (1 ≤ k) × (f x ≡ true)

pub some : (k : ℕ) → 1 ≤ k + 1
some k = omega arith

pub few_none : {X : Type 0} (f : X → Bool) (k : ℕ) → Few f k []
few_none f k = (omega arith, refl)

pub few_more : {X : Type 0} (f : X → Bool) (k j : ℕ) (xs : List X) (x : X) → k + 1 ≤ j → Few f k xs → f x ≡ true → Few f j (xs ++ x ∷ [])
few_more f k j xs x room (short, all) h =
    (omega (arith, room, short, length-append xs (x ∷ [])), list_all-append f xs (x ∷ []) ∙ and_from (list_all f xs) (list_all f (x ∷ [])) all (and_from (f x) true h refl))

pub few_later : {X : Type 0} (f : X → Bool) (k j : ℕ) (xs : List X) → k ≤ j → Few f k xs → Few f j xs
few_later f k j xs room (short, all) = (omega (arith, room, short), all)

pub few_in : {X : Type 0} (f : X → Bool) (k : ℕ) (xs : List X) → k < 2 ^ 32 → Few f k xs → (are_few (length xs) && list_all f xs) ≡ true
few_in f k xs room (short, all) = and_from (are_few (length xs)) (list_all f xs) (lt-ltb (length xs) (2 ^ 32) (omega (arith, room, short))) all

-- the columns of an expression
abbrev pub Loose : ℕ → ℕ → Seen → Type 0
Loose n k found = Few (name_in n) k found.uses

-- and something was read
abbrev pub Taken : ℕ → ℕ → Seen → Type 0
Taken n k found = (1 ≤ k) × Loose n k found

-- behind so many columns
abbrev pub At : ℕ → ℕ → ℕ → Seen → Type 0
At n before k found = Loose n k found × (length found.uses ≡ before)

-- an expression behind so many columns: where it is a column and nothing else, that is one more
pub record Alone (n before k : ℕ) (found : Seen) : Type 0 where
  pub some_read : 1 ≤ k
  pub loose : Loose n k found
  pub one : is_column found.form ≡ true → length found.uses ≡ before + 1

not_column_literal : (kind : TerminalKind) (number : Option ℤ) → is_column (literal_form kind number) ≡ false
not_column_literal kinds.Whole None = refl
not_column_literal kinds.Whole (Some m) = by_size (nat_lt (nat_abs m) (2 ^ 32))
  where
    by_size : (b : Bool) → is_column (if b then forms.Number (nat_abs m) else forms.Other) ≡ false
    by_size true = refl
    by_size false = refl
not_column_literal _ number = refl

plain_one : (b : Bool) (count : ℕ) → (b ≡ true → count ≡ 0 + 1) → one_if_plain b count ≡ true
plain_one true count h = search (tests, rules)
plain_one false count h = refl

-- an expression that stands alone
pub expr_known : (n k : ℕ) (found : Seen) → k < 2 ^ 32 → Alone n 0 k found → expr_in n (expr_of found) ≡ true
expr_known n k found room known =
    and_from (are_few (length found.uses) && list_all (name_in n) found.uses) (one_if_plain (is_column found.form) (length found.uses)) (few_in (name_in n) k found.uses room known.loose)
    (plain_one (is_column found.form) (length found.uses) known.one)

literal_known_kind : (n : ℕ) (kind : TerminalKind) (p : Terminal) → span_in n p.span ≡ true → literal_in n (literal_of_kind kind p) ≡ true
literal_known_kind n kinds.Whole p h = by_number p.number
  where
    by_number : (number : Option ℤ) → literal_in n (whole_literal number) ≡ true
    by_number None = refl
    by_number (Some m) = refl
literal_known_kind n kinds.Text p h = h
literal_known_kind n kinds.Day p h = h
literal_known_kind n _ p h = refl

negative_known : (n : ℕ) (l : Literal) → literal_in n l ≡ true → literal_in n (negative l) ≡ true
negative_known n (literals.Whole m) h = refl
negative_known n (literals.Day m) h = h
negative_known n (literals.Text s) h = h
negative_known n literals.Other h = h

signed_known : (n : ℕ) (sign : TerminalKind) (p : Terminal) → span_in n p.span ≡ true → literal_in n (signed sign p) ≡ true
signed_known n kinds.Minus p h = negative_known n (literal_of p) (literal_known_kind n p.kind p h)
signed_known n _ p h = literal_known_kind n p.kind p h

-- what nested forms keep
pub record NestedKeep (n : ℕ) (d : (x : Nesting) → Meaning (State x) (State x)) : Type 0 where
  pub conditions : Keeps (text_scale n d) (Few (condition_in n)) (Nest Conditions) (Few (condition_in n))
  pub parenthesis : (before : ℕ) → Keeps (text_scale n d) (At n before) (Nest Parenthesis) (Alone n before)
  pub call : (before : ℕ) → Keeps (text_scale n d) (At n before) (Nest Call) (Alone n before)
  pub signed_operand : (before : ℕ) → Keeps (text_scale n d) (At n before) (Nest Signed) (Alone n before)

-- what ends is more than a column alone
pub ended : (n before k j : ℕ) (found : Seen) → k ≤ j → 1 ≤ j → Loose n k found → Alone n before j (not_alone found)
ended n before k j found room first known = record { some_read = first; loose = few_later (name_in n) k j found.uses room known; one = λ h. cc }

module _ (n : ℕ) (d : (x : Nesting) → Meaning (State x) (State x)) where
  abbrev c : Scale
  c = text_scale n d

  -- names and values

  after_name_keeps : Keeps c (Passes (span_in n)) after_name (Passes (name_in n))
  unfolding after_name
  after_name_keeps =
      either_keeps c
      (then_keeps c (Passes (span_in n)) (take_keeps c (λ k s p room among good known. (some k, known.1)))
      (take_keeps c (λ k s p room among good known. (some k, and_from (span_in n s) (span_in n p.span) known.1 good.0))))
      (give_keeps c (λ k s room known. known))

  -- column = name [ "." name ]
  pub column_keeps : Keeps c Free column (Passes (name_in n))
  unfolding column
  column_keeps = then_keeps c (Passes (span_in n)) (take_keeps c (λ k u p room among good known. (some k, good.0))) after_name_keeps

  -- [[AS] name]
  pub alias_keeps : Keeps c Free printed.alias (λ k o. option_in n o ≡ true)
  unfolding printed.alias
  alias_keeps = either_keeps c (then_keeps c Free (free_keeps c) (take_keeps c (λ k u p room among good known. good.0))) (give_keeps c (λ k u room known. refl))

  -- source = name [[AS] name]
  pub source_keeps : Keeps c Free printed.source (Passes (source_in n))
  unfolding printed.source
  source_keeps =
      then_keeps c (Passes (span_in n)) (take_keeps c (λ k u p room among good known. (some k, good.0)))
      (use_keeps c Free (λ k o. option_in n o ≡ true) alias_keeps (λ k s known. tt)
      (λ k i s o room known other. (omega (arith, known.0), and_from (span_in n s) (option_in n o) known.1 other)))

  literal_keeps : Keeps c Free printed.literal (λ k l. literal_in n l ≡ true)
  unfolding printed.literal
  literal_keeps =
      either_keeps c (take_keeps c (λ k u p room among good known. literal_known_kind n p.kind p good.0))
      (then_keeps c Free (free_keeps c) (take_keeps c (λ k u p room among good known. refl)))

  -- value = literal | ("+" | "-") (Whole | Decimal)
  value_keeps : Keeps c Free printed.value (λ k l. literal_in n l ≡ true)
  unfolding printed.value
  value_keeps =
      either_keeps c literal_keeps
      (then_keeps c Free (free_keeps c) (take_keeps c (λ k sign p room among good known. signed_known n sign p good.0)))

  -- rules that add to a list

  -- a word or sign that says no more than that it stands there
  pub word_keeps : {A : Type 0} {P : Known A} {kind : TerminalKind} → ((k j : ℕ) (a : A) → k ≤ j → P k a → P j a) → Keeps c P (printed.word kind) P
  word_keeps later = take_keeps c (λ k a p room among good known. later k (k + 1) a (omega arith) known)

  pub maybe_keeps : {A : Type 0} {P : Known A} {r : Rule A A} → Keeps c P r P → Keeps c P (printed.maybe r) P
  maybe_keeps f = either_keeps c f (give_keeps c (λ k a room known. known))

  -- rule { "," rule }
  pub commas_keeps : {A : Type 0} {P Q : Known A} {r : Rule A A} → ((k j : ℕ) (a : A) → k ≤ j → Q k a → Q j a) → Keeps c P r Q → Keeps c Q r Q → Keeps c P (printed.commas r) Q
  commas_keeps {Q = Q} later f g = then_keeps c Q f (many_keeps c (then_keeps c Q (word_keeps later) g))

  pub behind_keeps : {X : Type 0} {r : Rule (Unit {0}) X} (f : X → Bool) → Keeps c Free r (Passes f) → Keeps c (Few f) (printed.behind r) (Few f)
  behind_keeps f g = use_keeps c Free (Passes f) g (λ k xs known. tt) (λ k i xs x room known new. few_more f k (k + i) xs x (omega (arith, new.0)) known new.1)

  -- expressions

  module _ (nested : NestedKeep n d) where
    literal_operand_keeps : (before : ℕ) → Keeps c (At n before) printed.literal_operand (Alone n before)
    unfolding printed.literal_operand
    literal_operand_keeps before =
        either_keeps c
        (take_keeps c (λ k found p room among good known.
        record {
          some_read = some k;
          loose = few_later (name_in n) k (k + 1) found.uses (omega arith) known.0;
          one = λ h. not_both (is_column (literal_form p.kind p.number)) h (not_column_literal p.kind p.number);
        }))
        (then_keeps c (Loose n) (take_keeps c (λ k found p room among good known. few_later (name_in n) k (k + 1) found.uses (omega arith) known.0))
        (take_keeps c (λ k found p room among good known. ended n before k (k + 1) found (omega arith) (some k) known)))

    -- prim = ("+" | "-") prim | "(" expr ")" | literal | column | call
    pub prim_keeps : (before : ℕ) → Keeps c (At n before) printed.prim (Alone n before)
    unfolding printed.prim
    prim_keeps before =
        either_keeps c (nested.signed_operand before)
        (either_keeps c (nested.parenthesis before)
        (either_keeps c (literal_operand_keeps before)
        (either_keeps c
        (use_keeps c Free (Passes (name_in n)) column_keeps (λ k found known. tt)
        (λ k i found name room known new.
        record {
          some_read = omega (arith, new.0);
          loose = few_more (name_in n) k (k + i) found.uses name (omega (arith, new.0)) known.0 new.1;
          one = λ h. omega (arith, length-append found.uses (name ∷ []), known.1);
        }))
        (nested.call before))))

    -- where it doesn't matter how many columns stand before
    loosely : {r : Rule Seen Seen} → ((before : ℕ) → Keeps c (At n before) r (Alone n before)) → Keeps c (Loose n) r (Taken n)
    loosely f = record {
      keeps = λ k j a ps b e room good known is.
          let h = (f (length a.uses)).keeps k j a ps b e room good (known, refl) is in
          (h.some_read, h.loose);
    }

    -- expr = prim { ("+" | "-" | "*" | "/" | "%" | "||") prim }
    pub expr_keeps : (before : ℕ) → Keeps c (At n before) printed.expr (Alone n before)
    unfolding printed.expr
    expr_keeps before =
        then_keeps c (Alone n before) (prim_keeps before)
        (many_keeps c (then_keeps c (Loose n) (take_keeps c (λ k found p room among good known. few_later (name_in n) k (k + 1) found.uses (omega arith) known.loose))
        (then_keeps c (Taken n) (loosely prim_keeps)
        (give_keeps c (λ k found room known. ended n before k k found (omega arith) known.0 known.1)))))

    pub loose_expr : Keeps c (Loose n) printed.expr (Loose n)
    loose_expr = known_keeps c (λ k a h. h) (λ k b h. h.1) (loosely expr_keeps)

    pub loose_later : (k j : ℕ) (found : Seen) → k ≤ j → Loose n k found → Loose n j found
    loose_later k j found room known = few_later (name_in n) k j found.uses room known

    -- expr { "," expr }
    pub exprs_keeps : Keeps c (Loose n) (printed.commas printed.expr) (Loose n)
    exprs_keeps = commas_keeps loose_later loose_expr loose_expr

    closed_keeps : (before : ℕ) → Keeps c (Loose n) printed.closed (Alone n before)
    unfolding printed.closed
    closed_keeps before = take_keeps c (λ k found p room among good known. ended n before k (k + 1) found (omega arith) (some k) known)

    call_name_keeps : Keeps c (Loose n) printed.call_name (Loose n)
    unfolding printed.call_name
    call_name_keeps = take_keeps c (λ k found p room among good known. few_later (name_in n) k (k + 1) found.uses (omega arith) known)

    loose_call : (before : ℕ) → Keeps c (Loose n) printed.call (Alone n before)
    unfolding printed.call
    loose_call before =
        either_keeps c (then_keeps c (Loose n) call_name_keeps (then_keeps c (Loose n) (word_keeps loose_later) (closed_keeps before)))
        (either_keeps c
        (then_keeps c (Loose n) call_name_keeps (then_keeps c (Loose n) (word_keeps loose_later)
        (then_keeps c (Loose n) (take_keeps c (λ k found p room among good known. few_later (name_in n) k (k + 1) found.uses (omega arith) known)) (closed_keeps before))))
        (then_keeps c (Loose n) call_name_keeps (then_keeps c (Loose n) (word_keeps loose_later)
        (then_keeps c (Loose n) (maybe_keeps (word_keeps loose_later)) (then_keeps c (Loose n) exprs_keeps (closed_keeps before))))))

    pub call_keeps : (before : ℕ) → Keeps c (At n before) printed.call (Alone n before)
    call_keeps before = known_keeps c (λ k found known. known.0) (λ k found known. known) (loose_call before)

    -- "(" expr ")"
    pub parenthesis_keeps : (before : ℕ) → Keeps c (At n before) printed.parenthesis (Alone n before)
    unfolding printed.parenthesis
    parenthesis_keeps before =
        then_keeps c (Loose n) (known_keeps c (λ k found known. known.0) (λ k found known. known) (word_keeps loose_later))
        (then_keeps c (Loose n) loose_expr (closed_keeps before))

    -- ("+" | "-") prim
    pub signed_keeps : (before : ℕ) → Keeps c (At n before) printed.signed_prim (Alone n before)
    unfolding printed.signed_prim
    signed_keeps before =
        then_keeps c (Loose n) (take_keeps c (λ k found p room among good known. few_later (name_in n) k (k + 1) found.uses (omega arith) known.0))
        (then_keeps c (Taken n) (loosely prim_keeps)
        (give_keeps c (λ k found room known. ended n before k k found (omega arith) known.0 known.1)))

  -- conditions

  compared_keeps : Keeps c (Passes (name_in n)) printed.compared (Passes (condition_in n))
  unfolding printed.compared
  compared_keeps =
      then_keeps c (λ k s. Passes (name_in n) k s.0) (take_keeps c (λ k u p room among good known. (some k, known.1)))
      (use_keeps c Free (λ k l. literal_in n l ≡ true) value_keeps (λ k s known. tt)
      (λ k i s l room known new. (omega (arith, known.0), and_from (name_in n s.0) (literal_in n l) known.1 new)))

  turned_keeps : Keeps c (λ k l. literal_in n l ≡ true) printed.compared_turned (Passes (condition_in n))
  unfolding printed.compared_turned
  turned_keeps =
      then_keeps c (λ k s. literal_in n s.0 ≡ true) (take_keeps c (λ k l p room among good known. known))
      (use_keeps c Free (Passes (name_in n)) column_keeps (λ k s known. tt)
      (λ k i s u room known new. (omega (arith, new.0), and_from (name_in n u) (literal_in n s.0) new.1 known)))

  tied_keeps : Keeps c (Passes (name_in n)) printed.tied (Passes (condition_in n))
  unfolding printed.tied
  tied_keeps =
      then_keeps c (Passes (name_in n)) (take_keeps c (λ k u p room among good known. (some k, known.1)))
      (use_keeps c Free (Passes (name_in n)) column_keeps (λ k s known. tt)
      (λ k i s u room known new. (omega (arith, known.0), and_from (name_in n s) (name_in n u) known.1 new.1)))

  between_keeps : Keeps c (Passes (name_in n)) printed.between (Passes (condition_in n))
  unfolding printed.between
  between_keeps =
      then_keeps c (Passes (name_in n)) (take_keeps c (λ k u p room among good known. (some k, known.1)))
      (then_keeps c (λ k s. Passes (name_in n) k s.0 × (literal_in n s.1 ≡ true))
      (use_keeps c Free (λ k l. literal_in n l ≡ true) value_keeps (λ k s known. tt) (λ k i s l room known new. ((omega (arith, known.0), known.1), new)))
      (then_keeps c (λ k s. Passes (name_in n) k s.0 × (literal_in n s.1 ≡ true)) (take_keeps c (λ k s p room among good known. ((some k, known.0.1), known.1)))
      (use_keeps c Free (λ k l. literal_in n l ≡ true) value_keeps (λ k s known. tt)
      (λ k i s l room known new. (omega (arith, known.0.0), and_from (name_in n s.0) (literal_in n s.1 && literal_in n l) known.0.1 (and_from (literal_in n s.1) (literal_in n l) known.1 new))))))

  nat_le_more : (m : ℕ) → nat_le 1 (m + 1) ≡ true
  nat_le_more m = le-leb 1 (m + 1) (omega arith)

  values_keeps : Keeps c Free printed.values (λ k m. nat_le 1 m ≡ true)
  unfolding printed.values
  values_keeps =
      then_keeps c (λ k m. nat_le 1 m ≡ true) (use_keeps c Free Free (free_keeps c) (λ k s known. tt) (λ k i s l room known new. refl))
      (many_keeps c (then_keeps c Free (free_keeps c) (use_keeps c Free Free (free_keeps c) (λ k s known. tt) (λ k i m l room known new. nat_le_more m))))

  one_of_keeps : Keeps c (Passes (name_in n)) printed.one_of (Passes (condition_in n))
  unfolding printed.one_of
  one_of_keeps =
      then_keeps c (Passes (name_in n)) (take_keeps c (λ k u p room among good known. (some k, known.1)))
      (then_keeps c (Passes (name_in n)) (take_keeps c (λ k u p room among good known. (some k, known.1)))
      (then_keeps c (λ k s. (name_in n s.0 ≡ true) × (nat_le 1 s.1 ≡ true))
      (use_keeps c Free (λ k m. nat_le 1 m ≡ true) values_keeps (λ k s known. tt) (λ k i u m room known new. (known.1, new)))
      (take_keeps c (λ k s p room among good known. (some k, and_from (name_in n s.0) (nat_le 1 s.1) known.0 known.1)))))

  like_keeps : Keeps c (Passes (name_in n)) printed.like (Passes (condition_in n))
  unfolding printed.like
  like_keeps =
      then_keeps c (Passes (name_in n)) (take_keeps c (λ k u p room among good known. (some k, known.1)))
      (use_keeps c Free Free (free_keeps c) (λ k s known. tt) (λ k i u l room known new. (omega (arith, known.0), known.1)))

  null_keeps : Keeps c (Passes (name_in n)) null_test (Passes (condition_in n))
  unfolding null_test
  null_keeps =
      then_keeps c (Passes (name_in n)) (take_keeps c (λ k u p room among good known. (some k, known.1)))
      (either_keeps c
      (then_keeps c (Passes (name_in n)) (take_keeps c (λ k u p room among good known. (some k, known.1))) (take_keeps c (λ k u p room among good known. (some k, known.1))))
      (take_keeps c (λ k u p room among good known. (some k, known.1))))

  plain_cond_keeps : Keeps c Free printed.plain_cond (Passes (condition_in n))
  unfolding printed.plain_cond
  plain_cond_keeps =
      either_keeps c (then_keeps c (Passes (name_in n)) column_keeps compared_keeps)
      (either_keeps c (then_keeps c (λ k l. literal_in n l ≡ true) value_keeps turned_keeps)
      (either_keeps c (then_keeps c (Passes (name_in n)) column_keeps tied_keeps)
      (either_keeps c (then_keeps c (Passes (name_in n)) column_keeps between_keeps)
      (either_keeps c (then_keeps c (Passes (name_in n)) column_keeps one_of_keeps)
      (either_keeps c (then_keeps c (Passes (name_in n)) column_keeps like_keeps)
      (then_keeps c (Passes (name_in n)) column_keeps null_keeps))))))

  pub few_conditions_later : (k j : ℕ) (xs : List Condition) → k ≤ j → Few (condition_in n) k xs → Few (condition_in n) j xs
  few_conditions_later k j xs room known = few_later (condition_in n) k j xs room known

  module _ (nested : NestedKeep n d) where
    cond_keeps : Keeps c (Few (condition_in n)) printed.cond (Few (condition_in n))
    unfolding printed.cond
    cond_keeps = either_keeps c nested.conditions (behind_keeps (condition_in n) plain_cond_keeps)

    -- conds = cond { AND cond }
    pub conds_keeps : Keeps c (Few (condition_in n)) printed.conds (Few (condition_in n))
    unfolding printed.conds
    conds_keeps = then_keeps c (Few (condition_in n)) cond_keeps (many_keeps c (then_keeps c (Few (condition_in n)) (word_keeps few_conditions_later) cond_keeps))

    pub nested_conds_keeps : Keeps c (Few (condition_in n)) printed.nested_conds (Few (condition_in n))
    unfolding printed.nested_conds
    nested_conds_keeps =
        then_keeps c (Few (condition_in n)) (word_keeps few_conditions_later) (then_keeps c (Few (condition_in n)) conds_keeps (word_keeps few_conditions_later))

    pub where_keeps : Keeps c (Few (condition_in n)) printed.where_conds (Few (condition_in n))
    unfolding printed.where_conds
    where_keeps = maybe_keeps (then_keeps c (Few (condition_in n)) (word_keeps few_conditions_later) conds_keeps)
