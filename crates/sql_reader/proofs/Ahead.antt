-- The terminals that tokens are, as a function: they are what the tokens mean, and they come one by one.
use Rattle.std.proofs.Common.{◌≡◌, ℕ, ℤ, pos, neg_ℤ, ◌^◌, ◌<◌, ◌≤◌, ◌<ℤ◌, ◌≤ℤ◌, Bool, true, false, ◌&&◌, nat_le, int_lt, List, [], ◌∷◌, ◌++◌, length, Option, Some, None, option_and_then, All, refl, ap, ◌∙◌, subst, ◌⊎◌, inl, inr, arith, if◌then◌else◌}
use Rattle.std.specs.Option.{ForSome}
use Rattle.std.specs.List.{list_all}
use Rattle.std.specs.Char.{is_ascii_digit}
use Rattle.std.specs.Str.Parse.{digits_value}
use Rattle.std.proofs.lemmas.Bool.{and_parts, leb-true, cases_lt}
use Rattle.std.proofs.lemmas.Int.{ints}
use Rattle.std.proofs.lemmas.List.Elements.{All-head, All-tail}
use Rattle.std.proofs.lemmas.Str.Parse.{numerals_by_value, tells_by_index, digits_value_short}
use Rattle.adv_base.specs.Days.{day_number}
use Rattle.sql_tokens.specs.declared.token.Span.{Span}
use Rattle.sql_tokens.specs.declared.token.Token.{Token}
use Rattle.sql_tokens.specs.declared.token.TokenKind.{TokenKind}
use Rattle.sql_tokens.specs.declared.token.TokenKind.TheVariants as token
use Rattle.sql_tokens.specs.Ahead.{ahead}
use Rattle.sql_tokens.specs.Cut.{AreTokens}
use Rattle.sql_tokens.specs.Span.{LiesIn}
use Rattle.sql_tokens.proofs.Places.{tokens-lie}
use Rattle.sql_reader.specs.declared.kind.TerminalKind.{TerminalKind}
use Rattle.sql_reader.specs.declared.terminal.Terminal.{Terminal}
use Rattle.sql_reader.specs.declared.terminal.Mark.{Mark}
use Rattle.sql_reader.specs.Words.{whole_number, text_day, inside, if_18_digits, has_18_digits}
use Rattle.sql_reader.specs.Terminals.{bytes_of, kind_of, number_of, mark_behind, no_mark, is_weight, IsTerminal, WithToken, AreTerminals}
use Rattle.sql_reader.specs.inner.Ahead.{with_number, with_option, with_place, terminal_of_token, with_token, terminals_of, tokens_in, terminals_in, terminals_behind, from_next}
use Rattle.sql_reader.specs.inner.Kept.{cases_lt_ℤ, no_least, no_most, some_least, some_most}
use Rattle.sql_reader.proofs.Digits.{each_digit}
use Rattle.sql_reader.proofs.Limits.{few}
use Rattle.sql_reader.proofs.Same.{one_terminal}

-- the number of a token has at most 18 digits

abbrev Least : Option ℤ → Type 0
Least number = ForSome number (λ n. neg_ℤ (pos (10 ^ 18)) <ℤ n)

abbrev Most : Option ℤ → Type 0
Most number = ForSome number (λ n. n <ℤ pos (10 ^ 18))

abbrev Limited : Option ℤ → Type 0
Limited number = Least number × Most number

no_number : Limited None
no_number = (no_least, no_most)

a_number : {n : ℤ} → neg_ℤ (pos (10 ^ 18)) <ℤ n → n <ℤ pos (10 ^ 18) → Limited (Some n)
a_number least most = (some_least least, some_most most)

limited_whole : (bytes : List ℕ) → Limited (whole_number bytes)
unfolding whole_number
limited_whole bytes = by_digits (nat_le (length bytes) 18 && list_all is_ascii_digit bytes) refl
  where
    by_digits : (b : Bool) → (nat_le (length bytes) 18 && list_all is_ascii_digit bytes) ≡ b → Limited (if b then Some (pos (digits_value 10 bytes)) else None)
    by_digits true e =
        let parts = and_parts (nat_le (length bytes) 18) (list_all is_ascii_digit bytes) e in
        let below : digits_value 10 bytes < 10 ^ 18 =
        digits_value_short (numerals_by_value _ tells_by_index) bytes 18 ((numerals_by_value _ tells_by_index).from bytes (each_digit bytes parts.1)) (leb-true (length bytes) 18 parts.0) in
        let least : neg_ℤ (pos (10 ^ 18)) <ℤ pos (digits_value 10 bytes) = omega (arith, ints) in
        let most : pos (digits_value 10 bytes) <ℤ pos (10 ^ 18) = omega (arith, ints, below) in
        a_number least most
    by_digits false e = no_number

limited_number : (n : ℤ) → Limited (if_18_digits n)
limited_number n = by_digits (has_18_digits n) refl
  where
    by_digits : (b : Bool) → has_18_digits n ≡ b → Limited (if b then Some n else None)
    by_digits true e =
        let parts = and_parts (int_lt (neg_ℤ (pos (10 ^ 18))) n) (int_lt n (pos (10 ^ 18))) e in
        let above = parts.0 in
        let below = parts.1 in
        let least : neg_ℤ (pos (10 ^ 18)) <ℤ n = omega (arith, ints, above) in
        let most : n <ℤ pos (10 ^ 18) = omega (arith, ints, below) in
        a_number least most
    by_digits false e = no_number

limited_option : (o : Option ℤ) → Limited (option_and_then if_18_digits o)
limited_option None = no_number
limited_option (Some n) = limited_number n

limited_day : (bytes : List ℕ) → Limited (text_day bytes)
unfolding text_day
limited_day bytes = limited_option (day_number (inside bytes))

limited : (k : TokenKind) (bytes : List ℕ) → Limited (number_of k bytes)
limited token.Word bytes = no_number
limited token.Quoted bytes = no_number
limited token.Whole bytes = limited_whole bytes
limited token.Decimal bytes = no_number
limited token.Text bytes = limited_day bytes
limited token.Symbol bytes = no_number
limited token.Weight bytes = no_number

-- the list is one terminal, of these parts
record IsOne (kind : TerminalKind) (span : Span) (mark : Mark) (number : Option ℤ) (list : List Terminal) : Type 0 where
  terminal : Terminal
  alone : list ≡ terminal ∷ []
  kind_is : terminal.kind ≡ kind
  span_is : terminal.span ≡ span
  number_is : terminal.number ≡ number
  mark_is : terminal.mark ≡ mark

one_number : (kind : TerminalKind) (span : Span) (mark : Mark) (n : ℤ) (placed : span.from < 2 ^ 32) → neg_ℤ (pos (10 ^ 18)) <ℤ n → n <ℤ pos (10 ^ 18) →
    (l : (neg_ℤ (pos (10 ^ 18)) <ℤ n) ⊎ (n ≤ℤ neg_ℤ (pos (10 ^ 18)))) (m : (n <ℤ pos (10 ^ 18)) ⊎ (pos (10 ^ 18) ≤ℤ n)) →
    IsOne kind span mark (Some n) (with_number kind span mark n placed l m)
one_number kind span mark n placed least most (inl l) (inl m) =
    record {
      terminal = record { kind = kind; span = span; number = Some n; mark = mark; least = some_least l; most = some_most m; placed = placed };
      alone = refl;
      kind_is = refl;
      span_is = refl;
      number_is = refl;
      mark_is = refl;
    }
one_number kind span mark n placed least most (inl l) (inr large) = absurd (omega (arith, ints, most, large))
one_number kind span mark n placed least most (inr small) m = absurd (omega (arith, ints, least, small))

one_option : (kind : TerminalKind) (span : Span) (mark : Mark) (number : Option ℤ) (placed : span.from < 2 ^ 32) → Limited number →
    IsOne kind span mark number (with_option kind span mark number placed)
one_option kind span mark None placed within =
    record {
      terminal = record { kind = kind; span = span; number = None; mark = mark; least = no_least; most = no_most; placed = placed };
      alone = refl;
      kind_is = refl;
      span_is = refl;
      number_is = refl;
      mark_is = refl;
    }
one_option kind span mark (Some n) placed within =
    one_number kind span mark n placed (within.0 n refl) (within.1 n refl) (cases_lt_ℤ (neg_ℤ (pos (10 ^ 18))) n) (cases_lt_ℤ n (pos (10 ^ 18)))

one_place : (kind : TerminalKind) (span : Span) (mark : Mark) (number : Option ℤ) → span.from < 2 ^ 32 → Limited number →
    (c : (span.from < 2 ^ 32) ⊎ (2 ^ 32 ≤ span.from)) → IsOne kind span mark number (with_place kind span mark number c)
one_place kind span mark number placed within (inl c) = one_option kind span mark number c within
one_place kind span mark number placed within (inr far) = absurd (omega (arith, placed, far))

-- a token is one terminal
pub record IsOneTerminal (text : List ℕ) (mark : Mark) (t : Token) : Type 0 where
  pub terminal : Terminal
  pub alone : terminal_of_token text mark t ≡ terminal ∷ []
  pub is : IsTerminal text mark t terminal

pub one_of_token : (text : List ℕ) (mark : Mark) (t : Token) → t.span.from < 2 ^ 32 → IsOneTerminal text mark t
unfolding terminal_of_token
one_of_token text mark t placed =
    let bytes = bytes_of text t in
    let one = one_place (kind_of t.kind bytes) t.span mark (number_of t.kind bytes) placed (limited t.kind bytes) (cases_lt t.span.from (2 ^ 32)) in
    record {
      terminal = one.terminal;
      alone = one.alone;
      is = record { kind = one.kind_is; span = one.span_is; number = one.number_is; mark_is = one.mark_is };
    }

-- a terminal that the token is is that one
the_terminal : (text : List ℕ) (mark : Mark) (t : Token) (p : Terminal) → IsTerminal text mark t p → terminal_of_token text mark t ≡ p ∷ []
the_terminal text mark t p is =
    let one = one_of_token text mark t (subst (λ (s : Span). s.from < 2 ^ 32) is.span p.placed) in
    one.alone ∙ ap (λ (q : Terminal). q ∷ []) (one_terminal text mark t one.terminal p one.is is)

are_terminals_of : (text : List ℕ) (ts : List Token) (mark : Mark) → length text < 2 ^ 32 → All (LiesIn text) ts → AreTerminals text ts mark (terminals_of text ts mark)
are_terminals_of text [] mark short lies = refl
are_terminals_of text (t ∷ ts) mark short lies = by_kind (λ m. are_terminals_of text ts m short (All-tail (LiesIn text) t ts lies)) (is_weight t.kind)
  where
    placed : t.span.from < 2 ^ 32
    placed = let own = All-head (LiesIn text) t ts lies in omega (arith, short, own.0, own.1)

    by_kind : ((m : Mark) → AreTerminals text ts m (terminals_of text ts m)) → (weight : Bool) →
        WithToken text mark t (AreTerminals text ts) weight (with_token text mark t (terminals_of text ts) weight)
    by_kind behind true = behind (mark_behind text t mark)
    by_kind behind false =
        let one = one_of_token text mark t placed in
        (one.terminal, terminals_of text ts mark, ap (λ (l : List Terminal). l ++ terminals_of text ts mark) one.alone, one.is, behind mark)

-- a text that has tokens has these terminals
pub are_terminals : (text : List ℕ) → length text < 2 ^ 32 → AreTokens text (tokens_in text) → AreTerminals text (tokens_in text) no_mark (terminals_in text)
unfolding terminals_in
are_terminals text short are = are_terminals_of text (tokens_in text) no_mark short (tokens-lie text (tokens_in text) are)

-- they are fewer than its bytes
pub few_terminals : (text : List ℕ) → length text < 2 ^ 32 → AreTokens text (tokens_in text) → length (terminals_in text) < 2 ^ 32
few_terminals text short are = omega (arith, short, few text (tokens_in text) (terminals_in text) are (are_terminals text short are))

-- the first are those behind no bytes
pub at_front : (text : List ℕ) → terminals_behind text 0 no_mark ≡ terminals_in text
unfolding tokens_in terminals_in terminals_behind
at_front text = refl

module _ (text : List ℕ) (at new : ℕ) (mark : Mark) (t : Token) (next : (ahead text at).tokens ≡ t ∷ (ahead text new).tokens) where
  with_next : terminals_of text (ahead text at).tokens mark ≡ with_token text mark t (terminals_of text (ahead text new).tokens) (is_weight t.kind)
  with_next = ap (λ (ts : List Token). terminals_of text ts mark) next

  -- a weight comment is the mark of what comes behind it
  pub behind_weight : is_weight t.kind ≡ true → terminals_behind text at mark ≡ terminals_behind text new (mark_behind text t mark)
  unfolding terminals_behind
  behind_weight k = with_next ∙ ap (with_token text mark t (terminals_of text (ahead text new).tokens)) k

  -- every other token is a terminal
  pub behind_terminal : (p : Terminal) → is_weight t.kind ≡ false → IsTerminal text mark t p → terminals_behind text at mark ≡ p ∷ terminals_behind text new mark
  unfolding terminals_behind
  behind_terminal p k is =
      with_next ∙ ap (with_token text mark t (terminals_of text (ahead text new).tokens)) k
      ∙ ap (λ (l : List Terminal). l ++ terminals_of text (ahead text new).tokens mark) (the_terminal text mark t p is)

-- where no token comes there is no terminal
pub none_behind : (text : List ℕ) (at : ℕ) (mark : Mark) → (ahead text at).tokens ≡ [] → terminals_behind text at mark ≡ []
unfolding terminals_behind
none_behind text at mark e = ap (λ (ts : List Token). terminals_of text ts mark) e

pub no_next : (token : Option Token) (new : List Token) → ((t : Token) → token ≡ Some t → ⊥) → from_next token new ≡ []
no_next None new none = refl
no_next (Some t) new none = absurd (none t refl)
