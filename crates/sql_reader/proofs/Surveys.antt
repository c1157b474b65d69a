-- What is seen of a text before the grammar reads it.
use Rattle.std.proofs.Common.{◌≡◌, ℕ, zero, suc, ◌+◌, ◌-◌, ◌^◌, ◌<◌, ℤ, Bool, true, false, not, ◌||◌, ◌==◌, List, [], ◌∷◌, ◌++◌, length, map, Option, Some, None, option_map, All, sym, refl, ap, ◌∙◌, subst, ◌⊎◌, inl, inr, arith, sub-one, if◌then◌else◌}
use Rattle.std.specs.Char.{to_ascii_lowercase}
use Rattle.std.specs.List.{list_all}
use Rattle.std.specs.Str.{str_eq_ignore_ascii_case}
use Rattle.std.proofs.lemmas.Bool.{and_parts, or_cases, not-true}
use Rattle.std.proofs.lemmas.List.{length-map}
use Rattle.std.proofs.lemmas.List.Elements.{All-head, All-tail}
use lib.Dec.{eqb}
use lib.Pointwise.{pointwise_long}
use Rattle.sql_tokens.specs.declared.token.Span.{Span}
use Rattle.sql_tokens.specs.declared.token.Token.{Token}
use Rattle.sql_tokens.specs.declared.token.TokenKind.{TokenKind}
use Rattle.sql_tokens.specs.declared.token.TokenKind.TheVariants as token
use Rattle.sql_tokens.specs.declared.token_list.TokenFault.{TokenFault}
use Rattle.sql_tokens.specs.Ahead.{Ahead, ahead, nothing, only_fault, behind_tokens, Tells}
use Rattle.sql_tokens.specs.Cut.{AreTokens, HasFault}
use Rattle.sql_tokens.specs.Span.{LiesIn}
use Rattle.sql_tokens.proofs.Ahead.{tells_ahead}
use Rattle.sql_tokens.proofs.Places.{tokens-lie}
use Rattle.sql_reader.specs.declared.kind.TerminalKind.{TerminalKind}
use Rattle.sql_reader.specs.declared.kind.TerminalKind.TheVariants as kinds
use Rattle.sql_reader.specs.declared.terminal.Terminal.{Terminal}
use Rattle.sql_reader.specs.declared.terminal.Mark.{Mark}
use Rattle.sql_reader.specs.declared.survey.Survey.{Survey}
use Rattle.sql_reader.specs.Kinds.{has}
use Rattle.sql_reader.specs.Grammar.{starts}
use Rattle.sql_reader.specs.Values.{place_of}
use Rattle.sql_reader.specs.Words.{Entry, known, kind_in, kind_or, word_kind, quoted_kind, symbol_kind, aggregate_or_name, inside, text_day}
use Rattle.sql_reader.specs.Terminals.{bytes_of, kind_of, kind_of_text, mark_behind, no_mark, is_weight, is_bad_weight, bad_weight, start_behind}
use Rattle.sql_reader.specs.inner.Ahead.{with_token, terminals_of, tokens_in, terminals_in}
use Rattle.sql_reader.specs.inner.Surveyed as surveyed
use Rattle.sql_reader.specs.declared.parsed.ParsedStatement.{ParsedStatement}
use Rattle.sql_reader.specs.declared.parsed.SqlFault.{SqlFault}
use Rattle.sql_reader.specs.declared.parsed.SqlFault.TheVariants as faults
use Rattle.sql_reader.specs.declared.parts.Progress.{Progress}
use Rattle.sql_reader.specs.Workload.{GrammarSays, earlier, first_fault, Says}
use Rattle.sql_reader.specs.inner.Surveyed.{or_first, bad_weight_of, start_at, IsSurvey, surveyed_fault}
use Rattle.sql_reader.proofs.Ahead.{one_of_token, are_terminals}

-- The words with which statements begin have six letters.

has_six : Entry → Bool
has_six w = not (has starts w.1) || (length w.0 == 6)

same_length : (a b : List ℕ) → str_eq_ignore_ascii_case a b ≡ true → length a ≡ length b
same_length a b h =
    sym (length-map a to_ascii_lowercase) ∙ pointwise_long eqb (map to_ascii_lowercase a) (map to_ascii_lowercase b) h ∙ length-map b to_ascii_lowercase

six_in : (table : List Entry) (bytes : List ℕ) → list_all has_six table ≡ true → (length bytes == 6) ≡ false → has starts (kind_or kinds.Name (kind_in table bytes)) ≡ false
unfolding has_six
six_in [] bytes all other = refl
six_in (w ∷ ws) bytes all other = by_word (λ more. six_in ws bytes more other) (str_eq_ignore_ascii_case bytes w.0) refl
  where
    parts : (has_six w ≡ true) × (list_all has_six ws ≡ true)
    parts = and_parts (has_six w) (list_all has_six ws) all

    not_six : (length w.0 == 6) ≡ true → length bytes ≡ length w.0 → ⊥
    not_six six same = let e : (length bytes == 6) ≡ true = ap (λ (n : ℕ). n == 6) same ∙ six in cc

    by_six : length bytes ≡ length w.0 → (not (has starts w.1) ≡ true) ⊎ ((length w.0 == 6) ≡ true) → has starts w.1 ≡ false
    by_six same (inl h) = not-true (has starts w.1) h
    by_six same (inr h) = absurd (not_six h same)

    by_word : (list_all has_six ws ≡ true → has starts (kind_or kinds.Name (kind_in ws bytes)) ≡ false) → (b : Bool) → str_eq_ignore_ascii_case bytes w.0 ≡ b → has starts (kind_or kinds.Name (if b then Some w.1 else kind_in ws bytes)) ≡ false
    by_word behind true e = by_six (same_length bytes w.0 e) (or_cases (not (has starts w.1)) (length w.0 == 6) parts.0)
    by_word behind false e = behind parts.1

all_six : list_all has_six known ≡ true
unfolding has_six
all_six = refl

-- a word of another length begins no statement
pub other_length : (word : List ℕ) → (length word == 6) ≡ false → has starts (word_kind word) ≡ false
unfolding word_kind
other_length word other = six_in known word all_six other

-- Only words begin statements.

no_start_if : (c : Bool) (j k : TerminalKind) → has starts j ≡ false → has starts k ≡ false → has starts (if c then j else k) ≡ false
no_start_if true j k a b = a
no_start_if false j k a b = b

no_start_symbol : (first second : ℕ) → has starts (symbol_kind first second) ≡ false
unfolding symbol_kind
no_start_symbol first second =
    no_start_if (first == 40) kinds.Open _ refl
    (no_start_if (first == 41) kinds.Close _ refl
    (no_start_if (first == 44) kinds.Comma _ refl
    (no_start_if (first == 46) kinds.Point _ refl
    (no_start_if (first == 59) kinds.Semicolon _ refl
    (no_start_if (first == 42) kinds.Star _ refl
    (no_start_if (first == 43) kinds.Plus _ refl
    (no_start_if (first == 45) kinds.Minus _ refl
    (no_start_if (first == 61) kinds.Equal _ refl
    (no_start_if (first == 60) _ _ (no_start_if (second == 62) kinds.NotEqual kinds.Below refl refl)
    (no_start_if (first == 33) kinds.NotEqual _ refl
    (no_start_if (first == 62) kinds.Above _ refl
    (no_start_if (first == 63) kinds.Question _ refl
    (no_start_if (first == 36) kinds.Question kinds.Operator refl refl)))))))))))))

no_start_name : (o : Option TerminalKind) → has starts (aggregate_or_name o) ≡ false
no_start_name None = refl
no_start_name (Some kinds.Aggregate) = refl
no_start_name (Some _) = refl

no_start_quoted : (bytes : List ℕ) → has starts (quoted_kind bytes) ≡ false
unfolding quoted_kind
no_start_quoted bytes = no_start_name (kind_in known (inside bytes))

no_start_text : (day : Option ℤ) → has starts (kind_of_text day) ≡ false
no_start_text None = refl
no_start_text (Some n) = refl

abbrev pub is_word : TokenKind → Bool
is_word token.Word = true
is_word _ = false

pub not_word : (k : TokenKind) → (k ≡ token.Word → ⊥) → is_word k ≡ false
not_word token.Word h = absurd (h refl)
not_word token.Quoted h = refl
not_word token.Whole h = refl
not_word token.Decimal h = refl
not_word token.Text h = refl
not_word token.Symbol h = refl
not_word token.Weight h = refl

pub no_start : (k : TokenKind) (bytes : List ℕ) → is_word k ≡ false → has starts (kind_of k bytes) ≡ false
no_start token.Word bytes h = cc
no_start token.Quoted bytes h = no_start_quoted bytes
no_start token.Whole bytes h = refl
no_start token.Decimal bytes h = refl
no_start token.Text bytes h = no_start_text (text_day bytes)
no_start token.Symbol bytes h = no_start_symbol _ _
no_start token.Weight bytes h = refl

no_start_weight : (k : TokenKind) (bytes : List ℕ) → is_weight k ≡ true → has starts (kind_of k bytes) ≡ false
no_start_weight token.Weight bytes h = refl
no_start_weight token.Word bytes h = absurd cc
no_start_weight token.Quoted bytes h = absurd cc
no_start_weight token.Whole bytes h = absurd cc
no_start_weight token.Decimal bytes h = absurd cc
no_start_weight token.Text bytes h = absurd cc
no_start_weight token.Symbol bytes h = absurd cc

-- Starts are the same of tokens as of the terminals that these are.

abbrev pub start_step : Bool → ℕ → ℕ → (ℕ → Option ℕ) → Option ℕ
start_step false n place behind = behind n
start_step true zero place behind = Some place
start_step true (suc n) place behind = behind n

-- the place of the first token with which a statement begins that stands behind n others
abbrev pub token_start : List ℕ → List Token → ℕ → Option ℕ
token_start text [] n = None
token_start text (t ∷ ts) n = start_step (has starts (kind_of t.kind (bytes_of text t))) n (t.span.from + 1) (token_start text ts)

one_start : (n : ℕ) (p : Terminal) (ps : List Terminal) (b : Bool) → has starts p.kind ≡ b → start_behind n (p ∷ ps) ≡ start_step b n (place_of p) (λ m. start_behind m ps)
one_start zero p ps true e = rw e refl
one_start zero p ps false e = rw e refl
one_start (suc n) p ps true e = rw e refl
one_start (suc n) p ps false e = rw e refl

step_on : (b : Bool) (n place : ℕ) (f g : ℕ → Option ℕ) → ((m : ℕ) → f m ≡ g m) → start_step b n place f ≡ start_step b n place g
step_on false n place f g h = h n
step_on true zero place f g h = refl
step_on true (suc n) place f g h = h n

none_left : (n : ℕ) → start_behind n [] ≡ None
none_left zero = refl
none_left (suc n) = refl

same_starts : (text : List ℕ) (ts : List Token) (mark : Mark) (n : ℕ) → length text < 2 ^ 32 → All (LiesIn text) ts → start_behind n (terminals_of text ts mark) ≡ token_start text ts n
same_starts text [] mark n short lies = none_left n
same_starts text (t ∷ ts) mark n short lies = by_kind (λ m k. same_starts text ts m k short (All-tail (LiesIn text) t ts lies)) (is_weight t.kind) refl
  where
    placed : t.span.from < 2 ^ 32
    placed = let own = All-head (LiesIn text) t ts lies in omega (arith, short, own.0, own.1)

    by_kind : ((m : Mark) (k : ℕ) → start_behind k (terminals_of text ts m) ≡ token_start text ts k) → (weight : Bool) → is_weight t.kind ≡ weight →
        start_behind n (with_token text mark t (terminals_of text ts) weight) ≡ start_step (has starts (kind_of t.kind (bytes_of text t))) n (t.span.from + 1) (token_start text ts)
    by_kind behind true e =
        behind (mark_behind text t mark) n
        ∙ sym (ap (λ (b : Bool). start_step b n (t.span.from + 1) (token_start text ts)) (no_start_weight t.kind (bytes_of text t) e))
    by_kind behind false e =
        let one = one_of_token text mark t placed in
        ap (λ (l : List Terminal). start_behind n (l ++ terminals_of text ts mark)) one.alone
        ∙ one_start n one.terminal (terminals_of text ts mark) (has starts (kind_of t.kind (bytes_of text t))) (ap (has starts) one.is.kind)
        ∙ ap (λ (s : Span). start_step (has starts (kind_of t.kind (bytes_of text t))) n (s.from + 1) (λ m. start_behind m (terminals_of text ts mark))) one.is.span
        ∙ step_on (has starts (kind_of t.kind (bytes_of text t))) n (t.span.from + 1) (λ m. start_behind m (terminals_of text ts mark)) (token_start text ts) (behind mark)

-- A survey, token by token.

-- what the survey has found so far and the tokens behind it give what all tokens give
pub record IsSoFar (text : List ℕ) (survey : Survey) (rest : Ahead) : Type 0 where
  pub fault : rest.fault ≡ (ahead text 0).fault
  pub weight : or_first survey.bad_weight (bad_weight text rest.tokens) ≡ bad_weight text (ahead text 0).tokens
  pub start : or_first survey.start (token_start text rest.tokens survey.left) ≡ token_start text (ahead text 0).tokens 1000

first_if : (b : Bool) (place : ℕ) (later : Option ℕ) → or_first (if b then Some place else None) later ≡ (if b then Some place else later)
first_if true place later = refl
first_if false place later = refl

first_more : (bad : Option ℕ) (b : Bool) (place : ℕ) (later : Option ℕ) →
    or_first (or_first bad (if b then Some place else None)) later ≡ or_first bad (if b then Some place else later)
first_more (Some x) b place later = refl
first_more None b place later = first_if b place later

start_more : (left : ℕ) (start : Option ℕ) (place : ℕ) (behind : ℕ → Option ℕ) →
    or_first (start_at left start place) (behind (left - 1)) ≡ or_first start (start_step true left place behind)
start_more zero None place behind = refl
start_more zero (Some x) place behind = refl
start_more (suc n) start place behind = rw sub-one refl

-- one token more
pub so_far_more : (text : List ℕ) (survey : Survey) (rest : Ahead) (t : Token) → IsSoFar text survey (behind_tokens (t ∷ []) rest) → IsSoFar text (surveyed.after_token text t survey) rest
so_far_more text survey rest t h = by_start (has starts (kind_of t.kind (bytes_of text t))) refl
  where
    by_start : (b : Bool) → has starts (kind_of t.kind (bytes_of text t)) ≡ b →
        IsSoFar text (surveyed.with_start_if b (record { bad_weight = or_first survey.bad_weight (bad_weight_of text t); start = survey.start; left = survey.left }) (t.span.from + 1)) rest
    by_start true e =
        record {
          fault = h.fault;
          weight = first_more survey.bad_weight (is_bad_weight text t) (t.span.from + 1) (bad_weight text rest.tokens) ∙ h.weight;
          start =
              start_more survey.left survey.start (t.span.from + 1) (token_start text rest.tokens)
              ∙ (sym (ap (λ (c : Bool). or_first survey.start (start_step c survey.left (t.span.from + 1) (token_start text rest.tokens))) e) ∙ h.start);
        }
    by_start false e =
        record {
          fault = h.fault;
          weight = first_more survey.bad_weight (is_bad_weight text t) (t.span.from + 1) (bad_weight text rest.tokens) ∙ h.weight;
          start = sym (ap (λ (c : Bool). or_first survey.start (start_step c survey.left (t.span.from + 1) (token_start text rest.tokens))) e) ∙ h.start;
        }

or_none : (o : Option ℕ) → or_first o None ≡ o
or_none None = refl
or_none (Some place) = refl

told : (text : List ℕ) (fault : Option TokenFault) → fault ≡ (ahead text 0).fault → Tells text (ahead text 0).tokens fault
told text fault e = subst (Tells text (ahead text 0).tokens) (sym e) (tells_ahead text)

-- the text is at its end
pub so_far_all : (text : List ℕ) (survey : Survey) (rest : Ahead) → length text < 2 ^ 32 → IsSoFar text survey rest → rest ≡ nothing → IsSurvey text survey
unfolding tokens_in terminals_in
so_far_all text survey rest short h end =
    let are : AreTokens text (ahead text 0).tokens = told text None (ap (λ (a : Ahead). a.fault) (sym end) ∙ h.fault) in
    record {
      are_tokens = are;
      weight = sym (or_none survey.bad_weight) ∙ (ap (λ (a : Ahead). or_first survey.bad_weight (bad_weight text a.tokens)) (sym end) ∙ h.weight);
      start =
          sym (or_none survey.start) ∙ (ap (λ (a : Ahead). or_first survey.start (token_start text a.tokens survey.left)) (sym end)
          ∙ (h.start ∙ sym (same_starts text (ahead text 0).tokens no_mark 1000 short (tokens-lie text (ahead text 0).tokens are))));
    }

-- the text has a fault
pub so_far_fault : (text : List ℕ) (survey : Survey) (rest : Ahead) (e : TokenFault) → IsSoFar text survey rest → rest ≡ only_fault e → HasFault text e
so_far_fault text survey rest e h is = (told text (Some e) (ap (λ (a : Ahead). a.fault) (sym is) ∙ h.fault)).0

-- the first fault with a survey is that with the tokens and terminals
pub first_of_survey : (text : List ℕ) (survey : Survey) (fault : Option SqlFault) → IsSurvey text survey → surveyed_fault survey fault ≡ first_fault text (tokens_in text) (terminals_in text) fault
first_of_survey text survey fault is =
    ap (λ (weight : Option ℕ). earlier fault (earlier (option_map faults.BadWeight weight) (option_map faults.TooManyStatements survey.start))) is.weight
    ∙ ap (λ (start : Option ℕ). earlier fault (earlier (option_map faults.BadWeight (bad_weight text (tokens_in text))) (option_map faults.TooManyStatements start))) is.start

-- what a text with a survey says, where the grammar says this of it
pub surveyed_says : (text : List ℕ) (survey : Survey) (progress : Progress) (of_grammar fault : Option SqlFault) (statements : List ParsedStatement) → length text < 2 ^ 32 →
    IsSurvey text survey → GrammarSays (length text + 1) (terminals_in text) progress of_grammar → fault ≡ surveyed_fault survey of_grammar → statements ≡ progress.statements →
    Says text statements fault
surveyed_says text survey progress of_grammar fault statements short is says first same =
    record {
      list = tokens_in text;
      terminals = terminals_in text;
      progress = progress;
      of_grammar = of_grammar;
      are_tokens = is.are_tokens;
      are_terminals = are_terminals text short is.are_tokens;
      says = says;
      first = first ∙ first_of_survey text survey of_grammar is;
      same = same;
    }
