-- The statements of a text keep the limits.
use Rattle.std.proofs.Common.{◌≡◌, ℕ, zero, suc, ◌+◌, ◌^◌, ◌<◌, ◌≤◌, Bool, true, false, List, [], ◌∷◌, ◌++◌, length, Option, Some, None, nat_le, All, sym, refl, ap, subst, arith, length-append, if◌then◌else◌}
use Rattle.std.specs.List.{list_all}
use Rattle.std.specs.Str.Parse.{digits_value}
use Rattle.std.proofs.lemmas.List.Elements.{All-head, All-tail}
use Rattle.std.proofs.lemmas.Bool.{le-leb, and_from}
use Rattle.sql_tokens.specs.declared.token.Token.{Token}
use Rattle.sql_tokens.specs.declared.lexeme.Form.{Form}
use Rattle.sql_tokens.specs.declared.lexeme.Form.TheVariants as form
use Rattle.sql_tokens.specs.Cut.{AreTokens, IsCut, Part, tokens_of, tokens_of_lexeme, weight_token}
use Rattle.sql_tokens.specs.Weight.{weight_length}
use Rattle.sql_tokens.specs.Span.{LiesIn}
use Rattle.sql_tokens.proofs.Exact.{form_some}
use Rattle.sql_tokens.proofs.Places.{tokens-lie}
use Rattle.sql_reader.specs.declared.kind.TerminalKind.TheVariants as kinds
use Rattle.sql_reader.specs.declared.terminal.Terminal.{Terminal}
use Rattle.sql_reader.specs.declared.terminal.Mark.{Mark}
use Rattle.sql_reader.specs.declared.parsed.Body.{Body}
use Rattle.sql_reader.specs.declared.parsed.Body.TheVariants as bodies
use Rattle.sql_reader.specs.declared.parsed.ParsedStatement.{ParsedStatement}
use Rattle.sql_reader.specs.declared.parts.Progress.{Progress}
use Rattle.sql_reader.specs.Kinds.{has}
use Rattle.sql_reader.specs.Rule.{Nesting, State, Meaning, IsNested}
use Rattle.sql_reader.specs.Exact.{IsRead}
use Rattle.sql_reader.specs.Grammar.{starts, levels}
use Rattle.sql_reader.specs.Printed as printed
use Rattle.sql_reader.specs.Values.{place_of, weight_of, with_statement, no_statements, insert_body, update_body}
use Rattle.sql_reader.specs.Valid.{span_in, statement_in, statements_in}
use Rattle.sql_reader.specs.Terminals.{bytes_of, AreTerminals, WithToken, IsTerminal, no_mark, mark_or, mark_behind, is_weight, start_behind}
use Rattle.sql_reader.specs.Words.{is_good_weight, last_digits, comment_weight}
use Rattle.sql_reader.proofs.KindSets.{in_wider}
use Rattle.sql_reader.proofs.Keeps.{Free, Scale, Keeps, AllGood, give_keeps, take_keeps, then_keeps, use_keeps, either_keeps, many_keeps, free_keeps}
use Rattle.sql_reader.proofs.Keeps as keeps
use Rattle.sql_reader.proofs.KeptExpressions.{InText, text_scale}
use Rattle.sql_reader.proofs.KeptStatements.{workload_keeps, all_nested}

-- each terminal lies in the text, and its weight was judged

good_mark : (mark : Mark) (place : ℕ) (bytes : List ℕ) → is_good_weight mark.weight ≡ true → is_good_weight (mark_or mark place (comment_weight bytes)).weight ≡ true
unfolding comment_weight
good_mark mark place bytes good = by_weight (is_good_weight (digits_value 10 (last_digits bytes))) refl
  where
    by_weight : (b : Bool) → is_good_weight (digits_value 10 (last_digits bytes)) ≡ b → is_good_weight (mark_or mark place (if b then Some (digits_value 10 (last_digits bytes)) else None)).weight ≡ true
    by_weight true e = e
    by_weight false e = good

span_lies : (text : List ℕ) (t : Token) → LiesIn text t → span_in (length text) t.span ≡ true
span_lies text t (some, in_text) =
    and_from (nat_le t.span.from t.span.to) (nat_le t.span.to (length text)) (le-leb t.span.from t.span.to (omega (arith, some))) (le-leb t.span.to (length text) in_text)

module _ (text : List ℕ) (d : (x : Nesting) → Meaning (State x) (State x)) where
  terminal_good : (mark : Mark) (t : Token) (p : Terminal) → LiesIn text t → is_good_weight mark.weight ≡ true → IsTerminal text mark t p → InText (length text) p
  terminal_good mark t p lies good is =
      (subst (λ s. span_in (length text) s ≡ true) (sym is.span) (span_lies text t lies), subst (λ m. is_good_weight m.weight ≡ true) (sym is.mark_is) good)

  good_token : (weight : Bool) (t : Token) (ts : List Token) (mark : Mark) (terminals : List Terminal) →
      ((m : Mark) (ps : List Terminal) → is_good_weight m.weight ≡ true → AreTerminals text ts m ps → AllGood (text_scale (length text) d) ps) →
      LiesIn text t → is_good_weight mark.weight ≡ true → WithToken text mark t (AreTerminals text ts) weight terminals → AllGood (text_scale (length text) d) terminals
  good_token true t ts mark terminals behind lies good are = behind (mark_behind text t mark) terminals (good_mark mark (t.span.from + 1) (bytes_of text t) good) are
  good_token false t ts mark terminals behind lies good (p, rest, split, is, are) =
      subst (AllGood (text_scale (length text) d)) (sym split) (terminal_good mark t p lies good is, behind mark rest good are)

  good_terminals : (list : List Token) → All (LiesIn text) list → (mark : Mark) (terminals : List Terminal) → is_good_weight mark.weight ≡ true → AreTerminals text list mark terminals →
      AllGood (text_scale (length text) d) terminals
  good_terminals [] lies mark terminals good are = subst (AllGood (text_scale (length text) d)) (sym are) tt
  good_terminals (t ∷ ts) lies mark terminals good are =
      good_token (is_weight t.kind) t ts mark terminals (good_terminals ts (All-tail (LiesIn text) t ts lies)) (All-head (LiesIn text) t ts lies) good are

-- there are at most as many terminals as bytes

few_behind : (text : List ℕ) (weight : Bool) (t : Token) (ts : List Token) (mark : Mark) (terminals : List Terminal) → ((m : Mark) (ps : List Terminal) → AreTerminals text ts m ps → length ps ≤ length ts) →
    WithToken text mark t (AreTerminals text ts) weight terminals → length terminals ≤ length (t ∷ ts)
few_behind text true t ts mark terminals behind are = omega (arith, behind (mark_behind text t mark) terminals are)
few_behind text false t ts mark terminals behind (p, rest, split, is, are) = omega (arith, ap length split, behind mark rest are)

few_terminals : (text : List ℕ) (list : List Token) (mark : Mark) (terminals : List Terminal) → AreTerminals text list mark terminals → length terminals ≤ length list
few_terminals text [] mark terminals are = omega (arith, ap length are)
few_terminals text (t ∷ ts) mark terminals are = few_behind text (is_weight t.kind) t ts mark terminals (few_terminals text ts) are

one_weight : (at : ℕ) (o : Option ℕ) → length (weight_token at o) ≤ 1
one_weight at None = omega arith
one_weight at (Some n) = omega arith

one_token : (at : ℕ) (f : Form) (bytes : List ℕ) → length (tokens_of_lexeme at f bytes) ≤ 1
one_token at form.Blank bytes = omega arith
one_token at form.LineComment bytes = one_weight at (weight_length bytes)
one_token at form.BlockComment bytes = omega arith
one_token at (form.Token k) bytes = omega arith

few_tokens : (at : ℕ) (parts : List Part) (text rest : List ℕ) → IsCut parts text rest → length (tokens_of at parts) ≤ length text
few_tokens at [] text rest cut = omega arith
few_tokens at (p ∷ ps) text rest (behind, split, stands, cut) =
    omega (
      arith,
      length-append (tokens_of_lexeme at p.form p.bytes) (tokens_of (at + length p.bytes) ps),
      one_token at p.form p.bytes,
      form_some p.form p.bytes stands.is_form,
      few_tokens (at + length p.bytes) ps behind rest cut,
      ap length split,
      length-append p.bytes behind,
    )

pub few : (text : List ℕ) (list : List Token) (terminals : List Terminal) → AreTokens text list → AreTerminals text list no_mark terminals → length terminals ≤ length text
few text list terminals tokens are =
    omega (arith, few_terminals text list no_mark terminals are, ap length tokens.tokens, few_tokens 0 tokens.parts text [] tokens.cut)

weight_is_length : (n : ℕ) (d : (x : Nesting) → Meaning (State x) (State x)) (ps : List Terminal) → keeps.weight_of (text_scale n d) ps ≡ length ps
weight_is_length n d [] = refl
weight_is_length n d (p ∷ ps) = omega (arith, weight_is_length n d ps)

-- a meaning has at most as many statements as its terminals have words that begin one

one_longer : (xs : List ParsedStatement) (x : ParsedStatement) → length (xs ++ x ∷ []) ≡ length xs + 1
one_longer xs x = omega (arith, length-append xs (x ∷ []))

one_if : Bool → ℕ
one_if true = 1
one_if false = 0

abbrev start_scale : ℕ → ((x : Nesting) → Meaning (State x) (State x)) → Scale
start_scale limit d = record { weigh = λ p. one_if (has starts p.kind); limit = limit; Good = λ p. Unit {0}; deeper = d }

all_good : (limit : ℕ) (d : (x : Nesting) → Meaning (State x) (State x)) (ps : List Terminal) → AllGood (start_scale limit d) ps
all_good limit d [] = tt
all_good limit d (p ∷ ps) = (tt, all_good limit d ps)

abbrev Counted : ℕ → Progress → Type 0
Counted k progress = length progress.statements ≤ k

abbrev Next : ℕ → Progress × Terminal → Type 0
Next k s = length s.0.statements + 1 ≤ k

module _ (limit : ℕ) (d : (x : Nesting) → Meaning (State x) (State x)) where
  abbrev c : Scale
  c = start_scale limit d

  begins_one : (k : ℕ) (p : Terminal) (progress : Progress) → has starts p.kind ≡ true → Counted k progress → Next (k + one_if (has starts p.kind)) (progress, p)
  unfolding one_if
  begins_one k p progress starts_one known = omega (arith, known, ap one_if starts_one)

  one_more : (k i : ℕ) (s : Progress × Terminal) (body : Body) → Next k s → Counted (k + i) (with_statement s.0 s.1 body)
  one_more k i s body known = omega (arith, known, one_longer s.0.statements (record { place = place_of s.1; weight = weight_of s.0.before s.1; body = body }))

  statement_counted : Keeps c Counted printed.statement Counted
  unfolding printed.statement printed.select printed.insert printed.update printed.delete
  statement_counted =
      either_keeps c
      (then_keeps c Next (take_keeps c (λ k progress p room among good known. begins_one k p progress (in_wider (kinds.Select ∷ []) starts p.kind refl among) known))
      (use_keeps c Free Free (free_keeps c) (λ k s known. tt) (λ k i s x room known new. one_more k i s (bodies.Select x) known)))
      (either_keeps c
      (then_keeps c Next (take_keeps c (λ k progress p room among good known. begins_one k p progress (in_wider (kinds.Insert ∷ []) starts p.kind refl among) known))
      (use_keeps c Free Free (free_keeps c) (λ k s known. tt) (λ k i s x room known new. one_more k i s (insert_body x) known)))
      (either_keeps c
      (then_keeps c Next (take_keeps c (λ k progress p room among good known. begins_one k p progress (in_wider (kinds.Update ∷ []) starts p.kind refl among) known))
      (use_keeps c Free Free (free_keeps c) (λ k s known. tt) (λ k i s x room known new. one_more k i s (update_body x) known)))
      (then_keeps c Next (take_keeps c (λ k progress p room among good known. begins_one k p progress (in_wider (kinds.Delete ∷ []) starts p.kind refl among) known))
      (use_keeps c Free Free (free_keeps c) (λ k s known. tt) (λ k i s x room known new. one_more k i s x known)))))

  maybe_counted : Keeps c Counted (printed.maybe printed.statement) Counted
  maybe_counted = either_keeps c statement_counted (give_keeps c (λ k progress room known. known))

  workload_counted : Keeps c Counted printed.workload Counted
  unfolding printed.workload
  workload_counted =
      then_keeps c Counted maybe_counted
      (many_keeps c (then_keeps c Counted (take_keeps c (λ k progress p room among good known. omega (arith, known))) maybe_counted))

starts_behind : (limit : ℕ) (d : (x : Nesting) → Meaning (State x) (State x)) (n : ℕ) (p : Terminal) (ps : List Terminal) (b : Bool) →
    ((m : ℕ) → start_behind m ps ≡ None → keeps.weight_of (start_scale limit d) ps ≤ m) → has starts p.kind ≡ b → start_behind n (p ∷ ps) ≡ None →
    keeps.weight_of (start_scale limit d) (p ∷ ps) ≤ n
unfolding one_if
starts_behind limit d zero p ps true behind e none = absurd cc
starts_behind limit d zero p ps false behind e none = omega (arith, ap one_if e, behind zero cc)
starts_behind limit d (suc n) p ps true behind e none = omega (arith, ap one_if e, behind n cc)
starts_behind limit d (suc n) p ps false behind e none = omega (arith, ap one_if e, behind (suc n) cc)

starts_at_most : (limit : ℕ) (d : (x : Nesting) → Meaning (State x) (State x)) (ps : List Terminal) (n : ℕ) → start_behind n ps ≡ None → keeps.weight_of (start_scale limit d) ps ≤ n
starts_at_most limit d [] n none = omega arith
starts_at_most limit d (p ∷ ps) n none = starts_behind limit d n p ps (has starts p.kind) (starts_at_most limit d ps) refl none

-- what a text means as a workload keeps the limits
pub limits : (text : List ℕ) (list : List Token) (terminals : List Terminal) (progress : Progress) → length text < 2 ^ 32 → AreTokens text list → AreTerminals text list no_mark terminals →
    start_behind 1000 terminals ≡ None → IsRead printed.grammar levels printed.workload no_statements terminals progress →
    statements_in (length text) progress.statements ≡ true
limits text list terminals progress short tokens are no_start is =
    let n = length text in
    let d = IsNested printed.grammar levels in
    let lies = tokens-lie text list tokens in
    let weight = keeps.weight_of (text_scale n d) terminals in
    let kept = (workload_keeps n d (all_nested n levels)).keeps 0 weight no_statements terminals progress (omega arith)
    (omega (arith, weight_is_length n d terminals, few text list terminals tokens are, short)) (good_terminals text d list lies no_mark terminals refl are) refl is in
    let begun = keeps.weight_of (start_scale 1001 d) terminals in
    let at_most = starts_at_most 1001 d terminals 1000 no_start in
    let counted = (workload_counted 1001 d).keeps 0 begun no_statements terminals progress (omega arith) (omega (arith, at_most)) (all_good 1001 d terminals) (omega arith) is in
    and_from (nat_le (length progress.statements) 1000) (list_all (statement_in n) progress.statements) (le-leb (length progress.statements) 1000 (omega (arith, counted, at_most))) kept
