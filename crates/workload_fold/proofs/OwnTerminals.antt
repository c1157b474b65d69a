-- The tokens that are written of a statement are those of its terminals.
use Rattle.std.proofs.Common.{◌≡◌, ℕ, ◌+◌, ◌-◌, ◌==◌, ◌<◌, ◌≤◌, Bool, true, false, not, ◌&&◌, eqb, cond, List, [], ◌∷◌, ◌++◌, length, get_or, drop, Option, Some, None, refl, sym, ap, ◌∙◌, subst, arith}
use Rattle.std.specs.Prelude.{All, slice_index}
use Rattle.std.specs.Str.{str_eq_ignore_ascii_case}
use Rattle.std.proofs.lemmas.Bool.{and_parts}
use Rattle.std.proofs.lemmas.List.{length-append, length-drop, get_or-take, get_or-drop}
use Rattle.std.proofs.lemmas.List.Elements.{All-head, All-tail}
use Rattle.sql_tokens.specs.Cut.{Part, IsCut, AreTokens, tokens_of, tokens_of_lexeme, weight_token}
use Rattle.sql_tokens.specs.Weight.{weight_length}
use Rattle.sql_tokens.specs.Ahead.{Ahead, ahead}
use Rattle.sql_tokens.specs.Span.{LiesIn}
use Rattle.sql_tokens.specs.declared.token.Span.{Span}
use Rattle.sql_tokens.specs.declared.token.Token.{Token}
use Rattle.sql_tokens.specs.declared.token.TokenKind.{TokenKind}
use Rattle.sql_tokens.specs.declared.token.TokenKind.TheVariants as kind
use Rattle.sql_tokens.specs.declared.lexeme.Form.{Form}
use Rattle.sql_tokens.specs.declared.lexeme.Form.TheVariants as form
use Rattle.sql_tokens.proofs.Ahead.{ahead_end}
use Rattle.sql_tokens.proofs.Exact.{stands_front}
use Rattle.sql_tokens.proofs.Places.{tokens-lie}
use Rattle.sql_tokens.proofs.Endings.{is_that}
use Rattle.sql_reader.specs.declared.kind.TerminalKind.{TerminalKind}
use Rattle.sql_reader.specs.declared.kind.TerminalKind.TheVariants as kinds
use Rattle.sql_reader.specs.declared.terminal.Terminal.{Terminal}
use Rattle.sql_reader.specs.declared.terminal.Mark.{Mark}
use Rattle.sql_reader.specs.declared.parsed.ParsedStatement.{ParsedStatement}
use Rattle.sql_reader.specs.Grammar.{levels}
use Rattle.sql_reader.specs.Kinds.{has}
use Rattle.sql_reader.specs.Printed.{grammar}
use Rattle.sql_reader.specs.Rule.{IsNested}
use Rattle.sql_reader.specs.Terminals.{bytes_of, kind_of, kind_of_text, is_weight, mark_behind, no_mark, IsTerminal, WithToken, AreTerminals}
use Rattle.sql_reader.specs.Words.{Entry, kind_in, known, kind_or, word_kind, inside, aggregate_or_name, quoted_kind, symbol_kind, text_day}
use Rattle.workload_fold.specs.Pairs.{Pairs}
use Rattle.workload_fold.specs.Texts.{is_symbol, is_semicolon, own_tokens, statement_tokens}
use Rattle.workload_fold.proofs.OwnTokens.{own_weight, own_ends, own_goes}
use Rattle.workload_fold.proofs.TokensAhead.{Each, lexeme_ahead, left_behind}
use Rattle.workload_fold.proofs.StatementParts.{ends, GoesOn, Ends, StandsAmong, statement_goes}

-- ## A token is ahead at its place, with those behind it

cut_ahead : (text : List ℕ) (ps : List Part) (rest : List ℕ) (at : ℕ) → drop at text ≡ rest → IsCut ps rest [] → (ahead text at).tokens ≡ tokens_of at ps
cut_ahead text [] rest at is cut =
    let end : length text ≤ at = omega (arith, ap length (is ∙ cut), length-drop at text) in
    ap (λ (a : Ahead). a.tokens) (ahead_end text at end)
cut_ahead text (p ∷ ps) rest at is (behind, split, stands, cut) =
    let here : drop at text ≡ p.bytes ++ behind = is ∙ split in
    ap (λ (a : Ahead). a.tokens) (lexeme_ahead text p.bytes behind at p.form here (stands_front p.form p.bytes behind stands))
    ∙ ap (λ (ts : List Token). tokens_of_lexeme at p.form p.bytes ++ ts) (cut_ahead text ps behind (at + length p.bytes) (left_behind text p.bytes behind at here) cut)

-- at most one token, which begins there
OneAt : ℕ → List Token → Type 0
OneAt at [] = Unit {0}
OneAt at (u ∷ []) = u.span.from ≡ at
OneAt at (u ∷ v ∷ us) = ⊥

one_weight : (at : ℕ) (o : Option ℕ) → OneAt at (weight_token at o)
unfolding OneAt
one_weight at None = tt
one_weight at (Some n) = refl

one_at : (at : ℕ) (f : Form) (bytes : List ℕ) → OneAt at (tokens_of_lexeme at f bytes)
unfolding OneAt
one_at at form.Blank bytes = tt
one_at at form.LineComment bytes = one_weight at (weight_length bytes)
one_at at form.BlockComment bytes = tt
one_at at (form.Token k) bytes = refl

abbrev AheadOf : List ℕ → Token → List Token → Type 0
AheadOf text t tail = (ahead text t.span.from).tokens ≡ t ∷ tail

-- the token is the first of these, or stands among those behind them
by_first : (text : List ℕ) (at : ℕ) (t : Token) (tail own more before : List Token) → OneAt at own → own ++ more ≡ before ++ t ∷ tail
    → ((bs : List Token) → more ≡ bs ++ t ∷ tail → AheadOf text t tail) → (own ++ more ≡ t ∷ tail → at ≡ t.span.from → AheadOf text t tail) → AheadOf text t tail
unfolding OneAt
by_first text at t tail [] more before one e later here = later before e
by_first text at t tail (u ∷ []) more [] one e later here =
    let same : u ≡ t = cc in
    here e (sym one ∙ ap (λ (x : Token). x.span.from) same)
by_first text at t tail (u ∷ []) more (b ∷ bs) one e later here =
    let rest : more ≡ bs ++ t ∷ tail = cc in
    later bs rest
by_first text at t tail (u ∷ v ∷ us) more before one e later here = absurd one

place_ahead : (text : List ℕ) (ps : List Part) (rest : List ℕ) (at : ℕ) (before : List Token) (t : Token) (tail : List Token) → drop at text ≡ rest → IsCut ps rest []
    → tokens_of at ps ≡ before ++ t ∷ tail → AheadOf text t tail
place_ahead text [] rest at before t tail is cut e = absurd (omega (arith, ap length e, length-append before (t ∷ tail)))
place_ahead text (p ∷ ps) rest at before t tail is (behind, split, stands, cut) e =
    let there : drop (at + length p.bytes) text ≡ behind = left_behind text p.bytes behind at (is ∙ split) in
    by_first text at t tail (tokens_of_lexeme at p.form p.bytes) (tokens_of (at + length p.bytes) ps) before (one_at at p.form p.bytes) e
    (λ bs more. place_ahead text ps behind (at + length p.bytes) bs t tail there cut more)
    (λ all from. ap (λ (n : ℕ). (ahead text n).tokens) (sym from) ∙ cut_ahead text (p ∷ ps) rest at is (behind, split, stands, cut) ∙ all)

token_ahead : (text : List ℕ) (list before : List Token) (t : Token) (tail : List Token) → AreTokens text list → list ≡ before ++ t ∷ tail → AheadOf text t tail
token_ahead text list before t tail are split = place_ahead text are.parts text 0 before t tail refl are.cut (sym are.tokens ∙ split)

-- ## Semicolons

-- none of these words is a semicolon
no_ends : List Entry → Bool
no_ends [] = true
no_ends (w ∷ ws) = not (has ends w.1) && no_ends ws

no_end : (b : Bool) → not b ≡ true → b ≡ false
no_end true h = absurd cc
no_end false h = refl

word_in : (ws : List Entry) (bytes : List ℕ) → no_ends ws ≡ true → has ends (kind_or kinds.Name (kind_in ws bytes)) ≡ false
unfolding no_ends
word_in [] bytes h = refl
word_in (w ∷ ws) bytes h = by_word (str_eq_ignore_ascii_case bytes w.0) (and_parts (not (has ends w.1)) (no_ends ws) h).0 (word_in ws bytes (and_parts (not (has ends w.1)) (no_ends ws) h).1)
  where
    by_word : (b : Bool) → not (has ends w.1) ≡ true → has ends (kind_or kinds.Name (kind_in ws bytes)) ≡ false → has ends (kind_or kinds.Name (cond b (Some w.1) (kind_in ws bytes))) ≡ false
    by_word true own later = no_end (has ends w.1) own
    by_word false own later = later

known_words : no_ends known ≡ true
unfolding no_ends
known_words = refl

word_ends : (bytes : List ℕ) → has ends (word_kind bytes) ≡ false
unfolding word_kind
word_ends bytes = word_in known bytes known_words

aggregate_ends : (o : Option TerminalKind) → has ends (aggregate_or_name o) ≡ false
aggregate_ends (Some kinds.Aggregate) = refl
aggregate_ends _ = refl

quoted_ends : (bytes : List ℕ) → has ends (quoted_kind bytes) ≡ false
unfolding quoted_kind
quoted_ends bytes = aggregate_ends (kind_in known (inside bytes))

text_ends : (bytes : List ℕ) → has ends (kind_of_text (text_day bytes)) ≡ false
text_ends bytes = by_day (text_day bytes)
  where
    by_day : (o : Option _) → has ends (kind_of_text o) ≡ false
    by_day None = refl
    by_day (Some n) = refl

passed : (t v : Bool) (k more : TerminalKind) → has ends k ≡ false → (t ≡ true → v ≡ false) → has ends more ≡ v → has ends (cond t k more) ≡ v
passed true v k more e f g = e ∙ sym (f refl)
passed false v k more e f g = g

met : (t : Bool) (k more : TerminalKind) → has ends k ≡ true → has ends more ≡ false → has ends (cond t k more) ≡ t
met true k more e g = e
met false k more e g = g

another : (a n : ℕ) → eqb n 59 ≡ false → eqb a n ≡ true → eqb a 59 ≡ false
another a n h e = ap (λ (x : ℕ). eqb x 59) (is_that n a e) ∙ h

pub symbol_ends : (a b : ℕ) → has ends (symbol_kind a b) ≡ eqb a 59
unfolding symbol_kind
symbol_ends a b =
    passed (eqb a 40) (eqb a 59) kinds.Open _ refl (another a 40 refl)
    (passed (eqb a 41) (eqb a 59) kinds.Close _ refl (another a 41 refl)
    (passed (eqb a 44) (eqb a 59) kinds.Comma _ refl (another a 44 refl)
    (passed (eqb a 46) (eqb a 59) kinds.Point _ refl (another a 46 refl)
    (met (eqb a 59) kinds.Semicolon _ refl
    (passed (eqb a 42) false kinds.Star _ refl (λ _. refl)
    (passed (eqb a 43) false kinds.Plus _ refl (λ _. refl)
    (passed (eqb a 45) false kinds.Minus _ refl (λ _. refl)
    (passed (eqb a 61) false kinds.Equal _ refl (λ _. refl)
    (below (eqb a 60) (eqb b 62) _
    (passed (eqb a 33) false kinds.NotEqual _ refl (λ _. refl)
    (passed (eqb a 62) false kinds.Above _ refl (λ _. refl)
    (passed (eqb a 63) false kinds.Question _ refl (λ _. refl)
    (passed (eqb a 36) false kinds.Question kinds.Operator refl (λ _. refl) refl)))))))))))))
  where
    below : (t u : Bool) (more : TerminalKind) → has ends more ≡ false → has ends (cond t (cond u kinds.NotEqual kinds.Below) more) ≡ false
    below true true more g = refl
    below true false more g = refl
    below false u more g = g

kind_ends : (k : TokenKind) (bytes : List ℕ) (b : ℕ) → b ≡ slice_index bytes 0 → (is_symbol k && b == 59) ≡ has ends (kind_of k bytes)
kind_ends kind.Word bytes b e = sym (word_ends bytes)
kind_ends kind.Quoted bytes b e = sym (quoted_ends bytes)
kind_ends kind.Whole bytes b e = refl
kind_ends kind.Decimal bytes b e = refl
kind_ends kind.Text bytes b e = sym (text_ends bytes)
kind_ends kind.Symbol bytes b e = ap (λ (x : ℕ). x == 59) e ∙ sym (symbol_ends (slice_index bytes 0) (slice_index bytes 1))
kind_ends kind.Weight bytes b e = refl

first_byte : (text : List ℕ) (t : Token) → LiesIn text t → slice_index text t.span.from ≡ slice_index (bytes_of text t) 0
first_byte text t lies =
    let some : 0 < t.span.to - t.span.from = omega (arith, lies.0) in
    let same : t.span.from + 0 ≡ t.span.from = omega arith in
    ap (λ (n : ℕ). get_or text n 0) (sym same) ∙ sym (get_or-drop t.span.from text 0 0) ∙ sym (get_or-take (t.span.to - t.span.from) (drop t.span.from text) 0 0 some)

-- a token is `;` where its terminal is
semicolon_is : (text : List ℕ) (t : Token) (p : Terminal) (m : Mark) → LiesIn text t → IsTerminal text m t p → is_semicolon text t ≡ has ends p.kind
semicolon_is text t p m lies is = kind_ends t.kind (bytes_of text t) (slice_index text t.span.from) (first_byte text t lies) ∙ ap (has ends) (sym is.kind)

-- ## Tokens of terminals

-- a token of the text is this terminal
abbrev pub IsTerminalOf : List ℕ → Token → Terminal → Type 0
IsTerminalOf text t p = (m : Mark) × LiesIn text t × IsTerminal text m t p

-- the token that a terminal is, and those behind it
record TokenOf (text : List ℕ) (list : List Token) (first : Terminal) (more : List Terminal) : Type 0 where
  before : List Token
  token : Token
  tail : List Token
  marked : Mark
  split : list ≡ before ++ token ∷ tail
  plain : is_weight token.kind ≡ false
  is : IsTerminal text marked token first
  are : AreTerminals text tail marked more

one_later : (text : List ℕ) (x : Token) (xs : List Token) (first : Terminal) (more : List Terminal) → TokenOf text xs first more → TokenOf text (x ∷ xs) first more
one_later text x xs first more o =
    record { before = x ∷ o.before; token = o.token; tail = o.tail; marked = o.marked; split = ap (λ (ts : List Token). x ∷ ts) o.split; plain = o.plain; is = o.is; are = o.are }

token_of : (text : List ℕ) (list : List Token) (mark : Mark) (front : List Terminal) (first : Terminal) (more terminals : List Terminal) → AreTerminals text list mark terminals
    → terminals ≡ front ++ first ∷ more → TokenOf text list first more
token_of text [] mark front first more terminals are e = absurd (omega (arith, ap length (sym are ∙ e), length-append front (first ∷ more)))
token_of text (x ∷ xs) mark front first more terminals are e = by_kind (λ m fr ts h k. token_of text xs m fr first more ts h k) (is_weight x.kind) refl are
  where
    by_front : ((m : Mark) (fr ts : List Terminal) → AreTerminals text xs m ts → ts ≡ fr ++ first ∷ more → TokenOf text xs first more) → (p : Terminal) (rest fr : List Terminal) → is_weight x.kind ≡ false
        → IsTerminal text mark x p → AreTerminals text xs mark rest → p ∷ rest ≡ fr ++ first ∷ more → TokenOf text (x ∷ xs) first more
    by_front again p rest [] k is h same =
        let one : p ≡ first = cc in
        let others : rest ≡ more = cc in
        record { before = []; token = x; tail = xs; marked = mark; split = refl; plain = k; is = subst (IsTerminal text mark x) one is; are = subst (AreTerminals text xs mark) others h }
    by_front again p rest (f ∷ fs) k is h same =
        let others : rest ≡ fs ++ first ∷ more = cc in
        one_later text x xs first more (again mark fs rest h others)

    by_kind : ((m : Mark) (fr ts : List Terminal) → AreTerminals text xs m ts → ts ≡ fr ++ first ∷ more → TokenOf text xs first more) → (w : Bool) → is_weight x.kind ≡ w
        → WithToken text mark x (AreTerminals text xs) w terminals → TokenOf text (x ∷ xs) first more
    by_kind again true k h = one_later text x xs first more (again (mark_behind text x mark) front terminals h e)
    by_kind again false k (p, rest, split, is, h) = by_front again p rest front k is h (sym split ∙ e)

-- the tokens of a statement behind its first
record OwnOf (text : List ℕ) (tail : List Token) (rest : List Terminal) : Type 0 where
  own : List Token
  all : own_tokens text tail ≡ own
  are : Pairs (IsTerminalOf text) own rest

-- so are those of fewer
abbrev Again : List ℕ → List Token → List Terminal → Type 0
Again text xs behind = (m : Mark) (rs ts : List Terminal) → AreTerminals text xs m ts → ts ≡ rs ++ behind → Each GoesOn rs → OwnOf text xs rs

own_of : (text : List ℕ) (tail : List Token) (mark : Mark) (rest behind terminals : List Terminal) → Each (LiesIn text) tail → AreTerminals text tail mark terminals → terminals ≡ rest ++ behind
    → Each GoesOn rest → Ends behind → OwnOf text tail rest
own_of text [] mark [] behind terminals lies are e go end = record { own = []; all = refl; are = tt }
own_of text [] mark (r ∷ rs) behind terminals lies are e go end = let none : [] ≡ r ∷ (rs ++ behind) = sym are ∙ e in absurd cc
own_of text (x ∷ xs) mark rest behind terminals lies are e go end = by_kind (λ m rs ts h k goes. own_of text xs m rs behind ts lies.1 h k goes end) (is_weight x.kind) refl are
  where
    by_rest : Again text xs behind → (p : Terminal) (more rs : List Terminal) → is_weight x.kind ≡ false → IsTerminal text mark x p → AreTerminals text xs mark more → p ∷ more ≡ rs ++ behind → Each GoesOn rs → OwnOf text (x ∷ xs) rs
    by_rest again p more [] k is h same goes =
        let semi : has ends p.kind ≡ true = subst Ends (sym same) end in
        record { own = []; all = own_ends text x (x ∷ xs) xs refl k (semicolon_is text x p mark lies.0 is ∙ semi); are = tt }
    by_rest again p more (r ∷ rs) k is h same goes =
        let one : p ≡ r = cc in
        let others : more ≡ rs ++ behind = cc in
        let later = again mark rs more h others goes.1 in
        record {
          own = x ∷ later.own;
          all = own_goes text x (x ∷ xs) xs refl k (semicolon_is text x p mark lies.0 is ∙ ap (λ (y : Terminal). has ends y.kind) one ∙ goes.0) ∙ ap (λ (ts : List Token). x ∷ ts) later.all;
          are = ((mark, lies.0, subst (IsTerminal text mark x) one is), later.are);
        }

    by_kind : Again text xs behind → (w : Bool) → is_weight x.kind ≡ w → WithToken text mark x (AreTerminals text xs) w terminals → OwnOf text (x ∷ xs) rest
    by_kind again true k h =
        let later = again (mark_behind text x mark) rest terminals h e go in
        record { own = later.own; all = own_weight text x (x ∷ xs) xs refl k ∙ later.all; are = later.are }
    by_kind again false k (p, more, split, is, h) = by_rest again p more rest k is h (sym split ∙ e) go

-- ## Of a statement

pub each_of : {X : Type 0} (P : X → Type 0) (xs : List X) → All P xs → Each P xs
each_of P [] all = tt
each_of P (x ∷ xs) all = (All-head P x xs all, each_of P xs (All-tail P x xs all))

each_behind : {X : Type 0} (P : X → Type 0) (xs ys : List X) → Each P (xs ++ ys) → Each P ys
each_behind P [] ys h = h
each_behind P (x ∷ xs) ys h = each_behind P xs ys h.1

-- the tokens that are written of a statement are its terminals
pub record StatementOwn (text : List ℕ) (place : ℕ) (terminals : List Terminal) : Type 0 where
  pub are : Pairs (IsTerminalOf text) (statement_tokens text place) terminals

pub statement_own : (text : List ℕ) (list : List Token) (terminals : List Terminal) (s : ParsedStatement) → AreTokens text list → AreTerminals text list no_mark terminals
    → (h : StandsAmong (IsNested grammar levels) terminals s) → StatementOwn text s.place (h.first ∷ h.rest)
unfolding statement_tokens
statement_own text list terminals s tokens are h =
    let o = token_of text list no_mark h.before h.first (h.rest ++ h.behind) terminals are h.split in
    let at : AheadOf text o.token o.tail = token_ahead text list o.before o.token o.tail tokens o.split in
    let from : h.first.span.from ≡ o.token.span.from = ap (λ (x : Span). x.from) o.is.span in
    let place : s.place - 1 ≡ o.token.span.from = omega (arith, h.place, from) in
    let goes : Each GoesOn (h.first ∷ h.rest) = statement_goes levels h.first h.rest s.body h.is in
    let lies : Each (LiesIn text) (o.token ∷ o.tail) = each_behind (LiesIn text) o.before (o.token ∷ o.tail) (subst (Each (LiesIn text)) o.split (each_of (LiesIn text) list (tokens-lie text list tokens))) in
    let own = own_of text o.tail o.marked h.rest h.behind (h.rest ++ h.behind) lies.1 o.are refl goes.1 h.ended in
    let plain : is_semicolon text o.token ≡ false = semicolon_is text o.token h.first o.marked lies.0 o.is ∙ goes.0 in
    let all : own_tokens text (ahead text (s.place - 1)).tokens ≡ o.token ∷ own.own =
    ap (λ (n : ℕ). own_tokens text (ahead text n).tokens) place ∙ ap (own_tokens text) at ∙ own_goes text o.token (o.token ∷ o.tail) o.tail refl o.plain plain
    ∙ ap (λ (ts : List Token). o.token ∷ ts) own.all in
    record { are = subst (λ (ts : List Token). Pairs (IsTerminalOf text) ts (h.first ∷ h.rest)) (sym all) ((o.marked, lies.0, o.is), own.are) }
