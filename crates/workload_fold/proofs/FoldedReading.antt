-- A folded text is read as the statements of its groups.
use Rattle.std.proofs.Common.{◌≡◌, ℕ, zero, suc, ◌+◌, ◌≤◌, Bool, true, false, if◌then◌else◌, List, [], ◌∷◌, ◌++◌, length, Some, None, refl, sym, ap, ◌∙◌, subst, inl, inr, append_assoc, append-nil, arith}
use Rattle.std.specs.Prelude.{nat_lt, option_map}
use Rattle.std.proofs.lemmas.Bool.Decides.{nat_tests}
use Rattle.sql_tokens.specs.Cut.{AreTokens}
use Rattle.sql_tokens.specs.declared.token.Token.{Token}
use Rattle.sql_reader.specs.declared.kind.TerminalKind.{TerminalKind}
use Rattle.sql_reader.specs.declared.kind.TerminalKind.TheVariants as kinds
use Rattle.sql_reader.specs.declared.terminal.Terminal.{Terminal}
use Rattle.sql_reader.specs.declared.terminal.Mark.{Mark}
use Rattle.sql_reader.specs.declared.parsed.Body.{Body}
use Rattle.sql_reader.specs.declared.parsed.Body.TheVariants as bodies
use Rattle.sql_reader.specs.declared.parsed.ParsedStatement.{ParsedStatement}
use Rattle.sql_reader.specs.declared.parsed.SqlFault.TheVariants as faults
use Rattle.sql_reader.specs.declared.parts.Progress.{Progress}
use Rattle.sql_reader.specs.Grammar.{levels, starts}
use Rattle.sql_reader.specs.Kinds.{has}
use Rattle.sql_reader.specs.Printed as printed
use Rattle.sql_reader.specs.Rule.{IsOver, IsNested, Turns}
use Rattle.sql_reader.specs.Terminals.{AreTerminals, no_mark, bad_weight, starts_in, places_of, start_behind}
use Rattle.sql_reader.specs.Values.{place_of, weight_of, with_statement, no_statements, insert_body, update_body}
use Rattle.sql_reader.specs.Workload.{earlier, MeansStatements, IsWorkload}
use Rattle.sql_reader.proofs.Begun.{begin_at_starts}
use Rattle.workload_fold.specs.Pairs.{Pairs}
use Rattle.workload_fold.specs.Places.{Texts, SameTerminal, SameBody}
use Rattle.workload_fold.specs.Readings.{StatementsReadAlike}
use Rattle.workload_fold.proofs.TokensAhead.{Each}
use Rattle.workload_fold.proofs.StatementParts.{Deeper, IsStatement, ends, another, statement_read}
use Rattle.workload_fold.proofs.FoldedTerminals.{Piece, IsPiece, group_mark, AreRead}

abbrev d : Deeper
d = IsNested printed.grammar levels

-- what is read of a group: a statement with its weight, which does the same
abbrev pub SameStatement : Texts → Piece → ParsedStatement → Type 0
SameStatement t x s = (s.weight ≡ x.weight) × SameBody t x.body s.body

-- ## One statement

-- a statement of the copies
record Copy (t : Texts) (q : Terminal) (qs : List Terminal) (b : Body) : Type 0 where
  body : Body
  is : IsStatement d q qs body
  same : SameBody t b body

is_of_kind : (t : Texts) (kind : TerminalKind) (p q : Terminal) → SameTerminal t p q → has (kind ∷ []) p.kind ≡ true → has (kind ∷ []) q.kind ≡ true
is_of_kind t kind p q same among = ap (has (kind ∷ [])) (sym same.kind) ∙ among

copy_of : StatementsReadAlike → (t : Texts) (p q : Terminal) (ps qs : List Terminal) (b : Body) → IsStatement d p ps b → Pairs (SameTerminal t) (p ∷ ps) (q ∷ qs) → Copy t q qs b
copy_of alike t p q ps qs b (inl (x, among, h, made)) same =
    let (y, is, agree) = alike.select t levels ps qs x same.1 h in
    record {
      body = bodies.Select y;
      is = inl (y, is_of_kind t kinds.Select p q same.0 among, is, refl);
      same = subst (λ (z : Body). SameBody t z (bodies.Select y)) (sym made) agree;
    }
copy_of alike t p q ps qs b (inr (inl (x, among, h, made))) same =
    let (y, is, agree) = alike.insert t levels ps qs x same.1 h in
    record {
      body = insert_body y;
      is = inr (inl (y, is_of_kind t kinds.Insert p q same.0 among, is, refl));
      same = subst (λ (z : Body). SameBody t z (insert_body y)) (sym made) (agree.table, agree.columns, agree.found.uses, agree.rows);
    }
copy_of alike t p q ps qs b (inr (inr (inl (x, among, h, made)))) same =
    let (y, is, agree) = alike.update t levels ps qs x same.1 h in
    record {
      body = update_body y;
      is = inr (inr (inl (y, is_of_kind t kinds.Update p q same.0 among, is, refl)));
      same = subst (λ (z : Body). SameBody t z (update_body y)) (sym made) (agree.source, agree.columns, agree.found.uses, agree.conditions);
    }
copy_of alike t p q ps qs b (inr (inr (inr (x, among, h, made)))) same =
    let (y, is, agree) = alike.delete t levels ps qs x same.1 h in
    record {
      body = y;
      is = inr (inr (inr (y, is_of_kind t kinds.Delete p q same.0 among, is, refl)));
      same = subst (λ (z : Body). SameBody t z y) (sym made) agree;
    }

weight_is : (before at w : ℕ) (q : Terminal) → before ≤ at → q.mark ≡ group_mark at w → weight_of before q ≡ w
weight_is before at w q low mark =
    let inside : nat_lt before (at + 1) ≡ true = grind (arith, nat_tests) in
    ap (λ (m : Mark). if nat_lt before m.place then m.weight else 1) mark ∙ rw inside refl

-- ## All statements

-- what is read behind a semicolon
record MoreRead (t : Texts) (xs : List Piece) (a : Progress) (qs : List Terminal) : Type 0 where
  turns : ℕ
  after : Progress
  is : Turns (IsOver d another) turns a qs after
  new : List ParsedStatement
  all : after.statements ≡ a.statements ++ new
  same : Pairs (SameStatement t) xs new

more_read : StatementsReadAlike → (t : Texts) (xs : List Piece) (at : ℕ) (a : Progress) (end : Terminal) (qs : List Terminal) → has ends end.kind ≡ true → a.before ≤ at → Each (IsPiece t.one) xs
    → AreRead t xs at qs → MoreRead t xs a (end ∷ qs)
more_read alike t [] at a end qs ended low pieces nil =
    record {
      turns = suc zero;
      after = a;
      is = (end ∷ [], [], a, ap (λ (ts : List Terminal). end ∷ ts) nil, (end ∷ [], [], a, refl, (end, ended, refl, refl), inr (refl, refl)), (refl, refl));
      new = [];
      all = sym (append-nil a.statements);
      same = tt;
    }
more_read alike t (x ∷ xs) at a end qs ended low pieces (to, first, next, rest, back, split, g, later) =
    let s = copy_of alike t x.first first x.rest rest x.body pieces.0.is g.same in
    let m : Progress = with_statement a first s.body in
    let behind : m.before ≤ to = (let own = g.before in omega arith) in
    let more = more_read alike t xs to m next back g.ended behind pieces.1 later in
    let new : ParsedStatement = record { place = place_of first; weight = weight_of a.before first; body = s.body } in
    record {
      turns = suc more.turns;
      after = more.after;
      is = (end ∷ (first ∷ rest), next ∷ back, m, ap (λ (ts : List Terminal). end ∷ ts) split, (end ∷ [], first ∷ rest, a, refl, (end, ended, refl, refl), inl (statement_read d a first rest s.body s.is)), more.is);
      new = new ∷ more.new;
      all = more.all ∙ append_assoc a.statements (new ∷ []) more.new;
      same = ((weight_is a.before at x.weight first low g.mark, s.same), more.same);
    }

-- what is read of a folded text
pub record WholeRead (t : Texts) (xs : List Piece) (qs : List Terminal) : Type 0 where
  pub after : Progress
  pub is : MeansStatements no_statements qs after
  pub same : Pairs (SameStatement t) xs after.statements

pub whole_read : StatementsReadAlike → (t : Texts) (xs : List Piece) (qs : List Terminal) → Each (IsPiece t.one) xs → AreRead t xs 0 qs → WholeRead t xs qs
unfolding printed.workload
whole_read alike t [] qs pieces nil = record { after = no_statements; is = ([], [], no_statements, nil, inr (refl, refl), (zero, (refl, refl))); same = tt }
whole_read alike t (x ∷ xs) qs pieces (to, first, next, rest, back, split, g, later) =
    let s = copy_of alike t x.first first x.rest rest x.body pieces.0.is g.same in
    let m : Progress = with_statement no_statements first s.body in
    let behind : m.before ≤ to = (let own = g.before in omega arith) in
    let more = more_read alike t xs to m next back g.ended behind pieces.1 later in
    let new : ParsedStatement = record { place = place_of first; weight = weight_of 0 first; body = s.body } in
    record {
      after = more.after;
      is = (first ∷ rest, next ∷ back, m, split, inl (statement_read d no_statements first rest s.body s.is), (more.turns, more.is));
      same = subst (Pairs (SameStatement t) (x ∷ xs)) (sym more.all) ((weight_is 0 0 x.weight first (omega arith) g.mark, s.same), more.same);
    }

-- ## There are not too many

pub few_begin : (n : ℕ) (ps : List Terminal) → length (starts_in ps) ≤ n → start_behind n ps ≡ None
few_begin n [] few = refl
few_begin zero (p ∷ ps) few = by_kind (has starts p.kind) (few_begin zero ps) few
  where
    by_kind : (b : Bool) → (length (starts_in ps) ≤ 0 → start_behind 0 ps ≡ None) → length (if b then place_of p ∷ starts_in ps else starts_in ps) ≤ 0 → (if b then Some (place_of p) else start_behind 0 ps) ≡ None
    by_kind true later low = absurd (omega (arith, low))
    by_kind false later low = later low
few_begin (suc n) (p ∷ ps) few = by_kind (has starts p.kind) (few_begin n ps) (few_begin (suc n) ps) few
  where
    by_kind : (b : Bool) → (length (starts_in ps) ≤ n → start_behind n ps ≡ None) → (length (starts_in ps) ≤ suc n → start_behind (suc n) ps ≡ None)
        → length (if b then place_of p ∷ starts_in ps else starts_in ps) ≤ suc n → (if b then start_behind n ps else start_behind (suc n) ps) ≡ None
    by_kind true fewer later low = fewer (omega (arith, low))
    by_kind false fewer later low = later low

pub begin_few : (n : ℕ) (ps : List Terminal) → start_behind n ps ≡ None → length (starts_in ps) ≤ n
begin_few n [] none = omega arith
begin_few zero (p ∷ ps) none = by_kind (has starts p.kind) (begin_few zero ps) none
  where
    by_kind : (b : Bool) → (start_behind 0 ps ≡ None → length (starts_in ps) ≤ 0) → (if b then Some (place_of p) else start_behind 0 ps) ≡ None → length (if b then place_of p ∷ starts_in ps else starts_in ps) ≤ 0
    by_kind true later e = absurd cc
    by_kind false later e = later e
begin_few (suc n) (p ∷ ps) none = by_kind (has starts p.kind) (begin_few n ps) (begin_few (suc n) ps) none
  where
    by_kind : (b : Bool) → (start_behind n ps ≡ None → length (starts_in ps) ≤ n) → (start_behind (suc n) ps ≡ None → length (starts_in ps) ≤ suc n)
        → (if b then start_behind n ps else start_behind (suc n) ps) ≡ None → length (if b then place_of p ∷ starts_in ps else starts_in ps) ≤ suc n
    by_kind true fewer later e = let low = fewer e in omega arith
    by_kind false fewer later e = later e

places_length : (xs : List ParsedStatement) → length (places_of xs) ≡ length xs
places_length [] = refl
places_length (x ∷ xs) = let later = places_length xs in omega arith

-- a workload has as many statements as words that begin one
pub statements_begun : (ps : List Terminal) (b : Progress) → MeansStatements no_statements ps b → length (starts_in ps) ≡ length b.statements
statements_begun ps b h = ap length (sym (begin_at_starts ps b h)) ∙ places_length b.statements

pub pairs_length : {X Y : Type 0} (R : X → Y → Type 0) (xs : List X) (ys : List Y) → Pairs R xs ys → length xs ≡ length ys
pairs_length R [] [] h = refl
pairs_length R [] (y ∷ ys) h = absurd h
pairs_length R (x ∷ xs) [] h = absurd h
pairs_length R (x ∷ xs) (y ∷ ys) h = let later = pairs_length R xs ys h.1 in omega arith

-- a text with good weights, whose terminals are those of at most 1000 groups, is their workload
pub record FoldedRead (t : Texts) (xs : List Piece) : Type 0 where
  pub read : List ParsedStatement
  pub is : IsWorkload t.other read
  pub same : Pairs (SameStatement t) xs read

pub folded_read : StatementsReadAlike → (t : Texts) (xs : List Piece) (list : List Token) (qs : List Terminal) → length xs ≤ 1000 → AreTokens t.other list → AreTerminals t.other list no_mark qs
    → bad_weight t.other list ≡ None → Each (IsPiece t.one) xs → AreRead t xs 0 qs → FoldedRead t xs
folded_read alike t xs list qs few tokens terminals good pieces are =
    let w = whole_read alike t xs qs pieces are in
    let most : length (starts_in qs) ≤ 1000 = omega (arith, few, statements_begun qs w.after w.is, pairs_length (SameStatement t) xs w.after.statements w.same) in
    let start : start_behind 1000 qs ≡ None = few_begin 1000 qs most in
    record {
      read = w.after.statements;
      is = record {
        list = list;
        terminals = qs;
        progress = w.after;
        of_grammar = None;
        are_tokens = tokens;
        are_terminals = terminals;
        says = w.is;
        first = sym (λ i. earlier None (earlier (option_map faults.BadWeight (good i)) (option_map faults.TooManyStatements (start i))));
        same = refl;
      };
      same = w.same;
    }
