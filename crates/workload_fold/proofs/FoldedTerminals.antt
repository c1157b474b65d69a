-- The terminals of a folded text are those of its groups' first statements.
use Rattle.std.proofs.Common.{◌≡◌, ℕ, zero, suc, ◌+◌, ◌-◌, ◌<◌, ◌≤◌, ◌^◌, Bool, true, false, if◌then◌else◌, List, [], ◌∷◌, ◌++◌, length, get_or, Option, Some, None, refl, sym, ap, ◌∙◌, subst, arith}
use Rattle.std.specs.Prelude.{codes, decimal, nat_le}
use Rattle.std.specs.Char.{is_ascii_digit}
use Rattle.std.specs.List.{list_all}
use Rattle.std.specs.Str.Parse.{digits_value}
use Rattle.std.proofs.lemmas.Bool.{and_parts}
use Rattle.std.proofs.lemmas.Bool.Decides.{nat_tests}
use Rattle.std.proofs.lemmas.Fmt.{decimal_is_IsNumeral}
use Rattle.std.proofs.lemmas.List.{length-append, get_or-drop}
use Rattle.sql_tokens.specs.Form.{IsToken}
use Rattle.sql_tokens.specs.Span.{LiesIn}
use Rattle.sql_tokens.specs.declared.token.Span.{Span}
use Rattle.sql_tokens.specs.declared.token.Token.{Token}
use Rattle.sql_tokens.specs.declared.token.TokenKind.{TokenKind}
use Rattle.sql_tokens.specs.declared.token.TokenKind.TheVariants as kind
use Rattle.sql_reader.specs.declared.terminal.Terminal.{Terminal}
use Rattle.sql_reader.specs.declared.terminal.Mark.{Mark}
use Rattle.sql_reader.specs.declared.parsed.Body.{Body}
use Rattle.sql_reader.specs.Grammar.{levels}
use Rattle.sql_reader.specs.Kinds.{has}
use Rattle.sql_reader.specs.Printed.{grammar}
use Rattle.sql_reader.specs.Rule.{IsNested}
use Rattle.sql_reader.specs.Terminals.{bytes_of, kind_of, number_of, is_weight, mark_or, mark_behind, IsTerminal, WithToken, AreTerminals, lacks_weight, is_bad_weight, bad_weight}
use Rattle.sql_reader.specs.Words.{last_digits, is_good_weight, comment_weight}
use Rattle.sql_reader.proofs.Digits.{are_last}
use Rattle.binder.specs.Names.{span_bytes}
use Rattle.workload_fold.specs.Pairs.{Pairs}
use Rattle.workload_fold.specs.Places.{Texts, SameTerminal}
use Rattle.workload_fold.specs.FoldedTokens.{SameToken, weight_comment}
use Rattle.workload_fold.proofs.TokensAhead.{Each}
use Rattle.workload_fold.proofs.CopiedTokens.{IsOwn, Before, Entry, IsCopy, AreCopies, digits_decimal}
use Rattle.workload_fold.proofs.StatementParts.{IsStatement, ends}
use Rattle.workload_fold.proofs.OwnTerminals.{IsTerminalOf, symbol_ends}

-- ## The weight that a comment gives

all_at : (p : ℕ → Bool) (xs : List ℕ) (j : ℕ) → list_all p xs ≡ true → j < length xs → p (get_or xs j 0) ≡ true
all_at p [] j h low = absurd (omega (arith, low))
all_at p (x ∷ xs) zero h low = (and_parts (p x) (list_all p xs) h).0
all_at p (x ∷ xs) (suc j) h low = all_at p xs j (and_parts (p x) (list_all p xs) h).1 (omega (arith, low))

last_of_comment : (w : ℕ) → w < 2 ^ 64 → decimal w ≡ last_digits (weight_comment w)
last_of_comment w small =
    let bytes : List ℕ = weight_comment w in
    let long : length bytes ≡ 10 + length (decimal w) = omega (arith, length-append (codes "-- weight ") (decimal w)) in
    are_last bytes 10 (omega (arith, long))
    (λ i from below.
    let j : ℕ = i - 10 in
    let place : 10 + j ≡ i = omega arith in
    let inside : j < length (decimal w) = omega (arith, long, below, from) in
    ap (λ (n : ℕ). is_ascii_digit (get_or bytes n 0)) (sym place) ∙ ap is_ascii_digit (sym (get_or-drop 10 bytes j 0)) ∙ all_at is_ascii_digit (decimal w) j (digits_decimal w small) inside)
    (λ some. refl)

comment_is : (w : ℕ) → 1 ≤ w → w ≤ 1000000 → comment_weight (weight_comment w) ≡ Some w
unfolding comment_weight
comment_is w least most =
    let small : w < 2 ^ 64 = omega (arith, most) in
    let value : digits_value 10 (last_digits (weight_comment w)) ≡ w = ap (digits_value 10) (sym (last_of_comment w small)) ∙ (decimal_is_IsNumeral w small).1 in
    let good : is_good_weight w ≡ true = grind (arith, nat_tests) in
    ap (λ (n : ℕ). if is_good_weight n then Some n else None) value ∙ rw good refl

-- ## Copies of terminals

span_of_token : (text : List ℕ) (t : Token) → LiesIn text t → span_bytes text t.span ≡ bytes_of text t
span_of_token text t lies =
    let from_to : t.span.from ≤ t.span.to = omega (arith, lies.0) in
    let to_end : t.span.to ≤ length text = lies.1 in
    let one : nat_le t.span.from t.span.to ≡ true = grind (arith, nat_tests) in
    let two : nat_le t.span.to (length text) ≡ true = grind (arith, nat_tests) in
    rw (one, two) refl

same_terminal : (t : Texts) (x c : Token) (p q : Terminal) (m : Mark) → SameToken t x c → IsTerminalOf t.one x p → LiesIn t.other c → IsTerminal t.other m c q → SameTerminal t p q
same_terminal t x c p q m same (mark, lies, own) inside copy =
    record {
      kind = own.kind ∙ (λ i. kind_of (same.kind i) (same.bytes i)) ∙ sym copy.kind;
      number = own.number ∙ (λ i. number_of (same.kind i) (same.bytes i)) ∙ sym copy.number;
      span = ap (span_bytes t.one) own.span ∙ span_of_token t.one x lies ∙ same.bytes ∙ sym (span_of_token t.other c inside) ∙ ap (span_bytes t.other) (sym copy.span);
    }

own_plain : (k : TokenKind) (bytes : List ℕ) → IsToken k bytes → is_weight k ≡ false
own_plain kind.Weight bytes h = absurd h
own_plain _ bytes h = refl

abbrev pub IsMarked : Mark → Terminal → Type 0
IsMarked m q = q.mark ≡ m

abbrev pub StandsBefore : ℕ → Terminal → Type 0
StandsBefore to q = q.span.from < to

-- the terminals of copies, and those behind them
record Walked (t : Texts) (ps : List Terminal) (more : List Token) (m : Mark) (to : ℕ) (qs : List Terminal) : Type 0 where
  front : List Terminal
  back : List Terminal
  split : qs ≡ front ++ back
  same : Pairs (SameTerminal t) ps front
  marks : Each (IsMarked m) front
  before : Each (StandsBefore to) front
  rest : AreTerminals t.other more m back

walk : (t : Texts) (own : List Token) (ps : List Terminal) (copies more : List Token) (m : Mark) (to : ℕ) (qs : List Terminal) → Pairs (IsTerminalOf t.one) own ps → Pairs (SameToken t) own copies
    → Each (IsOwn t.one) own → Each (LiesIn t.other) copies → Each (Before to) copies → AreTerminals t.other (copies ++ more) m qs → Walked t ps more m to qs
walk t [] [] [] more m to qs own same spelled lies before are = record { front = []; back = qs; split = refl; same = tt; marks = tt; before = tt; rest = are }
walk t [] [] (c ∷ cs) more m to qs own same spelled lies before are = absurd same
walk t [] (p ∷ ps) copies more m to qs own same spelled lies before are = absurd own
walk t (x ∷ xs) [] copies more m to qs own same spelled lies before are = absurd own
walk t (x ∷ xs) (p ∷ ps) [] more m to qs own same spelled lies before are = absurd same
walk t (x ∷ xs) (p ∷ ps) (c ∷ cs) more m to qs own same spelled lies before are =
    let plain : is_weight c.kind ≡ false = ap is_weight (sym same.0.kind) ∙ own_plain x.kind (bytes_of t.one x) spelled.0 in
    let (q, rest, split, is, h) = subst (λ (b : Bool). WithToken t.other m c (AreTerminals t.other (cs ++ more)) b qs) plain are in
    let later = walk t xs ps cs more m to rest own.1 same.1 spelled.1 lies.1 before.1 h in
    let from : q.span.from ≡ c.span.from = ap (λ (s : Span). s.from) is.span in
    record {
      front = q ∷ later.front;
      back = later.back;
      split = split ∙ ap (λ (ts : List Terminal). q ∷ ts) later.split;
      same = (same_terminal t x c p q m same.0 own.0 lies.0 is, later.same);
      marks = (is.mark_is, later.marks);
      before = (subst (λ (n : ℕ). n < to) (sym from) before.0, later.before);
      rest = later.rest;
    }

-- ## Groups

-- what is written of a statement: its weight, its tokens, and the statement that they are
pub record Piece : Type 0 where
  pub weight : ℕ
  pub own : List Token
  pub first : Terminal
  pub rest : List Terminal
  pub body : Body

pub record IsPiece (text : List ℕ) (x : Piece) : Type 0 where
  pub least : 1 ≤ x.weight
  pub most : x.weight ≤ 1000000
  pub spelled : Each (IsOwn text) x.own
  pub are : Pairs (IsTerminalOf text) x.own (x.first ∷ x.rest)
  pub is : IsStatement (IsNested grammar levels) x.first x.rest x.body

abbrev pub piece_entries : List Piece → List Entry
piece_entries [] = []
piece_entries (x ∷ xs) = (x.own, x.weight) ∷ piece_entries xs

abbrev pub group_mark : ℕ → ℕ → Mark
group_mark at w = record { place = at + 1; weight = w }

-- the terminals of a group, which stand from one place to another
pub record IsGroupRead (t : Texts) (x : Piece) (at to : ℕ) (first : Terminal) (rest : List Terminal) (end : Terminal) : Type 0 where
  pub same : Pairs (SameTerminal t) (x.first ∷ x.rest) (first ∷ rest)
  pub mark : first.mark ≡ group_mark at x.weight
  pub before : first.span.from < to
  pub ended : has ends end.kind ≡ true

abbrev pub AreRead : Texts → List Piece → ℕ → List Terminal → Type 0
AreRead t [] at qs = qs ≡ []
AreRead t (x ∷ xs) at qs =
    (to : ℕ) × (first end : Terminal) × (rest back : List Terminal) × (qs ≡ first ∷ (rest ++ end ∷ back)) × IsGroupRead t x at to first rest end × AreRead t xs to back

each_front : {X : Type 0} (P : X → Type 0) (xs ys : List X) → Each P (xs ++ ys) → Each P xs
each_front P [] ys h = tt
each_front P (x ∷ xs) ys h = (h.0, each_front P xs ys h.1)

each_back : {X : Type 0} (P : X → Type 0) (xs ys : List X) → Each P (xs ++ ys) → Each P ys
each_back P [] ys h = h
each_back P (x ∷ xs) ys h = each_back P xs ys h.1

-- the terminals of one group, and those behind it
record OneRead (t : Texts) (x : Piece) (at to : ℕ) (more : List Token) (qs : List Terminal) : Type 0 where
  first : Terminal
  end : Terminal
  rest : List Terminal
  back : List Terminal
  split : qs ≡ first ∷ (rest ++ end ∷ back)
  is : IsGroupRead t x at to first rest end
  later : AreTerminals t.other more (group_mark at x.weight) back

one_read : (t : Texts) (x : Piece) (at to : ℕ) (mark end : Token) (copies more : List Token) (m : Mark) (qs : List Terminal) → IsPiece t.one x → IsCopy t (x.own, x.weight) at to mark copies end
    → Each (LiesIn t.other) copies → AreTerminals t.other (mark ∷ (copies ++ end ∷ more)) m qs → OneRead t x at to more qs
one_read t x at to mark end copies more m qs piece copy lies are =
    let marks : is_weight mark.kind ≡ true = ap is_weight copy.is.mark_kind in
    let weight : comment_weight (bytes_of t.other mark) ≡ Some x.weight = ap comment_weight copy.is.mark_bytes ∙ comment_is x.weight piece.least piece.most in
    let new : mark_behind t.other mark m ≡ group_mark at x.weight = (λ i. mark_or m (copy.begins i + 1) (weight i)) in
    let behind : AreTerminals t.other (copies ++ end ∷ more) (mark_behind t.other mark m) qs =
    subst (λ (b : Bool). WithToken t.other m mark (AreTerminals t.other (copies ++ end ∷ more)) b qs) marks are in
    let w = walk t x.own (x.first ∷ x.rest) copies (end ∷ more) (group_mark at x.weight) to qs piece.are copy.is.same piece.spelled lies copy.before
    (subst (λ (n : Mark). AreTerminals t.other (copies ++ end ∷ more) n qs) new behind) in
    by_front w.front w.back w.split w.same w.marks w.before w.rest
  where
    by_front : (front back : List Terminal) → qs ≡ front ++ back → Pairs (SameTerminal t) (x.first ∷ x.rest) front → Each (IsMarked (group_mark at x.weight)) front → Each (StandsBefore to) front
        → AreTerminals t.other (end ∷ more) (group_mark at x.weight) back → OneRead t x at to more qs
    by_front [] back split same marks before rest = absurd same
    by_front (q ∷ front) back split same marks before rest =
        let plain : is_weight end.kind ≡ false = ap is_weight copy.is.end_kind in
        let (e, later, behind, is, h) = subst (λ (b : Bool). WithToken t.other (group_mark at x.weight) end (AreTerminals t.other more) b back) plain rest in
        record {
          first = q;
          end = e;
          rest = front;
          back = later;
          split = split ∙ ap (λ (ts : List Terminal). q ∷ (front ++ ts)) behind;
          is = record {
            same = same;
            mark = marks.0;
            before = before.0;
            ended = ap (has ends) (is.kind ∙ (λ i. kind_of (copy.is.end_kind i) (copy.is.end_bytes i))) ∙ symbol_ends 59 0;
          };
          later = h;
        }

-- the terminals of all groups
pub read_terminals : (t : Texts) (xs : List Piece) (at : ℕ) (tokens : List Token) (m : Mark) (qs : List Terminal) → Each (IsPiece t.one) xs → AreCopies t (piece_entries xs) at tokens → Each (LiesIn t.other) tokens
    → AreTerminals t.other tokens m qs → AreRead t xs at qs
read_terminals t [] at tokens m qs pieces copies lies are = subst (λ (ts : List Token). AreTerminals t.other ts m qs) copies are
read_terminals t (x ∷ xs) at tokens m qs pieces (to, mark, end, copies, more, all, copy, later) lies are =
    let inside : Each (LiesIn t.other) (mark ∷ (copies ++ end ∷ more)) = subst (Each (LiesIn t.other)) all lies in
    let one = one_read t x at to mark end copies more m qs pieces.0 copy (each_front (LiesIn t.other) copies (end ∷ more) inside.1) (subst (λ (ts : List Token). AreTerminals t.other ts m qs) all are) in
    let rest = read_terminals t xs to more (group_mark at x.weight) one.back pieces.1 later (each_back (LiesIn t.other) copies (end ∷ more) inside.1).1 one.later in
    (to, one.first, one.end, one.rest, one.back, one.split, one.is, rest)

-- ## Weights are good

plain_good : (k : TokenKind) (o : Option ℕ) → is_weight k ≡ false → lacks_weight k o ≡ false
plain_good kind.Weight o h = absurd cc
plain_good _ o h = refl

good_step : (text : List ℕ) (t : Token) (ts : List Token) → is_bad_weight text t ≡ false → bad_weight text (t ∷ ts) ≡ bad_weight text ts
good_step text t ts good = ap (λ (b : Bool). if b then Some (t.span.from + 1) else bad_weight text ts) good

good_copies : (t : Texts) (own copies more : List Token) → Pairs (SameToken t) own copies → Each (IsOwn t.one) own → bad_weight t.other (copies ++ more) ≡ bad_weight t.other more
good_copies t [] [] more same spelled = refl
good_copies t [] (c ∷ cs) more same spelled = absurd same
good_copies t (x ∷ xs) [] more same spelled = absurd same
good_copies t (x ∷ xs) (c ∷ cs) more same spelled =
    let plain : is_weight c.kind ≡ false = ap is_weight (sym same.0.kind) ∙ own_plain x.kind (bytes_of t.one x) spelled.0 in
    good_step t.other c (cs ++ more) (plain_good c.kind (comment_weight (bytes_of t.other c)) plain) ∙ good_copies t xs cs more same.1 spelled.1

pub good_weights : (t : Texts) (xs : List Piece) (at : ℕ) (tokens : List Token) → Each (IsPiece t.one) xs → AreCopies t (piece_entries xs) at tokens → bad_weight t.other tokens ≡ None
good_weights t [] at tokens pieces copies = ap (bad_weight t.other) copies
good_weights t (x ∷ xs) at tokens pieces (to, mark, end, copies, more, all, copy, later) =
    let weight : comment_weight (bytes_of t.other mark) ≡ Some x.weight = ap comment_weight copy.is.mark_bytes ∙ comment_is x.weight pieces.0.least pieces.0.most in
    let good : is_bad_weight t.other mark ≡ false = (λ i. lacks_weight (copy.is.mark_kind i) (weight i)) in
    let plain : is_weight end.kind ≡ false = ap is_weight copy.is.end_kind in
    ap (bad_weight t.other) all
    ∙ good_step t.other mark (copies ++ end ∷ more) good
    ∙ good_copies t x.own copies (end ∷ more) copy.is.same pieces.0.spelled
    ∙ good_step t.other end more (plain_good end.kind (comment_weight (bytes_of t.other end)) plain)
    ∙ good_weights t xs to more pieces.1 later
