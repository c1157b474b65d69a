-- Too many statements: the word that stands behind 1000 others that begin a statement begins the 1001st of a workload.
use Rattle.std.proofs.Common.{◌≡◌, ◌⊎◌, ℕ, zero, suc, ◌+◌, ◌≤◌, Bool, true, false, nat_lt, List, [], ◌∷◌, ◌++◌, length, Option, Some, None, option_map, Result, Ok, Err, IfErr, IsErrOf, sym, refl, ap, ◌∙◌, subst, inl, inr, arith, append_assoc, le_refl, if◌then◌else◌}
use Rattle.std.proofs.lemmas.Bool.{ltb-true}
use Rattle.sql_tokens.specs.declared.token.Token.{Token}
use Rattle.sql_tokens.specs.declared.token.Span.{Span}
use Rattle.sql_tokens.proofs.Places.{InOrder, in_order-cut}
use Rattle.sql_reader.specs.declared.terminal.Terminal.{Terminal}
use Rattle.sql_reader.specs.declared.terminal.Mark.{Mark}
use Rattle.sql_reader.specs.declared.parsed.ParsedStatement.{ParsedStatement}
use Rattle.sql_reader.specs.declared.parsed.SqlFault.{SqlFault}
use Rattle.sql_reader.specs.declared.parsed.SqlFault.TheVariants as faults
use Rattle.sql_reader.specs.declared.parts.Progress.{Progress}
use Rattle.sql_reader.specs.Kinds.{has}
use Rattle.sql_reader.specs.Grammar.{starts}
use Rattle.sql_reader.specs.Values.{place_of, no_statements}
use Rattle.sql_reader.specs.Terminals.{AreTerminals, WithToken, no_mark, is_weight, mark_behind, bad_weight, start_behind, starts_in, places_of}
use Rattle.sql_reader.specs.Workload.{MeansStatements, left_out, grammar_fault, GrammarSays, place_of_fault, earlier, IsFirstFault, HasSqlFault, BeginsOneTooMany}
use Rattle.sql_reader.proofs.Begun.{begun_if, starts-append, begin_at_starts}

-- the word behind n others that begin a statement

record Found (n : ℕ) (ps : List Terminal) (place : ℕ) : Type 0 where
  front : List Terminal
  terminal : Terminal
  rest : List Terminal
  split : ps ≡ front ++ terminal ∷ rest
  at_place : place_of terminal ≡ place
  is_start : has starts terminal.kind ≡ true
  count : length (starts_in front) ≡ n

passed : (n : ℕ) (p : Terminal) (ps : List Terminal) (place : ℕ) → has starts p.kind ≡ false → Found n ps place → Found n (p ∷ ps) place
passed n p ps place k f = record {
  front = p ∷ f.front;
  terminal = f.terminal;
  rest = f.rest;
  split = ap (λ (l : List Terminal). p ∷ l) f.split;
  at_place = f.at_place;
  is_start = f.is_start;
  count = ap length (begun_if false p f.front k) ∙ f.count;
}

counted : (n : ℕ) (p : Terminal) (ps : List Terminal) (place : ℕ) → has starts p.kind ≡ true → Found n ps place → Found (suc n) (p ∷ ps) place
counted n p ps place k f = record {
  front = p ∷ f.front;
  terminal = f.terminal;
  rest = f.rest;
  split = ap (λ (l : List Terminal). p ∷ l) f.split;
  at_place = f.at_place;
  is_start = f.is_start;
  count = ap length (begun_if true p f.front k) ∙ ap suc f.count;
}

found_here : (p : Terminal) (ps : List Terminal) (place : ℕ) (c : Bool) → has starts p.kind ≡ c → (start_behind zero ps ≡ Some place → Found zero ps place) →
    (if c then Some (place_of p) else start_behind zero ps) ≡ Some place → Found zero (p ∷ ps) place
found_here p ps place true k behind e = record { front = []; terminal = p; rest = ps; split = refl; at_place = cc; is_start = k; count = refl }
found_here p ps place false k behind e = passed zero p ps place k (behind e)

found_later : (n : ℕ) (p : Terminal) (ps : List Terminal) (place : ℕ) (c : Bool) → has starts p.kind ≡ c → (start_behind n ps ≡ Some place → Found n ps place) → (start_behind (suc n) ps ≡ Some place → Found (suc n) ps place) →
    (if c then start_behind n ps else start_behind (suc n) ps) ≡ Some place → Found (suc n) (p ∷ ps) place
found_later n p ps place true k one same e = counted n p ps place k (one e)
found_later n p ps place false k one same e = passed (suc n) p ps place k (same e)

find_start : (n : ℕ) (ps : List Terminal) (place : ℕ) → start_behind n ps ≡ Some place → Found n ps place
find_start zero [] place e = absurd cc
find_start (suc n) [] place e = absurd cc
find_start zero (p ∷ ps) place e = found_here p ps place (has starts p.kind) refl (find_start zero ps place) e
find_start (suc n) (p ∷ ps) place e = found_later n p ps place (has starts p.kind) refl (find_start n ps place) (find_start (suc n) ps place) e

-- terminals stand in order

abbrev After : ℕ → List Terminal → Type 0
After at [] = Unit {0}
After at (p ∷ ps) = (at ≤ p.span.from) × After p.span.from ps

after_earlier : (a b : ℕ) (ps : List Terminal) → a ≤ b → After b ps → After a ps
after_earlier a b [] l h = tt
after_earlier a b (p ∷ ps) l h = (omega (arith, l, h.0), h.1)

one_token : (text : List ℕ) (t : Token) (ts : List Token) (a to : ℕ) (mark : Mark) (ps : List Terminal) (weight : Bool) → InOrder a to (t ∷ ts) →
    ((m : Mark) (qs : List Terminal) → AreTerminals text ts m qs → After t.span.to qs) → WithToken text mark t (AreTerminals text ts) weight ps → After a ps
one_token text t ts a to mark ps true order behind are =
    after_earlier a t.span.to ps (omega (arith, order.0, order.1)) (behind (mark_behind text t mark) ps are)
one_token text t ts a to mark ps false order behind (p, rest, split, is, are) =
    let from = ap (λ (s : Span). s.from) is.span in
    subst (After a) (sym split) (omega (arith, order.0, from), after_earlier p.span.from t.span.to rest (omega (arith, order.1, from)) (behind mark rest are))

ordered : (text : List ℕ) (list : List Token) (a to : ℕ) → InOrder a to list → (mark : Mark) (ps : List Terminal) → AreTerminals text list mark ps → After a ps
ordered text [] a to order mark ps are = subst (After a) (sym are) tt
ordered text (t ∷ ts) a to order mark ps are = one_token text t ts a to mark ps (is_weight t.kind) order (ordered text ts t.span.to to order.2) are

after_one : (a : ℕ) (front : List Terminal) (p : Terminal) (rest : List Terminal) → After a (front ++ p ∷ rest) → a ≤ p.span.from
after_one a [] p rest h = h.0
after_one a (q ∷ front) p rest h = omega (arith, h.0, after_one q.span.from front p rest h.1)

-- the terminals part in front of a terminal, or behind it

abbrev Behind : List Terminal → List Terminal → Terminal → Type 0
Behind taken front p = (middle : List Terminal) × (taken ≡ front ++ p ∷ middle)

abbrev Before : List Terminal → Terminal → Type 0
Before left p = (q : Terminal) × (more : List Terminal) × (left ≡ q ∷ more) × (q.span.from ≤ p.span.from)

part : (taken left front : List Terminal) (p : Terminal) (rest : List Terminal) (a : ℕ) → taken ++ left ≡ front ++ p ∷ rest → After a (front ++ p ∷ rest) → Behind taken front p ⊎ Before left p
part [] left [] p rest a e h = inr (p, rest, e, le_refl p.span.from)
part [] left (q ∷ front) p rest a e h = inr (q, front ++ p ∷ rest, e, after_one q.span.from front p rest h.1)
part (f ∷ taken) left [] p rest a e h =
    let same : f ≡ p = cc in
    inl (taken, ap (λ (x : Terminal). x ∷ taken) same)
part (f ∷ taken) left (q ∷ front) p rest a e h =
    let same : f ≡ q = cc in
    let tails : taken ++ left ≡ front ++ p ∷ rest = cc in
    elim (part taken left front p rest q.span.from tails h.1) [
      | inl b ↦ inl (b.0, ap (λ (l : List Terminal). f ∷ l) b.1 ∙ ap (λ (x : Terminal). x ∷ (front ++ p ∷ b.0)) same)
      | inr b ↦ inr b
    ]

-- the fault is chosen where it is the first

abbrev Later : ℕ → Option SqlFault → Type 0
Later place None = Unit {0}
Later place (Some fault) = nat_lt place (place_of_fault fault) ≡ true

chosen_start : (w s : Option ℕ) (place : ℕ) → Some (faults.TooManyStatements place) ≡ earlier (option_map faults.BadWeight w) (option_map faults.TooManyStatements s) → s ≡ Some place
chosen_start None None place e = absurd cc
chosen_start None (Some x) place e = cc
chosen_start (Some v) None place e = absurd cc
chosen_start (Some v) (Some x) place e = by_place (nat_lt x v) e
  where
    by_place : (c : Bool) → Some (faults.TooManyStatements place) ≡ (if c then Some (faults.TooManyStatements x) else Some (faults.BadWeight v)) → Some x ≡ Some place
    by_place true h = cc
    by_place false h = absurd cc

chosen : (g other : Option SqlFault) (place : ℕ) → (g ≡ Some (faults.TooManyStatements place) → ⊥) → Some (faults.TooManyStatements place) ≡ earlier g other →
    (Some (faults.TooManyStatements place) ≡ other) × Later place g
chosen None other place never e = (e, tt)
chosen (Some f) None place never e = absurd (never (sym e))
chosen (Some f) (Some o) place never e = by_place (nat_lt (place_of_fault o) (place_of_fault f)) refl
  where
    by_place : (c : Bool) → nat_lt (place_of_fault o) (place_of_fault f) ≡ c → (Some (faults.TooManyStatements place) ≡ Some o) × Later place (Some f)
    by_place true k =
        let is_other : Some (faults.TooManyStatements place) ≡ Some o = subst (λ (c : Bool). Some (faults.TooManyStatements place) ≡ (if c then Some o else Some f)) k e in
        let same : faults.TooManyStatements place ≡ o = cc in
        (is_other, subst (λ (x : SqlFault). nat_lt (place_of_fault x) (place_of_fault f) ≡ true) (sym same) k)
    by_place false k = absurd (never (sym (subst (λ (c : Bool). Some (faults.TooManyStatements place) ≡ (if c then Some o else Some f)) k e)))

-- a fault of the grammar stands at its terminal, and is another one

place_of_grammar : (end : ℕ) (q : Terminal) (more : List Terminal) → place_of_fault (grammar_fault end (q ∷ more)) ≡ place_of q
place_of_grammar end q more = by_kind (has left_out q.kind)
  where
    by_kind : (c : Bool) → place_of_fault (if c then faults.Unsupported (place_of q) else faults.Syntax (place_of q)) ≡ place_of q
    by_kind true = refl
    by_kind false = refl

other_fault : (end : ℕ) (rest : List Terminal) (place : ℕ) → grammar_fault end rest ≡ faults.TooManyStatements place → ⊥
other_fault end [] place e = cc
other_fault end (q ∷ more) place e = by_kind (has left_out q.kind) e
  where
    by_kind : (c : Bool) → (if c then faults.Unsupported (place_of q) else faults.Syntax (place_of q)) ≡ faults.TooManyStatements place → ⊥
    by_kind true h = cc
    by_kind false h = cc

not_grammar : (end : ℕ) (ps : List Terminal) (progress : Progress) (g : Option SqlFault) (place : ℕ) → GrammarSays end ps progress g → g ≡ Some (faults.TooManyStatements place) → ⊥
not_grammar end ps progress None place says e = cc
not_grammar end ps progress (Some f) place (rest, fails, is) e =
    let same : f ≡ faults.TooManyStatements place = cc in
    other_fault end rest place (sym is ∙ same)

-- some workload goes on through the terminal
abbrev Through : List Terminal → Terminal → Type 0
Through front p = (more : List Terminal) × (progress : Progress) × MeansStatements no_statements (front ++ p ∷ more) progress

goes_through : (end : ℕ) (ps : List Terminal) (progress : Progress) (g : Option SqlFault) (front : List Terminal) (p : Terminal) (rest : List Terminal) → ps ≡ front ++ p ∷ rest → After 0 ps →
    Later (place_of p) g → GrammarSays end ps progress g → Through front p
goes_through end ps progress None front p rest split order later says =
    (rest, progress, subst (λ (l : List Terminal). MeansStatements no_statements l progress) split says)
goes_through end ps progress (Some f) front p rest split order later (left, fails, is) =
    elim (part fails.front left front p rest 0 (sym fails.split ∙ split) (subst (After 0) split order)) [
      | inl (middle, taken) ↦ go middle taken
      | inr (q, more, begins, l) ↦ absurd (omega (arith, ltb-true (place_of p) (place_of_fault f) later, ap place_of_fault is, ap (λ (x : List Terminal). place_of_fault (grammar_fault end x)) begins, place_of_grammar end q more, l))
    ]
  where
    go : (middle : List Terminal) → fails.front ≡ front ++ p ∷ middle → Through front p
    go middle taken =
        let (more, b, means) = fails.before in (
          middle ++ more,
          b,
          subst (λ (l : List Terminal). MeansStatements no_statements l b) (ap (λ (l : List Terminal). l ++ more) taken ∙ append_assoc front (p ∷ middle) more) means,
        )

-- the statement whose place is this one stands behind so many others
record StandsBehind (xs : List ParsedStatement) (n x : ℕ) : Type 0 where
  before : List ParsedStatement
  statement : ParsedStatement
  after : List ParsedStatement
  split : xs ≡ before ++ statement ∷ after
  many : length before ≡ n
  begins : statement.place ≡ x

part_at : (xs : List ParsedStatement) (ls : List ℕ) (x : ℕ) (rs : List ℕ) → places_of xs ≡ ls ++ x ∷ rs → StandsBehind xs (length ls) x
part_at [] [] x rs e = absurd cc
part_at [] (l ∷ ls) x rs e = absurd cc
part_at (s ∷ xs) [] x rs e = record { before = []; statement = s; after = xs; split = refl; many = refl; begins = cc }
part_at (s ∷ xs) (l ∷ ls) x rs e =
    let tails : places_of xs ≡ ls ++ x ∷ rs = cc in
    let p = part_at xs ls x rs tails in
    record { before = s ∷ p.before; statement = p.statement; after = p.after; split = ap (λ (y : List ParsedStatement). s ∷ y) p.split; many = ap suc p.many; begins = p.begins }

first_too_many : (text : List ℕ) (place : ℕ) → IsFirstFault text (faults.TooManyStatements place) → BeginsOneTooMany text place
first_too_many text place (statements, says) =
    let picked = chosen says.of_grammar _ place (not_grammar (length text + 1) says.terminals says.progress says.of_grammar place says.says) says.first in
    let f = find_start 1000 says.terminals place (chosen_start (bad_weight text says.list) (start_behind 1000 says.terminals) place picked.0) in
    let order = subst (InOrder 0 (0 + length text)) (sym says.are_tokens.tokens) (in_order-cut says.are_tokens.parts 0 text [] says.are_tokens.cut) in
    let through = goes_through (length text + 1) says.terminals says.progress says.of_grammar f.front f.terminal f.rest f.split (ordered text says.list 0 (0 + length text) order no_mark says.terminals says.are_terminals)
    (subst (λ (n : ℕ). Later n says.of_grammar) (sym f.at_place) picked.1) says.says in
    let (more, progress, means) = through in
    let places : places_of progress.statements ≡ starts_in f.front ++ place_of f.terminal ∷ starts_in more =
    begin_at_starts (f.front ++ f.terminal ∷ more) progress means ∙ starts-append f.front (f.terminal ∷ more) ∙ ap (λ (l : List ℕ). starts_in f.front ++ l) (begun_if true f.terminal more f.is_start) in
    let p = part_at progress.statements (starts_in f.front) (place_of f.terminal) (starts_in more) places in
    record {
      list = says.list;
      front = f.front;
      terminal = f.terminal;
      rest = f.rest;
      more = more;
      progress = progress;
      before = p.before;
      statement = p.statement;
      after = p.after;
      are_tokens = says.are_tokens;
      are_terminals = subst (λ (l : List Terminal). AreTerminals text says.list no_mark l) f.split says.are_terminals;
      at_place = f.at_place;
      goes_on = means;
      parted = p.split;
      thousand = p.many ∙ f.count;
      begins = p.begins ∙ f.at_place;
    }

pub begins_one_too_many : (text : List ℕ) (place : ℕ) → HasSqlFault text (faults.TooManyStatements place) → BeginsOneTooMany text place
begins_one_too_many text place h = first_too_many text place h

-- a fault of this kind is told at such a place alone
pub told_too_many : {A : Type 0} (text : List ℕ) (result : Result A SqlFault) → IfErr result (λ e. (e ≡ faults.Memory) ⊎ HasSqlFault text e) → (place : ℕ) →
    IsErrOf result (faults.TooManyStatements place) → BeginsOneTooMany text place
told_too_many text (Ok a) told place is = absurd cc
told_too_many text (Err e) (inl memory) place is =
    let same : e ≡ faults.TooManyStatements place = cc in
    absurd cc
told_too_many text (Err e) (inr h) place is =
    let same : e ≡ faults.TooManyStatements place = cc in
    begins_one_too_many text place (subst (HasSqlFault text) same h)
