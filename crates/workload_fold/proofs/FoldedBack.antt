-- The text of a folded workload reads back and binds as its groups.
use Rattle.std.proofs.Common.{◌≡◌, ℕ, zero, suc, ◌+◌, ◌-◌, ◌<◌, ◌≤◌, ◌^◌, Bool, true, false, if◌then◌else◌, List, [], ◌∷◌, ◌++◌, length, map, Option, Some, None, Result, Ok, refl, sym, ap, ◌∙◌, subst, append-nil, arith}
use Rattle.std.specs.Prelude.{nat_lt, option_map, slice_get}
use Rattle.std.specs.Option.{option_map_or}
use Rattle.adv_base.specs.declared.catalogue.Catalogue.{Catalogue}
use Rattle.adv_base.specs.declared.limits.TheConstants.{MOST_SLOTS_IN_ALL}
use Rattle.adv_base.specs.declared.workload.Statement.{Statement}
use Rattle.adv_base.specs.Readings.{◌>>=◌}
use Rattle.sql_tokens.specs.Ahead.{Ahead}
use Rattle.sql_tokens.specs.Cut.{AreTokens}
use Rattle.sql_tokens.specs.Span.{LiesIn}
use Rattle.sql_tokens.specs.declared.token.Token.{Token}
use Rattle.sql_tokens.proofs.Places.{tokens-lie}
use Rattle.sql_reader.specs.declared.terminal.Terminal.{Terminal}
use Rattle.sql_reader.specs.declared.parsed.ParsedStatement.{ParsedStatement}
use Rattle.sql_reader.specs.declared.parsed.SqlFault.{SqlFault}
use Rattle.sql_reader.specs.declared.parsed.SqlFault.TheVariants as faults
use Rattle.sql_reader.specs.Grammar.{levels}
use Rattle.sql_reader.specs.Printed as printed
use Rattle.sql_reader.specs.Rule.{IsNested}
use Rattle.sql_reader.specs.Terminals.{AreTerminals, no_mark, bad_weight, start_behind}
use Rattle.sql_reader.specs.Values.{no_statements}
use Rattle.sql_reader.specs.Workload.{place_of_fault, earlier, GrammarSays, MeansStatements, IsWorkload}
use Rattle.sql_reader.specs.inner.Ahead.{tokens_in, terminals_in}
use Rattle.sql_reader.proofs.Ahead.{are_terminals}
use Rattle.binder.specs.declared.fault.BindFault.{BindFault}
use Rattle.binder.specs.Plain.{PlainStatement, plain_work, plain_statement, plain_statements}
use Rattle.binder.specs.Statements.{work_of, PlainBound, bound_of, statements_of}
use Rattle.binder.proofs.Readings.{bind_ok}
use Rattle.workload_fold.specs.Groups.{Group, groups_of, StandFor}
use Rattle.workload_fold.specs.Pairs.{Pairs}
use Rattle.workload_fold.specs.Places.{Texts}
use Rattle.workload_fold.specs.Readings.{StatementsReadAlike}
use Rattle.workload_fold.specs.ReadingBack.{text_of_groups, ReadsBack, statements_of_groups}
use Rattle.workload_fold.specs.Texts.{statement_tokens, group_text, place_of_number}
use Rattle.workload_fold.proofs.AlikePlain.{alike_plain, same_head, same_tail}
use Rattle.workload_fold.proofs.BindStatements.{works_alike}
use Rattle.workload_fold.proofs.BoundGroups.{Means, slots_in, all_bound, all_given, IsWeighted, group_slots, good_groups}
use Rattle.workload_fold.proofs.CopiedTokens.{IsEntry, entries_text, all_copied, copies_are_tokens}
use Rattle.workload_fold.proofs.FoldedAsGroups.{statement_spelled}
use Rattle.workload_fold.proofs.FoldedReading.{SameStatement, folded_read, begin_few, statements_begun, pairs_length}
use Rattle.workload_fold.proofs.FoldedTerminals.{Piece, IsPiece, piece_entries, read_terminals, good_weights}
use Rattle.workload_fold.proofs.OwnTerminals.{each_of, statement_own}
use Rattle.workload_fold.proofs.Numbered.{AreNumbered}
use Rattle.workload_fold.proofs.StatementParts.{Deeper, StandsAmong, workload_adds}
use Rattle.workload_fold.proofs.TokensAhead.{Each}

abbrev d : Deeper
d = IsNested printed.grammar levels

-- ## Where no fault is the first

none_first : (a b : Option SqlFault) → None ≡ earlier a b → (a ≡ None) × (b ≡ None)
none_first None b e = (refl, sym e)
none_first (Some f) None e = absurd cc
none_first (Some f) (Some g) e = by_place (nat_lt (place_of_fault g) (place_of_fault f)) e
  where
    by_place : (b : Bool) → None ≡ (if b then Some g else Some f) → (Some f ≡ None) × (Some g ≡ None)
    by_place true k = absurd cc
    by_place false k = absurd cc

none_mapped : {X : Type 0} (f : X → SqlFault) (o : Option X) → option_map f o ≡ None → o ≡ None
none_mapped f None e = refl
none_mapped f (Some x) e = absurd cc

-- what is known of a text that is a workload
record Known (text : List ℕ) (parsed : List ParsedStatement) : Type 0 where
  list : List Token
  terminals : List Terminal
  are_tokens : AreTokens text list
  are_terminals : AreTerminals text list no_mark terminals
  stand : Each (StandsAmong d terminals) parsed
  few : length parsed ≤ 1000

known : (text : List ℕ) (parsed : List ParsedStatement) → IsWorkload text parsed → Known text parsed
known text parsed says =
    let parts = none_first says.of_grammar (earlier (option_map faults.BadWeight (bad_weight text says.list)) (option_map faults.TooManyStatements (start_behind 1000 says.terminals))) says.first in
    let others = none_first (option_map faults.BadWeight (bad_weight text says.list)) (option_map faults.TooManyStatements (start_behind 1000 says.terminals)) (sym parts.1) in
    let start : start_behind 1000 says.terminals ≡ None = none_mapped faults.TooManyStatements (start_behind 1000 says.terminals) others.1 in
    let means : MeansStatements no_statements says.terminals says.progress = subst (GrammarSays (length text + 1) says.terminals says.progress) parts.0 says.says in
    let adds = workload_adds d no_statements says.terminals says.progress means in
    record {
      list = says.list;
      terminals = says.terminals;
      are_tokens = says.are_tokens;
      are_terminals = says.are_terminals;
      stand = subst (Each (StandsAmong d says.terminals)) (sym (says.same ∙ adds.all)) adds.stand;
      few = omega (arith, begin_few 1000 says.terminals start, statements_begun says.terminals says.progress means, ap length says.same);
    }

-- ## What is written of the groups

-- the element at a place, and the one that is related to it
record Picked {X Y : Type 0} (R : X → Y → Type 0) (P : X → Type 0) (xs : List X) (k : ℕ) (y : Y) : Type 0 where
  one : X
  at : slice_get xs k ≡ Some one
  related : R one y
  has : P one

picked : {X Y : Type 0} (R : X → Y → Type 0) (P : X → Type 0) (xs : List X) (ys : List Y) (k : ℕ) (y : Y) → Pairs R xs ys → Each P xs → slice_get ys k ≡ Some y → Picked R P xs k y
picked R P [] [] k y pairs each e = absurd cc
picked R P [] (z ∷ ys) k y pairs each e = absurd pairs
picked R P (x ∷ xs) [] k y pairs each e = absurd pairs
picked R P (x ∷ xs) (z ∷ ys) zero y pairs each e =
    let same : z ≡ y = cc in
    record { one = x; at = refl; related = subst (R x) same pairs.0; has = each.0 }
picked R P (x ∷ xs) (z ∷ ys) (suc k) y pairs each e =
    let later = picked R P xs ys k y pairs.1 each.1 e in
    record { one = later.one; at = later.at; related = later.related; has = later.has }

pairs_map : {X Y Z : Type 0} (R : X → Z → Type 0) (f : Y → Z) (xs : List X) (ys : List Y) → Pairs R xs (map f ys) → Pairs (λ x y. R x (f y)) xs ys
pairs_map R f [] [] h = tt
pairs_map R f [] (y ∷ ys) h = absurd h
pairs_map R f (x ∷ xs) [] h = absurd h
pairs_map R f (x ∷ xs) (y ∷ ys) h = (h.0, pairs_map R f xs ys h.1)

-- a statement means what one that was bound does
abbrev MeansOne : Catalogue → List ℕ → ParsedStatement → Statement → Type 0
MeansOne cat text s x = Means cat text s (plain_statement x)

-- what is written of a group
abbrev IsPieceOf : Catalogue → List ℕ → Group → Piece → Type 0
IsPieceOf cat text g x = (place : ℕ) × (x.weight ≡ g.weight) × (work_of cat text place x.body ≡ Ok (plain_work g.first.work))

record GroupPieces (cat : Catalogue) (text : List ℕ) (parsed : List ParsedStatement) (gs : List Group) : Type 0 where
  pieces : List Piece
  good : Each (IsPiece text) pieces
  of_groups : Pairs (IsPieceOf cat text) gs pieces
  spelled : text_of_groups text parsed gs ≡ entries_text text (piece_entries pieces)

group_pieces : (cat : Catalogue) (text : List ℕ) (parsed : List ParsedStatement) (statements : List Statement) → Known text parsed → Pairs (MeansOne cat text) parsed statements
    → (gs : List Group) → AreNumbered statements gs → Each IsWeighted gs → GroupPieces cat text parsed gs
unfolding group_text
group_pieces cat text parsed statements k mean [] numbered weighted = record { pieces = []; good = tt; of_groups = tt; spelled = refl }
group_pieces cat text parsed statements k mean (g ∷ gs) numbered weighted =
    let p = picked (MeansOne cat text) (StandsAmong d k.terminals) parsed statements (g.number - 1) g.first mean k.stand numbered.0 in
    let s : ParsedStatement = p.one in
    let own = statement_own text k.list k.terminals s k.are_tokens k.are_terminals p.has in
    let later = group_pieces cat text parsed statements k mean gs numbered.1 weighted.1 in
    let place : place_of_number parsed g.number ≡ s.place = ap (λ (o : Option ParsedStatement). option_map_or (λ x. x.place) o 0) p.at in
    record {
      pieces = (record { weight = g.weight; own = statement_tokens text s.place; first = p.has.first; rest = p.has.rest; body = s.body }) ∷ later.pieces;
      good = (record { least = weighted.0.0; most = weighted.0.1; spelled = statement_spelled text s.place; are = own.are; is = p.has.is }, later.good);
      of_groups = ((s.place, refl, p.related.1), later.of_groups);
      spelled =
          ap (λ (n : ℕ). group_text text n g.weight ++ text_of_groups text parsed gs) place
          ∙ ap (λ (xs : List ℕ). group_text text s.place g.weight ++ xs) later.spelled;
    }

-- ## The statements that it means

abbrev bound_groups : List Group → List PlainStatement
bound_groups [] = []
bound_groups (g ∷ gs) = (record { weight = g.weight; work = plain_work g.first.work }) ∷ bound_groups gs

by_groups : (gs : List Group) → bound_groups gs ≡ statements_of_groups gs
by_groups [] = refl
by_groups (g ∷ gs) = ap (λ (xs : List PlainStatement). (record { weight = g.weight; work = plain_work g.first.work }) ∷ xs) (by_groups gs)

groups_mean : (cat : Catalogue) (t : Texts) (gs : List Group) (xs : List Piece) (read : List ParsedStatement) → Pairs (IsPieceOf cat t.one) gs xs → Pairs (SameStatement t) xs read
    → Pairs (Means cat t.other) read (bound_groups gs)
groups_mean cat t [] [] [] of same = tt
groups_mean cat t [] [] (r ∷ read) of same = absurd same
groups_mean cat t [] (x ∷ xs) read of same = absurd of
groups_mean cat t (g ∷ gs) [] read of same = absurd of
groups_mean cat t (g ∷ gs) (x ∷ xs) [] of same = absurd same
groups_mean cat t (g ∷ gs) (x ∷ xs) (r ∷ read) ((place, weight, means), of) same =
    ((sym (same.0.0 ∙ weight), works_alike cat t place r.place x.body r.body same.0.1 (plain_work g.first.work) means), groups_mean cat t gs xs read of same.1)

bound_slots : (gs : List Group) → slots_in (bound_groups gs) ≡ group_slots gs
bound_slots [] = refl
bound_slots (g ∷ gs) = let later = bound_slots gs in omega (arith, later)

stand_again : (cat : Catalogue) (gs : List Group) (ss : List Statement) → plain_statements ss ≡ bound_groups gs → StandFor cat gs ss
stand_again cat [] [] e = tt
stand_again cat [] (s ∷ ss) e = absurd cc
stand_again cat (g ∷ gs) [] e = absurd cc
stand_again cat (g ∷ gs) (s ∷ ss) e =
    let group : PlainStatement = record { weight = g.weight; work = plain_work g.first.work } in
    let own : plain_statement s ≡ group = same_head (plain_statement s) group (plain_statements ss) (bound_groups gs) e in (
      ap (λ (x : PlainStatement). x.weight) own,
      alike_plain cat g.first.work s.work (sym (ap (λ (x : PlainStatement). x.work) own)),
      stand_again cat gs ss (same_tail (plain_statement s) group (plain_statements ss) (bound_groups gs) e),
    )

-- statements for groups, and what they hold
record Stood (gs : List Group) : Type 0 where
  all : List Statement
  plain : plain_statements all ≡ bound_groups gs

stood : (gs : List Group) → Each IsWeighted gs → Stood gs
stood [] weighted = record { all = []; plain = refl }
stood (g ∷ gs) weighted =
    let later = stood gs weighted.1 in
    let own = g.first.limits in
    record {
      all = (record {
        weight = g.weight;
        work = g.first.work;
        limits = record { weight_least = weighted.0.0; weight_most = weighted.0.1; selects = own.selects; updates = own.updates; deletes = own.deletes; inserts = own.inserts };
      }) ∷ later.all;
      plain = ap (λ (xs : List PlainStatement). (record { weight = g.weight; work = plain_work g.first.work }) ∷ xs) later.plain;
    }

abbrev ok_statements : List PlainStatement → Result (List PlainStatement) BindFault
ok_statements xs = Ok xs

same_statements : (xs ys : List PlainStatement) → ok_statements xs ≡ ok_statements ys → xs ≡ ys
same_statements xs ys e = cc

abbrev no_bound : PlainBound
no_bound = record { slots = 0; statements = [] }

-- what is known of statements that were bound
record KnownBound (cat : Catalogue) (text : List ℕ) (parsed : List ParsedStatement) (statements : List Statement) : Type 0 where
  mean : Pairs (MeansOne cat text) parsed statements
  few : slots_in (plain_statements statements) ≤ MOST_SLOTS_IN_ALL

known_bound : (cat : Catalogue) (text : List ℕ) (parsed : List ParsedStatement) (statements : List Statement) → statements_of cat text parsed ≡ ok_statements (plain_statements statements)
    → KnownBound cat text parsed statements
unfolding statements_of
known_bound cat text parsed statements e =
    let b = bind_ok (bound_of cat text parsed) (λ (x : PlainBound). ok_statements x.statements) (plain_statements statements) e in
    let all = all_bound cat text parsed no_bound b.0 (omega arith) b.1 in
    let same : all.new ≡ plain_statements statements = sym all.all ∙ same_statements b.0.statements (plain_statements statements) b.2 in
    let slots : slots_in all.new ≡ slots_in (plain_statements statements) = ap slots_in same in
    record {
      mean = pairs_map (Means cat text) plain_statement parsed statements (subst (Pairs (Means cat text) parsed) same all.mean);
      few = omega (arith, slots, all.count, all.few);
    }

given_statements : (cat : Catalogue) (text : List ℕ) (read : List ParsedStatement) (new : List PlainStatement) → Pairs (Means cat text) read new → slots_in new ≤ MOST_SLOTS_IN_ALL
    → statements_of cat text read ≡ ok_statements new
unfolding statements_of
given_statements cat text read new mean few =
    ap (λ (r : Result PlainBound BindFault). r >>= λ b. ok_statements b.statements) (all_given cat text read new no_bound mean (omega (arith, few)))

-- ## The whole

are_entries : (text : List ℕ) (xs : List Piece) → Each (IsPiece text) xs → Each (IsEntry text) (piece_entries xs)
are_entries text [] good = tt
are_entries text (x ∷ xs) good = let most = good.0.most in ((omega (arith, most), good.0.spelled), are_entries text xs good.1)

tokens_are : (text : List ℕ) (tokens : List Token) → AreTokens text tokens → (ahead_tokens : List Token) → tokens_in text ≡ ahead_tokens → ahead_tokens ≡ tokens → length text < 2 ^ 32
    → AreTerminals text tokens no_mark (terminals_in text)
tokens_are text tokens are ahead_tokens is same short =
    subst (λ (ts : List Token). AreTerminals text ts no_mark (terminals_in text)) (is ∙ same) (are_terminals text short (subst (AreTokens text) (sym (is ∙ same)) are))

pub read_back : StatementsReadAlike → (cat : Catalogue) (text : List ℕ) (parsed : List ParsedStatement) (statements : List Statement) → IsWorkload text parsed
    → statements_of cat text parsed ≡ ok_statements (plain_statements statements) → length (text_of_groups text parsed (groups_of cat statements)) < 2 ^ 32
    → ReadsBack cat statements (text_of_groups text parsed (groups_of cat statements))
unfolding tokens_in
read_back alike cat text parsed statements is_workload binds short =
    let gs : List Group = groups_of cat statements in
    let out : List ℕ = text_of_groups text parsed gs in
    let t : Texts = record { one = text; other = out } in
    let k = known text parsed is_workload in
    let b = known_bound cat text parsed statements binds in
    let good = good_groups cat statements in
    let p = group_pieces cat text parsed statements k b.mean gs good.numbered good.weighted in
    let copies = all_copied t (piece_entries p.pieces) 0 (are_entries text p.pieces p.good) p.spelled in
    let tokens = copies_are_tokens t copies.tokens copies.all in
    let terminals = tokens_are out copies.tokens tokens (copies.tokens ++ []) (ap (λ (a : Ahead). a.tokens) copies.all) (append-nil copies.tokens) short in
    let lies = each_of (LiesIn out) copies.tokens (tokens-lie out copies.tokens tokens) in
    let are = read_terminals t p.pieces 0 copies.tokens no_mark (terminals_in out) p.good copies.are lies terminals in
    let few : length p.pieces ≤ 1000 = omega (arith, k.few, good.few, pairs_length (MeansOne cat text) parsed statements b.mean, pairs_length (IsPieceOf cat text) gs p.pieces p.of_groups) in
    let r = folded_read alike t p.pieces copies.tokens (terminals_in out) few tokens terminals (good_weights t p.pieces 0 copies.tokens p.good copies.are) p.good are in
    let slots : slots_in (bound_groups gs) ≤ MOST_SLOTS_IN_ALL = omega (arith, bound_slots gs, good.slots, b.few) in
    let given : statements_of cat out r.read ≡ ok_statements (bound_groups gs) = given_statements cat out r.read (bound_groups gs) (groups_mean cat t gs p.pieces r.read p.of_groups r.same) slots in
    let all = stood gs good.weighted in
    record {
      read = r.read;
      is_read = r.is;
      folded = all.all;
      binds = given ∙ ap ok_statements (sym all.plain);
      are = all.plain ∙ by_groups gs;
      stand = stand_again cat gs all.all all.plain;
      only = λ bound e. stand_again cat gs bound (same_statements (plain_statements bound) (bound_groups gs) (sym e ∙ given));
    }
