-- A text says one thing: its statements or its first fault are determined by it.
use Rattle.std.proofs.Common.{◌≡◌, ℕ, ◌+◌, List, length, Option, Some, None, option_map, Result, Ok, Err, IfOk, IfErr, MatchResult, nat_lt, Bool, true, false, if◌then◌else◌, sym, refl, ap, ◌∙◌, subst, ◌⊎◌, inl, inr}
use Rattle.sql_tokens.specs.declared.token.Token.{Token}
use Rattle.sql_tokens.specs.declared.token_list.TokenFault.{TokenFault}
use Rattle.sql_tokens.specs.declared.token_list.TokenFault.TheVariants as tokens
use Rattle.sql_tokens.specs.Cut.{HasFault}
use Rattle.sql_tokens.proofs.OneCut.{one_list}
use Rattle.sql_tokens.proofs.Reached.{no_fault, one_fault}
use Rattle.sql_reader.specs.declared.terminal.Terminal.{Terminal}
use Rattle.sql_reader.specs.declared.parsed.ParsedStatement.{ParsedStatement}
use Rattle.sql_reader.specs.declared.parsed.SqlFault.{SqlFault}
use Rattle.sql_reader.specs.declared.parsed.SqlFault.TheVariants as faults
use Rattle.sql_reader.specs.declared.parts.Progress.{Progress}
use Rattle.sql_reader.specs.Grammar.{grammar, borders, levels, workload}
use Rattle.sql_reader.specs.Values.{no_statements}
use Rattle.sql_reader.specs.Terminals.{AreTerminals, no_mark, bad_weight, start_behind}
use Rattle.sql_reader.specs.Workload.{MeansStatements, grammar_fault, GrammarSays, place_of_fault, earlier, first_fault, Says, IsWorkload, IsFirstFault, HasSqlFault}
use Rattle.sql_reader.proofs.Exactly.{has_one_meaning}
use Rattle.sql_reader.proofs.Good.{good_workload, good_grammar}
use Rattle.sql_reader.proofs.Outcome.{means_read}
use Rattle.sql_reader.proofs.Same.{one_terminals, one_failure, meant_or_fails}

-- the grammar has one fault for terminals, or none
one_grammar_fault : (end : ℕ) (terminals : List Terminal) (p q : Progress) (f g : Option SqlFault) → GrammarSays end terminals p f → GrammarSays end terminals q g → f ≡ g
one_grammar_fault end terminals p q None None a b = refl
one_grammar_fault end terminals p q None (Some g) a (rest, fails, e) = absurd (meant_or_fails MeansStatements no_statements terminals rest p a fails)
one_grammar_fault end terminals p q (Some f) None (rest, fails, e) b = absurd (meant_or_fails MeansStatements no_statements terminals rest q b fails)
one_grammar_fault end terminals p q (Some f) (Some g) (rest, fails, e) (behind, fails_too, e_too) =
    ap Some (e ∙ ap (grammar_fault end) (one_failure MeansStatements no_statements terminals rest behind fails fails_too) ∙ sym e_too)

one_terminals_of : (text : List ℕ) (s t : List ParsedStatement) (f g : Option SqlFault) (x : Says text s f) (y : Says text t g) → x.terminals ≡ y.terminals
one_terminals_of text s t f g x y =
    let tokens = one_list text x.list y.list x.are_tokens y.are_tokens in
    one_terminals text y.list no_mark x.terminals y.terminals (subst (λ (l : List Token). AreTerminals text l no_mark x.terminals) tokens x.are_terminals) y.are_terminals

one_of_grammar : (text : List ℕ) (s t : List ParsedStatement) (f g : Option SqlFault) (x : Says text s f) (y : Says text t g) → x.of_grammar ≡ y.of_grammar
one_of_grammar text s t f g x y =
    one_grammar_fault (length text + 1) y.terminals x.progress y.progress x.of_grammar y.of_grammar
    (subst (λ (ps : List Terminal). GrammarSays (length text + 1) ps x.progress x.of_grammar) (one_terminals_of text s t f g x y) x.says) y.says

-- a text with tokens has one first fault, or none
pub one_first : (text : List ℕ) (s t : List ParsedStatement) (f g : Option SqlFault) → Says text s f → Says text t g → f ≡ g
one_first text s t f g x y =
    let tokens = one_list text x.list y.list x.are_tokens y.are_tokens in
    let terminals = one_terminals_of text s t f g x y in
    let of_grammar = one_of_grammar text s t f g x y in
    x.first ∙ ap (λ (l : List Token). first_fault text l x.terminals x.of_grammar) tokens
    ∙ ap (λ (ps : List Terminal). first_fault text y.list ps x.of_grammar) terminals
    ∙ ap (λ (o : Option SqlFault). first_fault text y.list y.terminals o) of_grammar ∙ sym y.first

no_earlier : (f g : Option SqlFault) → None ≡ earlier f g → f ≡ None
no_earlier None g e = refl
no_earlier (Some f) None e = absurd cc
no_earlier (Some f) (Some g) e = chosen (nat_lt (place_of_fault g) (place_of_fault f)) e
  where
    chosen : (c : Bool) → None ≡ (if c then Some g else Some f) → Some f ≡ None
    chosen true h = absurd cc
    chosen false h = absurd cc

none_later : (f g : Option SqlFault) → None ≡ earlier f g → g ≡ None
none_later None g e = sym e
none_later (Some f) g e = absurd (by_first (no_earlier (Some f) g e))
  where
    by_first : Some f ≡ None → ⊥
    by_first h = absurd cc

not_mapped : (f : ℕ → SqlFault) (o : Option ℕ) → option_map f o ≡ None → o ≡ None
not_mapped f None e = refl
not_mapped f (Some n) e = cc

-- with no fault there is none of each kind
module _ (text : List ℕ) (list : List Token) (terminals : List Terminal) (fault : Option SqlFault) (none : None ≡ first_fault text list terminals fault) where
  pub no_grammar_fault : fault ≡ None
  no_grammar_fault = no_earlier fault _ none

  no_late : None ≡ earlier (option_map faults.BadWeight (bad_weight text list)) (option_map faults.TooManyStatements (start_behind 1000 terminals))
  no_late = sym (none_later fault _ none)

  pub no_start : start_behind 1000 terminals ≡ None
  no_start = not_mapped faults.TooManyStatements (start_behind 1000 terminals) (none_later _ _ no_late)

-- with no fault the grammar has none
means : (text : List ℕ) (s : List ParsedStatement) (x : Says text s None) → MeansStatements no_statements x.terminals x.progress
means text s x =
    subst (λ (o : Option SqlFault). GrammarSays (length text + 1) x.terminals x.progress o) (no_earlier x.of_grammar _ x.first) x.says

-- terminals have one meaning
pub one_progress : (start : Progress) (terminals : List Terminal) (p q : Progress) → MeansStatements start terminals p → MeansStatements start terminals q → p ≡ q
one_progress start terminals p q a b =
    has_one_meaning borders grammar levels workload good_grammar good_workload start terminals p q (means_read start terminals p a) (means_read start terminals q b)

-- a text is a workload of one list of statements
pub one_workload : (text : List ℕ) (s t : List ParsedStatement) → IsWorkload text s → IsWorkload text t → s ≡ t
one_workload text s t x y =
    let meant = subst (λ (ps : List Terminal). MeansStatements no_statements ps x.progress) (one_terminals_of text s t None None x y) (means text s x) in
    let same = one_progress no_statements y.terminals x.progress y.progress meant (means text t y) in
    x.same ∙ ap (λ (p : Progress). p.statements) same ∙ sym y.same

some_or_none : (text : List ℕ) (s : List ParsedStatement) (e : SqlFault) → IsWorkload text s → IsFirstFault text e → ⊥
some_or_none text s e x (t, y) = let same = one_first text s t None (Some e) x y in cc

-- a workload has no fault
pub workload_or_fault : (text : List ℕ) (s : List ParsedStatement) (e : SqlFault) → IsWorkload text s → HasSqlFault text e → ⊥
workload_or_fault text s faults.Memory x h = h
workload_or_fault text s (faults.BadByte place) x h = no_fault text x.list (tokens.BadByte place) x.are_tokens h
workload_or_fault text s (faults.OpenText place) x h = no_fault text x.list (tokens.OpenText place) x.are_tokens h
workload_or_fault text s (faults.Syntax place) x h = some_or_none text s (faults.Syntax place) x h
workload_or_fault text s (faults.Unsupported place) x h = some_or_none text s (faults.Unsupported place) x h
workload_or_fault text s (faults.BadWeight place) x h = some_or_none text s (faults.BadWeight place) x h
workload_or_fault text s (faults.TooManyStatements place) x h = some_or_none text s (faults.TooManyStatements place) x h

one_late : (text : List ℕ) (e f : SqlFault) → IsFirstFault text e → IsFirstFault text f → e ≡ f
one_late text e f (s, x) (t, y) = let same = one_first text s t (Some e) (Some f) x y in cc

late_or_token : (text : List ℕ) (e : SqlFault) (f : TokenFault) → IsFirstFault text e → HasFault text f → ⊥
late_or_token text e f (s, x) h = no_fault text x.list f x.are_tokens h

-- the fault of a text for the fault of its tokens
fault_of_token : TokenFault → SqlFault
fault_of_token tokens.Memory = faults.Memory
fault_of_token (tokens.BadByte place) = faults.BadByte place
fault_of_token (tokens.OpenText place) = faults.OpenText place

-- a fault of a token, or the first of the others
HasOne : List ℕ → SqlFault → Type 0
HasOne text e = ((f : TokenFault) × (e ≡ fault_of_token f) × HasFault text f) ⊎ IsFirstFault text e

has_one : (text : List ℕ) (e : SqlFault) → HasSqlFault text e → HasOne text e
unfolding HasOne fault_of_token
has_one text faults.Memory h = absurd h
has_one text (faults.BadByte place) h = inl (tokens.BadByte place, refl, h)
has_one text (faults.OpenText place) h = inl (tokens.OpenText place, refl, h)
has_one text (faults.Syntax place) h = inr h
has_one text (faults.Unsupported place) h = inr h
has_one text (faults.BadWeight place) h = inr h
has_one text (faults.TooManyStatements place) h = inr h

one_of_ways : (text : List ℕ) (e f : SqlFault) → HasOne text e → HasOne text f → e ≡ f
unfolding HasOne
one_of_ways text e f (inl (x, i, a)) (inl (y, j, b)) = i ∙ ap fault_of_token (one_fault text x y a b) ∙ sym j
one_of_ways text e f (inl (x, i, a)) (inr b) = absurd (late_or_token text f x b a)
one_of_ways text e f (inr a) (inl (y, j, b)) = absurd (late_or_token text e y a b)
one_of_ways text e f (inr a) (inr b) = one_late text e f a b

-- a text has one fault
pub one_sql_fault : (text : List ℕ) (e f : SqlFault) → HasSqlFault text e → HasSqlFault text f → e ≡ f
one_sql_fault text e f a b = one_of_ways text e f (has_one text e a) (has_one text f b)

-- what is found is all there is to find
pub found_only : {A : Type 0} (text : List ℕ) (result : Result A SqlFault) (statements_of : A → List ParsedStatement) →
    IfOk result (λ a. IsWorkload text (statements_of a)) → IfErr result (λ e. (e ≡ faults.Memory) ⊎ HasSqlFault text e) →
    (statements : List ParsedStatement) → IsWorkload text statements → MatchResult result (λ a. statements_of a ≡ statements) (λ e. e ≡ faults.Memory)
found_only text (Ok a) statements_of found fault statements h = one_workload text (statements_of a) statements found h
found_only text (Err e) statements_of found (inl memory) statements h = memory
found_only text (Err e) statements_of found (inr fault) statements h = absurd (workload_or_fault text statements e h fault)

-- the fault that is told is the one that the text has
pub told_only : {A : Type 0} (text : List ℕ) (result : Result A SqlFault) (statements_of : A → List ParsedStatement) →
    IfOk result (λ a. IsWorkload text (statements_of a)) → IfErr result (λ e. (e ≡ faults.Memory) ⊎ HasSqlFault text e) →
    (e : SqlFault) → HasSqlFault text e → MatchResult result (λ _. ⊥) (λ f. (f ≡ e) ⊎ (f ≡ faults.Memory))
told_only text (Ok a) statements_of found fault e h = workload_or_fault text (statements_of a) e found h
told_only text (Err f) statements_of found (inl memory) e h = inr memory
told_only text (Err f) statements_of found (inr fault) e h = inl (one_sql_fault text f e fault h)
