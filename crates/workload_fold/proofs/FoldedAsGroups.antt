-- The text of a folded workload is cut into the tokens of its groups.
use Rattle.std.proofs.Common.{◌≡◌, ℕ, ◌+◌, ◌-◌, ◌≤◌, Bool, true, false, if◌then◌else◌, List, [], ◌∷◌, ◌++◌, refl, ap, arith}
use Rattle.std.specs.Prelude.{All}
use Rattle.std.proofs.lemmas.List.Elements.{All-head, All-tail}
use Rattle.adv_base.specs.declared.limits.TheConstants.{MOST_WEIGHT}
use Rattle.sql_tokens.specs.Ahead.{ahead}
use Rattle.sql_tokens.specs.Cut.{AreTokens}
use Rattle.sql_tokens.specs.declared.token.Token.{Token}
use Rattle.sql_reader.specs.Terminals.{is_weight}
use Rattle.sql_reader.specs.declared.parsed.ParsedStatement.{ParsedStatement}
use Rattle.workload_fold.specs.Places.{Texts}
use Rattle.workload_fold.specs.Texts.{is_semicolon, own_tokens, statement_tokens, group_text, place_of_number, folded_text}
use Rattle.workload_fold.specs.FoldedTokens.{AreGroups, with_folded}
use Rattle.workload_fold.proofs.TokensAhead.{Each, IsSpelled, spelled_ahead}
use Rattle.workload_fold.proofs.CopiedTokens.{IsOwn, Entry, IsEntry, entries_text, AreCopies, all_copied, copies_are_tokens}

own_spelled : (text : List ℕ) (ts : List Token) → Each (IsSpelled text) ts → Each (IsOwn text) (own_tokens text ts)
own_spelled text [] h = tt
own_spelled text (t ∷ ts) h = by_case (own_spelled text ts h.1) (is_weight t.kind) (is_semicolon text t) refl
  where
    by_case : Each (IsOwn text) (own_tokens text ts) → (w s : Bool) → is_weight t.kind ≡ w → Each (IsOwn text) (if w then own_tokens text ts else if s then [] else t ∷ own_tokens text ts)
    by_case later true s e = later
    by_case later false true e = tt
    by_case later false false e = (h.0 e, later)

-- the tokens of a statement are of the forms of their kinds
pub statement_spelled : (text : List ℕ) (place : ℕ) → Each (IsOwn text) (statement_tokens text place)
unfolding statement_tokens
statement_spelled text place = own_spelled text (ahead text (place - 1)).tokens (spelled_ahead text (place - 1))

-- the groups by the numbers of their first statements
pub entries_of : List ℕ → List ParsedStatement → List ℕ → List ℕ → List Entry
entries_of text statements [] weights = []
entries_of text statements (n ∷ ns) [] = []
entries_of text statements (n ∷ ns) (w ∷ ws) = (statement_tokens text (place_of_number statements n), w) ∷ entries_of text statements ns ws

pub folded_entries : (text : List ℕ) (statements : List ParsedStatement) (ns ws : List ℕ) → folded_text text statements ns ws ≡ entries_text text (entries_of text statements ns ws)
unfolding entries_of group_text
folded_entries text statements [] weights = refl
folded_entries text statements (n ∷ ns) [] = refl
folded_entries text statements (n ∷ ns) (w ∷ ws) = ap (λ (xs : List ℕ). group_text text (place_of_number statements n) w ++ xs) (folded_entries text statements ns ws)

are_entries : (text : List ℕ) (statements : List ParsedStatement) (ns ws : List ℕ) → All (λ w. w ≤ MOST_WEIGHT) ws → Each (IsEntry text) (entries_of text statements ns ws)
unfolding entries_of
are_entries text statements [] ws low = tt
are_entries text statements (n ∷ ns) [] low = tt
are_entries text statements (n ∷ ns) (w ∷ ws) low =
    let own = All-head (λ x. x ≤ MOST_WEIGHT) w ws low in
    ((omega (arith, own), statement_spelled text (place_of_number statements n)), are_entries text statements ns ws (All-tail (λ x. x ≤ MOST_WEIGHT) w ws low))

as_groups : (t : Texts) (statements : List ParsedStatement) (ns ws : List ℕ) (at : ℕ) (tokens : List Token) → AreCopies t (entries_of t.one statements ns ws) at tokens → AreGroups t statements ns ws tokens
unfolding entries_of
as_groups t statements [] ws at tokens are = are
as_groups t statements (n ∷ ns) [] at tokens are = are
as_groups t statements (n ∷ ns) (w ∷ ws) at tokens (to, mark, end, copies, rest, all, copy, are) =
    (mark, end, copies, rest, all, copy.is, as_groups t statements ns ws to rest are)

pub folded_tokens : (text : List ℕ) (statements : List ParsedStatement) (first weights : List ℕ) → All (λ w. w ≤ MOST_WEIGHT) weights →
    (tokens : List Token) × AreTokens (folded_text text statements first weights) tokens
    × AreGroups (with_folded text statements first weights) statements first weights tokens
folded_tokens text statements first weights low =
    let t : Texts = with_folded text statements first weights in
    let all = all_copied t (entries_of text statements first weights) 0 (are_entries text statements first weights low) (folded_entries text statements first weights) in
    (all.tokens, copies_are_tokens t all.tokens all.all, as_groups t statements first weights 0 all.tokens all.are)
