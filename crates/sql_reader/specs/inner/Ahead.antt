-- The terminals that a cursor has before it, as a function of the text and its place in it.
use Rattle.std.specs.Prelude.{ℕ, ℤ, pos, neg_ℤ, ◌^◌, ◌<◌, ◌≤◌, ◌<ℤ◌, ◌≤ℤ◌, Bool, true, false, List, [], ◌∷◌, ◌++◌, Option, Some, None, ◌⊎◌}
use Rattle.std.proofs.Common.{inl, inr}
use Rattle.std.proofs.lemmas.Bool.{cases_lt}
use Rattle.sql_tokens.specs.Ahead.{ahead}
use Rattle.sql_tokens.specs.declared.token.Span.{Span}
use Rattle.sql_tokens.specs.declared.token.Token.{Token}
use Rattle.sql_reader.specs.declared.kind.TerminalKind.{TerminalKind}
use Rattle.sql_reader.specs.declared.terminal.Terminal.{Terminal}
use Rattle.sql_reader.specs.declared.terminal.Mark.{Mark}
use Rattle.sql_reader.specs.Terminals.{bytes_of, kind_of, number_of, mark_behind, is_weight, no_mark}
use Rattle.sql_reader.specs.inner.Kept.{cases_lt_ℤ, no_least, no_most, some_least, some_most}

-- A terminal keeps limits, so there is one where they are kept: at each token of a text below 2^32 bytes.

abbrev pub with_number : TerminalKind → (span : Span) → Mark → (n : ℤ) → span.from < 2 ^ 32 →
    (neg_ℤ (pos (10 ^ 18)) <ℤ n) ⊎ (n ≤ℤ neg_ℤ (pos (10 ^ 18))) → (n <ℤ pos (10 ^ 18)) ⊎ (pos (10 ^ 18) ≤ℤ n) → List Terminal
with_number kind span mark n placed (inl least) (inl most) =
    record { kind = kind; span = span; number = Some n; mark = mark; least = some_least least; most = some_most most; placed = placed } ∷ []
with_number kind span mark n placed (inl least) (inr large) = []
with_number kind span mark n placed (inr small) most = []

abbrev pub with_option : TerminalKind → (span : Span) → Mark → Option ℤ → span.from < 2 ^ 32 → List Terminal
with_option kind span mark None placed =
    record { kind = kind; span = span; number = None; mark = mark; least = no_least; most = no_most; placed = placed } ∷ []
with_option kind span mark (Some n) placed =
    with_number kind span mark n placed (cases_lt_ℤ (neg_ℤ (pos (10 ^ 18))) n) (cases_lt_ℤ n (pos (10 ^ 18)))

abbrev pub with_place : TerminalKind → (span : Span) → Mark → Option ℤ → (span.from < 2 ^ 32) ⊎ (2 ^ 32 ≤ span.from) → List Terminal
with_place kind span mark number (inl placed) = with_option kind span mark number placed
with_place kind span mark number (inr far) = []

-- the terminal that a token is, behind the weight comment that the mark names
unfoldable pub terminal_of_token : List ℕ → Mark → Token → List Terminal
terminal_of_token text mark t =
    with_place (kind_of t.kind (bytes_of text t)) t.span mark (number_of t.kind (bytes_of text t)) (cases_lt t.span.from (2 ^ 32))

-- one token more: a weight comment is the mark of the tokens behind it, every other token is a terminal
abbrev pub with_token : List ℕ → Mark → Token → (Mark → List Terminal) → Bool → List Terminal
with_token text mark t behind true = behind (mark_behind text t mark)
with_token text mark t behind false = terminal_of_token text mark t ++ behind mark

-- the terminals that tokens are, behind the weight comment that the mark names
abbrev pub terminals_of : List ℕ → List Token → Mark → List Terminal
terminals_of text [] mark = []
terminals_of text (t ∷ ts) mark = with_token text mark t (terminals_of text ts) (is_weight t.kind)

-- the tokens of a text, up to its first fault
unfoldable pub tokens_in : List ℕ → List Token
tokens_in text = (ahead text 0).tokens

-- the terminals of a text, up to its first fault
unfoldable pub terminals_in : List ℕ → List Terminal
terminals_in text = terminals_of text (tokens_in text) no_mark

-- the terminals behind so many bytes of a text
unfoldable pub terminals_behind : List ℕ → ℕ → Mark → List Terminal
terminals_behind text at mark = terminals_of text (ahead text at).tokens mark

-- the next token or terminal, with those behind it; there are none behind the last
abbrev pub from_next : {A : Type 0} → Option A → List A → List A
from_next None behind = []
from_next (Some next) behind = next ∷ behind
