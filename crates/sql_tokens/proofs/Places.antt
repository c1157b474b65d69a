-- Where the tokens of a cut stand.
use Rattle.std.proofs.Common.{◌≡◌, ℕ, ◌+◌, ◌<◌, ◌≤◌, Bool, true, false, ◌&&◌, cond, ltb, List, [], ◌∷◌, ◌++◌, length, take, drop, Option, Some, None, refl, ap, sym, ◌∙◌, subst, arith}
use Rattle.std.specs.List.{prefix_len, All, AllPairs}
use Rattle.std.specs.Str.{str_eq_ignore_ascii_case}
use Rattle.std.proofs.lemmas.Bool.{and_parts}
use Rattle.std.proofs.lemmas.Bool.Decides.{nat_tests}
use Rattle.std.proofs.lemmas.List.{length-append, length-drop}
use Rattle.std.proofs.lemmas.List.Elements.{All-nil, All-cons}
use Rattle.std.proofs.lemmas.List.Kept.{AllPairs-cons}
use Rattle.std.proofs.lemmas.List.Sums.{prefix_len-le-length}
use Rattle.sql_tokens.specs.Byte.{is_digit, is_space, is_margin}
use Rattle.sql_tokens.specs.Front.{further}
use Rattle.sql_tokens.specs.Span.{LiesIn, StandsBefore}
use Rattle.sql_tokens.specs.Weight.{weight_word, is_margins, number_end, weight_end, weight_length}
use Rattle.sql_tokens.specs.Cut.{Part, IsCut, AreTokens, weight_token, tokens_of, tokens_of_lexeme}
use Rattle.sql_tokens.specs.declared.token.Token.{Token}
use Rattle.sql_tokens.specs.declared.lexeme.Form.{Form}
use Rattle.sql_tokens.specs.declared.lexeme.Form.TheVariants as form
use Rattle.sql_tokens.proofs.Exact.{form_some}

-- a length of at most so many bytes
abbrev pub AtMost : Option ℕ → ℕ → Type 0
AtMost None n = Unit {0}
AtMost (Some m) n = m ≤ n

at_most_if : (t : Bool) (o : Option ℕ) (n : ℕ) → (t ≡ true → AtMost o n) → AtMost (cond t o None) n
at_most_if true o n l = l refl
at_most_if false o n l = tt

at_most_further : (k m n : ℕ) (o : Option ℕ) → AtMost o m → k + m ≤ n → AtMost (further k o) n
at_most_further k m n None a l = tt
at_most_further k m n (Some d) a l = omega (arith, a)

number_end-within : (bs : List ℕ) → AtMost (number_end bs) (length bs)
unfolding number_end
number_end-within bs =
    let gap : ℕ = prefix_len is_space bs in
    let digits : ℕ = prefix_len is_digit (drop gap bs) in
    let a : gap ≤ length bs = prefix_len-le-length is_space bs in
    let b : digits ≤ length (drop gap bs) = prefix_len-le-length is_digit (drop gap bs) in
    at_most_if (ltb 0 gap && ltb 0 digits && is_margins (drop digits (drop gap bs))) (Some (gap + digits)) (length bs)
    (λ _. omega (arith, b, length-drop gap bs))

-- a weight has a byte, and lies in its comment
abbrev pub Within : Option ℕ → ℕ → Type 0
Within None n = Unit {0}
Within (Some m) n = (0 < m) × (m ≤ n)

long_word : (bs : List ℕ) → (ltb 5 (length bs) && str_eq_ignore_ascii_case (take 6 bs) weight_word) ≡ true → 6 ≤ length bs
long_word bs t =
    let e : ltb 5 (length bs) ≡ true = (and_parts (ltb 5 (length bs)) (str_eq_ignore_ascii_case (take 6 bs) weight_word) t).0 in
    grind (arith, nat_tests)

-- so many bytes at most, and at least six
abbrev pub Between : Option ℕ → ℕ → Type 0
Between None n = Unit {0}
Between (Some m) n = (m ≤ n) × (6 ≤ n)

between_if : (t : Bool) (o : Option ℕ) (n : ℕ) → (t ≡ true → AtMost o n) → (t ≡ true → 6 ≤ n) → Between (cond t o None) n
between_if true None n l s = tt
between_if true (Some m) n l s = (l refl, s refl)
between_if false o n l s = tt

weight_end-within : (bs : List ℕ) → Between (weight_end bs) (length bs)
unfolding weight_end
weight_end-within bs =
    between_if (ltb 5 (length bs) && str_eq_ignore_ascii_case (take 6 bs) weight_word) (further 6 (number_end (drop 6 bs))) (length bs)
    (λ t. at_most_further 6 (length (drop 6 bs)) (length bs) (number_end (drop 6 bs)) (number_end-within (drop 6 bs))
    (let l : 6 ≤ length bs = long_word bs t in omega (arith, length-drop 6 bs)))
    (λ t. long_word bs t)

within_further : (blanks : ℕ) (bs : List ℕ) (o : Option ℕ) → Between o (length (drop blanks (drop 2 bs))) → Within (further (2 + blanks) o) (length bs)
within_further blanks bs None h = tt
within_further blanks bs (Some m) h = (omega arith, omega (arith, h.0, h.1, length-drop blanks (drop 2 bs), length-drop 2 bs))

pub weight_length-within : (bs : List ℕ) → Within (weight_length bs) (length bs)
unfolding weight_length
weight_length-within bs =
    within_further (prefix_len is_margin (drop 2 bs)) bs (weight_end (drop (prefix_len is_margin (drop 2 bs)) (drop 2 bs)))
    (weight_end-within (drop (prefix_len is_margin (drop 2 bs)) (drop 2 bs)))

-- tokens in order between two places
abbrev pub InOrder : ℕ → ℕ → List Token → Type 0
InOrder from to [] = from ≤ to
InOrder from to (t ∷ ts) = (from ≤ t.span.from) × (t.span.from < t.span.to) × InOrder t.span.to to ts

in_order-earlier : (a b to : ℕ) (ts : List Token) → a ≤ b → InOrder b to ts → InOrder a to ts
in_order-earlier a b to [] l h = omega (arith, h)
in_order-earlier a b to (t ∷ ts) l h = (omega (arith, h.0), h.1, h.2)

in_order-append : (a m b : ℕ) (xs ys : List Token) → InOrder a m xs → InOrder m b ys → InOrder a b (xs ++ ys)
in_order-append a m b [] ys h k = in_order-earlier a m b ys h k
in_order-append a m b (x ∷ xs) ys h k = (h.0, h.1, in_order-append x.span.to m b xs ys h.2 k)

in_order-weight : (at n : ℕ) (o : Option ℕ) → Within o n → InOrder at (at + n) (weight_token at o)
in_order-weight at n None h = omega arith
in_order-weight at n (Some m) h = (omega arith, omega (arith, h.0), omega (arith, h.1))

pub in_order-lexeme : (at : ℕ) (f : Form) (bytes : List ℕ) → 0 < length bytes → InOrder at (at + length bytes) (tokens_of_lexeme at f bytes)
in_order-lexeme at form.Blank bytes l = omega arith
in_order-lexeme at form.LineComment bytes l = in_order-weight at (length bytes) (weight_length bytes) (weight_length-within bytes)
in_order-lexeme at form.BlockComment bytes l = omega arith
in_order-lexeme at (form.Token k) bytes l = (omega arith, omega arith, omega arith)

pub in_order-cut : (ps : List Part) (at : ℕ) (text rest : List ℕ) → IsCut ps text rest → InOrder at (at + length text) (tokens_of at ps)
in_order-cut [] at text rest h = omega arith
in_order-cut (p ∷ ps) at text rest h =
    let l : length text ≡ length p.bytes + length h.0 = ap length h.1 ∙ length-append p.bytes h.0 in
    let e : at + length p.bytes + length h.0 ≡ at + length text = omega (arith, l) in
    let i : InOrder (at + length p.bytes) (at + length p.bytes + length h.0) (tokens_of (at + length p.bytes) ps) =
    in_order-cut ps (at + length p.bytes) h.0 rest h.3 in
    in_order-append at (at + length p.bytes) (at + length text) (tokens_of_lexeme at p.form p.bytes) (tokens_of (at + length p.bytes) ps)
    (in_order-lexeme at p.form p.bytes (form_some p.form p.bytes h.2.is_form))
    (subst (λ n. InOrder (at + length p.bytes) n (tokens_of (at + length p.bytes) ps)) e i)

in_order-to : (a b : ℕ) (ts : List Token) → InOrder a b ts → a ≤ b
in_order-to a b [] h = h
in_order-to a b (t ∷ ts) h = omega (arith, h.0, h.1, in_order-to t.span.to b ts h.2)

lies-in_order : (text : List ℕ) (a : ℕ) (ts : List Token) → InOrder a (length text) ts → All (LiesIn text) ts
lies-in_order text a [] h = All-nil (LiesIn text)
lies-in_order text a (t ∷ ts) h =
    All-cons (LiesIn text) t ts (h.1, in_order-to t.span.to (length text) ts h.2) (lies-in_order text t.span.to ts h.2)

after-in_order : (earlier : Token) (a b : ℕ) (ts : List Token) → earlier.span.to ≤ a → InOrder a b ts → All (StandsBefore earlier) ts
after-in_order earlier a b [] l h = All-nil (StandsBefore earlier)
after-in_order earlier a b (t ∷ ts) l h =
    All-cons (StandsBefore earlier) t ts (omega (arith, l, h.0)) (after-in_order earlier t.span.to b ts (omega (arith, l, h.0, h.1)) h.2)

pairs-in_order : (a b : ℕ) (ts : List Token) → InOrder a b ts → AllPairs StandsBefore ts
pairs-in_order a b [] h = λ i j d l m. absurd (omega arith)
pairs-in_order a b (t ∷ ts) h =
    AllPairs-cons StandsBefore t ts (after-in_order t t.span.to b ts (omega arith) h.2) (pairs-in_order t.span.to b ts h.2)

-- the tokens of a cut lie in its text
pub lies-cut : (ps : List Part) (text rest : List ℕ) → IsCut ps text rest → All (LiesIn text) (tokens_of 0 ps)
lies-cut ps text rest h =
    let z : 0 + length text ≡ length text = omega arith in
    lies-in_order text 0 (tokens_of 0 ps) (subst (λ n. InOrder 0 n (tokens_of 0 ps)) z (in_order-cut ps 0 text rest h))

-- the tokens of a cut are in order
pub pairs-cut : (ps : List Part) (text rest : List ℕ) → IsCut ps text rest → AllPairs StandsBefore (tokens_of 0 ps)
pairs-cut ps text rest h = pairs-in_order 0 (0 + length text) (tokens_of 0 ps) (in_order-cut ps 0 text rest h)

-- the tokens of a text lie in it, in order
pub tokens-lie : (text : List ℕ) (list : List Token) → AreTokens text list → All (LiesIn text) list
tokens-lie text list are = subst (All (LiesIn text)) (sym are.tokens) (lies-cut are.parts text [] are.cut)

pub tokens-pairs : (text : List ℕ) (list : List Token) → AreTokens text list → AllPairs StandsBefore list
tokens-pairs text list are = subst (AllPairs StandsBefore) (sym are.tokens) (pairs-cut are.parts text [] are.cut)
