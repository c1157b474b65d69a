-- What a reader has before it, lexeme by lexeme.
use Rattle.std.proofs.Common.{◌≡◌, ◌⊎◌, ℕ, zero, suc, ◌+◌, ◌<◌, ◌≤◌, List, [], ◌∷◌, ◌++◌, length, take, drop, Option, Some, None, Result, Ok, Err, refl, ap, sym, ◌∙◌, subst, inl, inr, arith}
use Rattle.std.specs.Option.{option_to_list, ForSome}
use Rattle.std.proofs.lemmas.List.{length-drop, drop-drop, append-nil, append_assoc, nil_from_length}
use Rattle.sql_tokens.specs.Front.{front}
use Rattle.sql_tokens.specs.Span.{LiesIn}
use Rattle.sql_tokens.specs.Cut.{AreTokens, HasFault, fault_at, tokens_of_lexeme}
use Rattle.sql_tokens.specs.Ahead.{Ahead, nothing, only_fault, behind_tokens, with_lexeme, ahead_in, ahead, IsNext, Tells}
use Rattle.sql_tokens.specs.declared.token.Token.{Token}
use Rattle.sql_tokens.specs.declared.token_list.TokenFault.{TokenFault}
use Rattle.sql_tokens.specs.declared.lexeme.Form.{Form}
use Rattle.sql_tokens.specs.declared.lexeme.Lexeme.{Lexeme}
use Rattle.sql_tokens.specs.declared.lexeme.NoLexeme.{NoLexeme}
use Rattle.sql_tokens.proofs.Places.{InOrder, in_order-lexeme}
use Rattle.sql_tokens.proofs.Reached.{Reached, reached_none, reached_more, reached_all, reached_fault, lexeme_some}

shorter : (n : ℕ) (b : ℕ) (bs : List ℕ) (p : Lexeme) → length (b ∷ bs) ≤ suc n → front (b ∷ bs) ≡ Ok p → length (drop p.length (b ∷ bs)) ≤ n
shorter n b bs p h e = omega (arith, h, length-drop p.length (b ∷ bs), lexeme_some (b ∷ bs) p e)

-- it is the same for each number that is at least that of the bytes
enough : (m n at : ℕ) (rest : List ℕ) → length rest ≤ m → length rest ≤ n → ahead_in m at rest ≡ ahead_in n at rest
enough zero zero at rest h k = refl
enough zero (suc n) at [] h k = refl
enough zero (suc n) at (b ∷ bs) h k = absurd (omega (arith, h))
enough (suc m) zero at [] h k = refl
enough (suc m) zero at (b ∷ bs) h k = absurd (omega (arith, k))
enough (suc m) (suc n) at [] h k = refl
enough (suc m) (suc n) at (b ∷ bs) h k = by_front (λ to rest i j. enough m n to rest i j) (front (b ∷ bs)) refl
  where
    by_front : ((to : ℕ) (rest : List ℕ) → length rest ≤ m → length rest ≤ n → ahead_in m to rest ≡ ahead_in n to rest) →
        (x : Result Lexeme NoLexeme) → front (b ∷ bs) ≡ x → with_lexeme at (b ∷ bs) (ahead_in m) x ≡ with_lexeme at (b ∷ bs) (ahead_in n) x
    by_front behind (Ok p) e =
        ap (behind_tokens (tokens_of_lexeme at p.form (take p.length (b ∷ bs))))
        (behind (at + p.length) (drop p.length (b ∷ bs)) (shorter m b bs p h e) (shorter n b bs p k e))
    by_front behind (Err s) e = refl

one_lexeme : (n at : ℕ) (rest : List ℕ) (p : Lexeme) → length rest ≤ n → front rest ≡ Ok p →
    ahead_in n at rest ≡ behind_tokens (tokens_of_lexeme at p.form (take p.length rest)) (ahead_in n (at + p.length) (drop p.length rest))
one_lexeme n at [] p h e = absurd cc
one_lexeme zero at (b ∷ bs) p h e = absurd (omega (arith, h))
one_lexeme (suc n) at (b ∷ bs) p h e =
    let less = shorter n b bs p h e in
    ap (with_lexeme at (b ∷ bs) (ahead_in n)) e
    ∙ ap (behind_tokens (tokens_of_lexeme at p.form (take p.length (b ∷ bs)))) (enough n (suc n) (at + p.length) (drop p.length (b ∷ bs)) less (omega (arith, less)))

no_lexeme : (n at : ℕ) (rest : List ℕ) (s : NoLexeme) → length rest ≤ n → 0 < length rest → front rest ≡ Err s → ahead_in n at rest ≡ only_fault (fault_at at s)
no_lexeme n at [] s h some e = absurd (omega (arith, some))
no_lexeme zero at (b ∷ bs) s h some e = absurd (omega (arith, h))
no_lexeme (suc n) at (b ∷ bs) s h some e = ap (with_lexeme at (b ∷ bs) (ahead_in n)) e

no_bytes : (n at : ℕ) → ahead_in n at [] ≡ nothing
no_bytes zero at = refl
no_bytes (suc n) at = refl

short : (text : List ℕ) (at : ℕ) → length (drop at text) ≤ length text
short text at = omega (arith, length-drop at text)

-- one lexeme was read
pub ahead_lexeme : (text : List ℕ) (at : ℕ) (p : Lexeme) → front (drop at text) ≡ Ok p →
    ahead text at ≡ behind_tokens (tokens_of_lexeme at p.form (take p.length (drop at text))) (ahead text (at + p.length))
unfolding ahead
ahead_lexeme text at p e =
    one_lexeme (length text) at (drop at text) p (short text at) e
    ∙ ap (λ (rest : List ℕ). behind_tokens (tokens_of_lexeme at p.form (take p.length (drop at text))) (ahead_in (length text) (at + p.length) rest)) (drop-drop p.length at text)

-- no lexeme is there
pub ahead_fault : (text : List ℕ) (at : ℕ) (s : NoLexeme) → at < length text → front (drop at text) ≡ Err s → ahead text at ≡ only_fault (fault_at at s)
unfolding ahead
ahead_fault text at s inside e = no_lexeme (length text) at (drop at text) s (short text at) (omega (arith, inside, length-drop at text)) e

-- the text is at its end
pub ahead_end : (text : List ℕ) (at : ℕ) → length text ≤ at → ahead text at ≡ nothing
unfolding ahead
ahead_end text at end =
    ap (ahead_in (length text) at) (nil_from_length (drop at text) (omega (arith, end, length-drop at text))) ∙ no_bytes (length text) at

lies_one : (text : List ℕ) (at n : ℕ) (token : Option Token) → at + n ≤ length text → InOrder at (at + n) (option_to_list token) → ForSome token (LiesIn text)
lies_one text at n None room h = λ t e. absurd cc
lies_one text at n (Some u) room h = λ t e. let same : u ≡ t = cc in subst (LiesIn text) same (h.1, omega (arith, h.2, room))

-- the token of a lexeme lies in the text
pub lexeme_lies : (text : List ℕ) (at : ℕ) (f : Form) (bytes : List ℕ) (token : Option Token) → 0 < length bytes → at + length bytes ≤ length text →
    option_to_list token ≡ tokens_of_lexeme at f bytes → ForSome token (LiesIn text)
lexeme_lies text at f bytes token some room e =
    lies_one text at (length bytes) token room (subst (InOrder at (at + length bytes)) (sym e) (in_order-lexeme at f bytes some))

-- from a place on, where at most n bytes are left
from_place : (n : ℕ) (text rest : List ℕ) (at : ℕ) (list : List Token) → length rest ≤ n → Reached text rest at list →
    Tells text (list ++ (ahead_in n at rest).tokens) (ahead_in n at rest).fault
from_place zero text rest at list h reached = subst (AreTokens text) (sym (append-nil list)) (reached_all text rest at list reached (omega (arith, h)))
from_place (suc n) text [] at list h reached = subst (AreTokens text) (sym (append-nil list)) (reached_all text [] at list reached refl)
from_place (suc n) text (b ∷ bs) at list h reached = by_front (λ rest to more i r. from_place n text rest to more i r) (front (b ∷ bs)) refl
  where
    by_front : ((rest : List ℕ) (to : ℕ) (more : List Token) → length rest ≤ n → Reached text rest to more → Tells text (more ++ (ahead_in n to rest).tokens) (ahead_in n to rest).fault) →
        (x : Result Lexeme NoLexeme) → front (b ∷ bs) ≡ x → Tells text (list ++ (with_lexeme at (b ∷ bs) (ahead_in n) x).tokens) (with_lexeme at (b ∷ bs) (ahead_in n) x).fault
    by_front behind (Ok p) e =
        let rest = drop p.length (b ∷ bs) in
        let own = tokens_of_lexeme at p.form (take p.length (b ∷ bs)) in
        let more = ahead_in n (at + p.length) rest in
        subst (λ (ts : List Token). Tells text ts more.fault) (append_assoc list own more.tokens)
        (behind rest (at + p.length) (list ++ own) (shorter n b bs p h e) (reached_more text (b ∷ bs) at list p reached e))
    by_front behind (Err s) e =
        subst (λ (ts : List Token). Tells text ts (Some (fault_at at s))) (sym (append-nil list)) (reached_fault text (b ∷ bs) at list s reached (omega arith) e)

-- at the front of a text its tokens or its fault are ahead
pub tells_ahead : (text : List ℕ) → Tells text (ahead text 0).tokens (ahead text 0).fault
unfolding ahead
tells_ahead text = from_place (length text) text text 0 [] (omega arith) (reached_none text)

-- where no token comes nothing is ahead
pub none_next : (old new : Ahead) (token : Option Token) → ((t : Token) → token ≡ Some t → ⊥) → IsNext old (Ok token) new → old ≡ nothing
none_next old new None none h = h.0
none_next old new (Some t) none h = absurd (none t refl)

-- What is read of a text and what is ahead are its tokens, or those before its first fault, and that fault.

pub record IsReadTo (text : List ℕ) (list : List Token) (rest : Ahead) : Type 0 where
  pub all : ahead text 0 ≡ behind_tokens list rest

pub read_none : (text : List ℕ) → IsReadTo text [] (ahead text 0)
read_none text = record { all = refl }

with_fault : List Token → Option TokenFault → Ahead
with_fault tokens fault = record { tokens = tokens; fault = fault }

behind_more : (list : List Token) (t : Token) (rest : Ahead) → behind_tokens list (behind_tokens (t ∷ []) rest) ≡ behind_tokens (list ++ t ∷ []) rest
unfolding with_fault
behind_more list t rest = ap (λ (ts : List Token). with_fault ts rest.fault) (sym (append_assoc list (t ∷ []) rest.tokens))

-- one token more
pub read_more : (text : List ℕ) (list : List Token) (t : Token) (old new : Ahead) → IsReadTo text list old → old ≡ behind_tokens (t ∷ []) new → IsReadTo text (list ++ t ∷ []) new
read_more text list t old new h next = record { all = h.all ∙ ap (behind_tokens list) next ∙ behind_more list t new }

-- no token comes, and so nothing is left
pub read_all : (text bytes : List ℕ) (list : List Token) (at new : ℕ) (token : Option Token) → bytes ≡ text → IsReadTo text list (ahead text at) → ((t : Token) → token ≡ Some t → ⊥) →
    IsNext (ahead bytes at) (Ok token) (ahead bytes new) → AreTokens text list
read_all text bytes list at new token same h none next =
    let end = subst (λ (b : List ℕ). ahead b at ≡ nothing) same (none_next (ahead bytes at) (ahead bytes new) token none next) in
    subst (AreTokens text) (append-nil list)
    (subst (λ (a : Ahead). Tells text a.tokens a.fault) (h.all ∙ ap (behind_tokens list) end) (tells_ahead text))

-- a fault comes, and so it is the text's
pub read_fault : (text bytes : List ℕ) (list : List Token) (at new : ℕ) (e : TokenFault) → bytes ≡ text → IsReadTo text list (ahead text at) →
    IsNext (ahead bytes at) (Err e) (ahead bytes new) → HasFault text e
read_fault text bytes list at new e same h next =
    let is = subst (λ (b : List ℕ). ahead b at ≡ only_fault e) same next.0 in
    (subst (λ (a : Ahead). Tells text a.tokens a.fault) (h.all ∙ ap (behind_tokens list) is) (tells_ahead text)).0

-- a text has tokens or a fault
pub answered : (text : List ℕ) → ((list : List Token) × AreTokens text list) ⊎ ((e : TokenFault) × HasFault text e)
answered text = by_fault (ahead text 0).tokens (ahead text 0).fault (tells_ahead text)
  where
    by_fault : (tokens : List Token) (fault : Option TokenFault) → Tells text tokens fault → ((list : List Token) × AreTokens text list) ⊎ ((e : TokenFault) × HasFault text e)
    by_fault tokens None are = inl (tokens, are)
    by_fault tokens (Some fault) (has, before) = inr (fault, has)
