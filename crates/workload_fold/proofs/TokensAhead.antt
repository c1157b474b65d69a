-- What is ahead in a text, token by token.
use Rattle.std.proofs.Common.{◌≡◌, ℕ, zero, suc, ◌+◌, ◌-◌, true, false, List, [], ◌∷◌, ◌++◌, length, take, drop, Option, Some, None, Result, Ok, Err, refl, ap, sym, ◌∙◌, subst, append_assoc, arith}
use Rattle.std.proofs.lemmas.Bool.{false≢true}
use Rattle.std.proofs.lemmas.List.{take_at, drop_at, drop-drop}
use Rattle.sql_tokens.specs.Form.{IsToken}
use Rattle.sql_tokens.specs.Front.{front, lexeme}
use Rattle.sql_tokens.specs.Cut.{tokens_of_lexeme, token_at, weight_token}
use Rattle.sql_tokens.specs.Weight.{weight_length}
use Rattle.sql_tokens.specs.Ahead.{Ahead, behind_tokens, with_lexeme, ahead_in, ahead}
use Rattle.sql_tokens.specs.declared.token.Token.{Token}
use Rattle.sql_tokens.specs.declared.token.TokenKind.{TokenKind}
use Rattle.sql_tokens.specs.declared.token_list.TokenFault.{TokenFault}
use Rattle.sql_tokens.specs.declared.lexeme.Form.{Form}
use Rattle.sql_tokens.specs.declared.lexeme.Form.TheVariants as form
use Rattle.sql_tokens.specs.declared.lexeme.Lexeme.{Lexeme}
use Rattle.sql_tokens.specs.declared.lexeme.NoLexeme.{NoLexeme}
use Rattle.sql_tokens.proofs.Ahead.{ahead_lexeme}
use Rattle.sql_tokens.proofs.Sound.{FrontTells, HasFront, tells}
use Rattle.sql_reader.specs.Terminals.{bytes_of, is_weight}

-- each element of a list
abbrev pub Each : {X : Type 0} → (X → Type 0) → List X → Type 0
Each P [] = Unit {0}
Each P (x ∷ xs) = P x × Each P xs

pub each_append : {X : Type 0} (P : X → Type 0) (xs ys : List X) → Each P xs → Each P ys → Each P (xs ++ ys)
each_append P [] ys h k = k
each_append P (x ∷ xs) ys h k = (h.0, each_append P xs ys h.1 k)

-- ## One lexeme

-- the lexeme at the front is cut off
pub lexeme_ahead : (text bytes more : List ℕ) (at : ℕ) (f : Form) → drop at text ≡ bytes ++ more → front (bytes ++ more) ≡ Ok (lexeme f (length bytes))
    → ahead text at ≡ behind_tokens (tokens_of_lexeme at f bytes) (ahead text (at + length bytes))
lexeme_ahead text bytes more at f is e =
    ahead_lexeme text at (lexeme f (length bytes)) (ap front is ∙ e)
    ∙ ap (λ (xs : List ℕ). behind_tokens (tokens_of_lexeme at f xs) (ahead text (at + length bytes))) (ap (take (length bytes)) is ∙ take_at bytes more (length bytes) refl)

-- and the rest is left
pub left_behind : (text bytes more : List ℕ) (at : ℕ) → drop at text ≡ bytes ++ more → drop (at + length bytes) text ≡ more
left_behind text bytes more at is = sym (drop-drop (length bytes) at text) ∙ ap (drop (length bytes)) is ∙ drop_at bytes more (length bytes) refl

-- the bytes of a token at the front
pub bytes_there : (text bytes more : List ℕ) (at : ℕ) (k : TokenKind) → drop at text ≡ bytes ++ more → bytes_of text (token_at k at (length bytes)) ≡ bytes
bytes_there text bytes more at k is =
    let n : at + length bytes - at ≡ length bytes = omega arith in
    ap (λ (m : ℕ). take m (drop at text)) n ∙ (ap (take (length bytes)) is ∙ take_at bytes more (length bytes) refl)

with_fault : List Token → Option TokenFault → Ahead
with_fault tokens fault = record { tokens = tokens; fault = fault }

-- tokens behind others
pub behind_both : (xs ys : List Token) (a : Ahead) → behind_tokens xs (behind_tokens ys a) ≡ behind_tokens (xs ++ ys) a
unfolding with_fault
behind_both xs ys a = ap (λ (ts : List Token). with_fault ts a.fault) (sym (append_assoc xs ys a.tokens))

-- ## What the tokens ahead are

-- a token that is no weight is of the form of its kind
abbrev pub IsSpelled : List ℕ → Token → Type 0
IsSpelled text t = is_weight t.kind ≡ false → IsToken t.kind (bytes_of text t)

spelled_weight : (text : List ℕ) (at : ℕ) (o : Option ℕ) → Each (IsSpelled text) (weight_token at o)
spelled_weight text at None = tt
spelled_weight text at (Some n) = ((λ no. absurd (false≢true (sym no))), tt)

one_spelled : (text rest : List ℕ) (at : ℕ) (f : Form) (n : ℕ) → drop at text ≡ rest → HasFront f n rest → Each (IsSpelled text) (tokens_of_lexeme at f (take n rest))
one_spelled text rest at form.Blank n is h = tt
one_spelled text rest at form.LineComment n is h = spelled_weight text at (weight_length (take n rest))
one_spelled text rest at form.BlockComment n is h = tt
one_spelled text rest at (form.Token k) n is h =
    let bytes : take n rest ≡ h.bytes = ap (take n) h.spelled ∙ take_at h.bytes h.rest n h.long in
    let own : bytes_of text (token_at k at (length (take n rest))) ≡ h.bytes =
    ap (λ (xs : List ℕ). bytes_of text (token_at k at (length xs))) bytes ∙ bytes_there text h.bytes h.rest at k (is ∙ h.spelled) in
    ((λ no. subst (IsToken k) (sym own) h.is_form), tt)

spelled_in : (n at : ℕ) (text rest : List ℕ) → drop at text ≡ rest → Each (IsSpelled text) (ahead_in n at rest).tokens
spelled_in zero at text rest is = tt
spelled_in (suc n) at text [] is = tt
spelled_in (suc n) at text (b ∷ bs) is = by_front (λ to rest e. spelled_in n to text rest e) (front (b ∷ bs)) (tells b bs)
  where
    by_front : ((to : ℕ) (rest : List ℕ) → drop to text ≡ rest → Each (IsSpelled text) (ahead_in n to rest).tokens) →
        (x : Result Lexeme NoLexeme) → FrontTells (b ∷ bs) x → Each (IsSpelled text) (with_lexeme at (b ∷ bs) (ahead_in n) x).tokens
    by_front behind (Ok p) h =
        each_append (IsSpelled text) (tokens_of_lexeme at p.form (take p.length (b ∷ bs))) (ahead_in n (at + p.length) (drop p.length (b ∷ bs))).tokens
        (one_spelled text (b ∷ bs) at p.form p.length is h)
        (behind (at + p.length) (drop p.length (b ∷ bs)) (sym (drop-drop p.length at text) ∙ ap (drop p.length) is))
    by_front behind (Err s) h = tt

-- each token ahead is
pub spelled_ahead : (text : List ℕ) (at : ℕ) → Each (IsSpelled text) (ahead text at).tokens
unfolding ahead
spelled_ahead text at = spelled_in (length text) at text (drop at text) refl
