-- How far a text is cut, and how the cut goes on and ends.
use Rattle.std.proofs.Common.{◌≡◌, ℕ, ◌+◌, ◌<◌, ◌≤◌, List, [], ◌∷◌, ◌++◌, length, take, drop, Ok, Err, refl, ap, sym, ◌∙◌, subst, inl, inr, arith}
use Rattle.std.proofs.lemmas.List.{take_at, drop_at, append-nil, append_assoc, length-append, nil_from_length}
use Rattle.sql_tokens.specs.Front.{front}
use Rattle.sql_tokens.specs.Form.{IsForm, IsLineComment}
use Rattle.sql_tokens.specs.Cut.{IsOpen, IsBad, Stands, Part, IsCut, tokens_of, tokens_of_lexeme, AreTokens, HasBadByte, HasOpenText, HasFault, tokens_before, fault_at}
use Rattle.sql_tokens.specs.declared.token.Token.{Token}
use Rattle.sql_tokens.specs.declared.token_list.TokenFault.{TokenFault}
use Rattle.sql_tokens.specs.declared.token_list.TokenFault.TheVariants as fault
use Rattle.sql_tokens.specs.declared.lexeme.Form.TheVariants as form
use Rattle.sql_tokens.specs.declared.lexeme.Lexeme.{Lexeme}
use Rattle.sql_tokens.specs.declared.lexeme.NoLexeme.{NoLexeme}
use Rattle.sql_tokens.specs.declared.lexeme.NoLexeme.TheVariants as stop
use Rattle.sql_tokens.proofs.Sound.{FrontTells, HasFront}
use Rattle.sql_tokens.proofs.Exact.{front_stands, tells_some, open_front, bad_front, form_some}
use Rattle.sql_tokens.proofs.OneCut.{one_cut, stopped_end, stopped_open, stopped_bad}

-- how many bytes the lexemes have
abbrev pub total : List Part → ℕ
total [] = 0
total (p ∷ ps) = length p.bytes + total ps

cut-total : (ps : List Part) (text rest : List ℕ) → IsCut ps text rest → length text ≡ total ps + length rest
cut-total [] text rest h = ap length h ∙ omega arith
cut-total (p ∷ ps) text rest h =
    let i : length h.0 ≡ total ps + length rest = cut-total ps h.0 rest h.3 in
    ap length h.1 ∙ (length-append p.bytes h.0 ∙ omega (arith, i))

cut-push : (ps : List Part) (q : Part) (text rest behind : List ℕ) → IsCut ps text rest → rest ≡ q.bytes ++ behind → Stands q.form q.bytes behind → IsCut (ps ++ q ∷ []) text behind
cut-push [] q text rest behind h e s = (behind, h ∙ e, s, refl)
cut-push (p ∷ ps) q text rest behind h e s = (h.0, h.1, h.2, cut-push ps q h.0 rest behind h.3 e s)

tokens-push : (ps : List Part) (q : Part) (at : ℕ) → tokens_of at (ps ++ q ∷ []) ≡ tokens_of at ps ++ tokens_of_lexeme (at + total ps) q.form q.bytes
tokens-push [] q at =
    let z : at + 0 ≡ at = omega arith in
    append-nil (tokens_of_lexeme at q.form q.bytes) ∙ ap (λ n. tokens_of_lexeme n q.form q.bytes) (sym z)
tokens-push (p ∷ ps) q at =
    let i = tokens-push ps q (at + length p.bytes) in
    let z : at + length p.bytes + total ps ≡ at + (length p.bytes + total ps) = omega arith in
    ap (λ ts. tokens_of_lexeme at p.form p.bytes ++ ts) (i ∙ ap (λ n. tokens_of (at + length p.bytes) ps ++ tokens_of_lexeme n q.form q.bytes) z)
    ∙ sym (append_assoc (tokens_of_lexeme at p.form p.bytes) (tokens_of (at + length p.bytes) ps) (tokens_of_lexeme (at + (length p.bytes + total ps)) q.form q.bytes))

-- the text is cut up to the rest, and these are the tokens so far
pub record Reached (text rest : List ℕ) (at : ℕ) (list : List Token) : Type 0 where
  pub parts : List Part
  pub cut : IsCut parts text rest
  pub tokens : list ≡ tokens_of 0 parts
  pub counted : at + length rest ≡ length text

pub reached_none : (text : List ℕ) → Reached text text 0 []
reached_none text = record { parts = []; cut = refl; tokens = refl; counted = omega arith }

front_some : (rest : List ℕ) (p : Lexeme) → front rest ≡ Ok p → 0 < length rest
front_some [] p e = absurd (cc)
front_some (b ∷ bs) p e = omega arith

has_front : (rest : List ℕ) (p : Lexeme) → front rest ≡ Ok p → HasFront p.form p.length rest
has_front rest p e = subst (FrontTells rest) e (tells_some rest (front_some rest p e))

-- one lexeme more
pub reached_more : (text rest : List ℕ) (at : ℕ) (list : List Token) (p : Lexeme) → Reached text rest at list → front rest ≡ Ok p → Reached text (drop p.length rest) (at + p.length) (list ++ tokens_of_lexeme at p.form (take p.length rest))
reached_more text rest at list p r e =
    let h = has_front rest p e in
    let t : take p.length rest ≡ h.bytes = ap (take p.length) h.spelled ∙ take_at h.bytes h.rest p.length h.long in
    let d : drop p.length rest ≡ h.rest = ap (drop p.length) h.spelled ∙ drop_at h.bytes h.rest p.length h.long in
    let q : Part = record { form = p.form; bytes = h.bytes } in
    let n : length text ≡ total r.parts + length rest = cut-total r.parts text rest r.cut in
    let c : length rest ≡ p.length + length h.rest = ap length h.spelled ∙ (length-append h.bytes h.rest ∙ omega (arith, h.long)) in
    let z : 0 + total r.parts ≡ at = omega (arith, n, r.counted) in
    rw (t, d) (record {
      parts = r.parts ++ q ∷ [];
      cut = cut-push r.parts q text rest h.rest r.cut h.spelled (front_stands p rest h e);
      tokens =
          ap (λ ts. ts ++ tokens_of_lexeme at p.form h.bytes) r.tokens
          ∙ (ap (λ m. tokens_of 0 r.parts ++ tokens_of_lexeme m p.form h.bytes) (sym z) ∙ sym (tokens-push r.parts q 0));
      counted = omega (arith, r.counted, c);
    })

-- nothing is left
pub reached_all : (text rest : List ℕ) (at : ℕ) (list : List Token) → Reached text rest at list → length rest ≡ 0 → AreTokens text list
reached_all text rest at list r l =
    record { parts = r.parts; cut = subst (IsCut r.parts text) (nil_from_length rest l) r.cut; tokens = r.tokens }

stops_bad : (text rest : List ℕ) (at n : ℕ) (list : List Token) → Reached text rest at list → IsBad rest n → (has : HasBadByte text (at + n + 1)) × (list ≡ tokens_of 0 has.parts)
stops_bad text rest at n list r bad =
    (record { parts = r.parts; rest = rest; behind = n; cut = r.cut; bad = bad; counted = omega (arith, r.counted) }, r.tokens)

stops_open : (text rest : List ℕ) (at : ℕ) (list : List Token) → Reached text rest at list → IsOpen rest → (has : HasOpenText text (at + 1)) × (list ≡ tokens_of 0 has.parts)
stops_open text rest at list r opens =
    (record { parts = r.parts; rest = rest; cut = r.cut; open_text = opens; counted = omega (arith, r.counted) }, r.tokens)

-- no lexeme is there: the text has a fault, and the tokens so far are those before it
pub reached_fault : (text rest : List ℕ) (at : ℕ) (list : List Token) (s : NoLexeme) → Reached text rest at list → 0 < length rest → front rest ≡ Err s →
    (has : HasFault text (fault_at at s)) × (list ≡ tokens_before text (fault_at at s) has)
reached_fault text rest at list (stop.BadByte n) r l e = stops_bad text rest at n list r (subst (FrontTells rest) e (tells_some rest l))
reached_fault text rest at list stop.OpenText r l e = stops_open text rest at list r (subst (FrontTells rest) e (tells_some rest l))

-- a lexeme has a byte
pub lexeme_some : (rest : List ℕ) (p : Lexeme) → front rest ≡ Ok p → 0 < p.length
lexeme_some rest p e =
    let h = has_front rest p e in
    omega (arith, h.long, form_some p.form h.bytes h.is_form)

-- a comment has its two dashes
line_two : (bytes : List ℕ) → IsLineComment bytes → 2 ≤ length bytes
line_two [] h = absurd h
line_two (b ∷ []) h = absurd h
line_two (b ∷ c ∷ bs) h = omega arith

pub comment_long : (rest : List ℕ) (p : Lexeme) → front rest ≡ Ok p → p.form ≡ form.LineComment → 2 ≤ p.length
comment_long rest p e f =
    let h = has_front rest p e in
    omega (arith, h.long, line_two h.bytes (subst (λ g. IsForm g h.bytes) f h.is_form))

open_not_end : IsOpen [] → ⊥
open_not_end h = elim h as (λ _. ⊥) [ inl a ↦ a | inr k ↦ elim k as (λ _. ⊥) [ inl b ↦ b | inr c ↦ c ] ]

bad_not_end : (n : ℕ) → IsBad [] n → ⊥
bad_not_end n h = let e = bad_front [] n h in cc

-- a text that has tokens has no fault
pub no_fault : (text : List ℕ) (list : List Token) (e : TokenFault) → AreTokens text list → HasFault text e → ⊥
no_fault text list fault.Memory a h = h
no_fault text list (fault.BadByte n) a h =
    let s = one_cut a.parts h.parts text [] h.rest a.cut h.cut stopped_end (stopped_bad h.rest h.behind h.bad) in
    bad_not_end h.behind (subst (λ r. IsBad r h.behind) (sym s.rest) h.bad)
no_fault text list (fault.OpenText n) a h =
    let s = one_cut a.parts h.parts text [] h.rest a.cut h.cut stopped_end (stopped_open h.rest h.open_text) in
    open_not_end (subst IsOpen (sym s.rest) h.open_text)

bad_and_open : (text : List ℕ) (n m : ℕ) → HasBadByte text n → HasOpenText text m → ⊥
bad_and_open text n m a b =
    let s = one_cut a.parts b.parts text a.rest b.rest a.cut b.cut (stopped_bad a.rest a.behind a.bad) (stopped_open b.rest b.open_text) in
    let x = bad_front a.rest a.behind a.bad in
    let y : front a.rest ≡ Err stop.OpenText = ap front s.rest ∙ open_front b.rest b.open_text in
    cc

-- a text has one fault
pub one_fault : (text : List ℕ) (e f : TokenFault) → HasFault text e → HasFault text f → e ≡ f
one_fault text fault.Memory f a b = absurd a
one_fault text (fault.BadByte n) fault.Memory a b = absurd b
one_fault text (fault.OpenText n) fault.Memory a b = absurd b
one_fault text (fault.BadByte n) (fault.OpenText m) a b = absurd (bad_and_open text n m a b)
one_fault text (fault.OpenText n) (fault.BadByte m) a b = absurd (bad_and_open text m n b a)
one_fault text (fault.BadByte n) (fault.BadByte m) a b =
    let s = one_cut a.parts b.parts text a.rest b.rest a.cut b.cut (stopped_bad a.rest a.behind a.bad) (stopped_bad b.rest b.behind b.bad) in
    let x : front a.rest ≡ Err (stop.BadByte a.behind) = bad_front a.rest a.behind a.bad in
    let y : front a.rest ≡ Err (stop.BadByte b.behind) = ap front s.rest ∙ bad_front b.rest b.behind b.bad in
    let k : a.behind ≡ b.behind = cc in
    let l : length a.rest ≡ length b.rest = ap length s.rest in
    ap (λ i. fault.BadByte i) (omega (arith, a.counted, b.counted, k, l))
one_fault text (fault.OpenText n) (fault.OpenText m) a b =
    let s = one_cut a.parts b.parts text a.rest b.rest a.cut b.cut (stopped_open a.rest a.open_text) (stopped_open b.rest b.open_text) in
    let l : length a.rest ≡ length b.rest = ap length s.rest in
    ap (λ i. fault.OpenText i) (omega (arith, a.counted, b.counted, l))
