-- A text has one cut, and so one list of tokens or one fault.
use Rattle.std.proofs.Common.{◌≡◌, ℕ, List, [], ◌∷◌, ◌++◌, length, take, drop, Ok, refl, ap, sym, ◌∙◌, subst}
use Rattle.std.proofs.lemmas.List.{take_at, drop_at}
use Rattle.sql_tokens.specs.Front.{front, lexeme}
use Rattle.sql_tokens.specs.Cut.{IsOpen, IsBad, Stands, Part, IsCut, tokens_of, AreTokens}
use Rattle.sql_tokens.specs.declared.token.Token.{Token}
use Rattle.sql_tokens.specs.declared.lexeme.Form.{Form}
use Rattle.sql_tokens.specs.declared.lexeme.Lexeme.{Lexeme}
use Rattle.sql_tokens.proofs.Exact.{stands_front, open_front, bad_front}

-- no lexeme stands there
abbrev pub IsStopped : List ℕ → Type 0
IsStopped rest = (p : Lexeme) → front rest ≡ Ok p → ⊥

pub stopped_end : IsStopped []
stopped_end p e = cc

pub stopped_open : (rest : List ℕ) → IsOpen rest → IsStopped rest
stopped_open rest h p e = let x = open_front rest h in cc

pub stopped_bad : (rest : List ℕ) (n : ℕ) → IsBad rest n → IsStopped rest
stopped_bad rest n h p e = let x = bad_front rest n h in cc

part : Form → List ℕ → Part
part f bytes = record { form = f; bytes = bytes }

heads : (p q : Part) (ps qs : List Part) → p.form ≡ q.form → p.bytes ≡ q.bytes → ps ≡ qs → p ∷ ps ≡ q ∷ qs
unfolding part
heads p q ps qs f b t = ap (λ g. part g p.bytes ∷ ps) f ∙ (ap (λ c. part q.form c ∷ ps) b ∙ ap (λ rs. q ∷ rs) t)

-- what two cuts that can't go on have in common: all
pub record Same (ps qs : List Part) (r s : List ℕ) : Type 0 where
  pub parts : ps ≡ qs
  pub rest : r ≡ s

front_of : (p : Part) (behind text : List ℕ) → text ≡ p.bytes ++ behind → Stands p.form p.bytes behind → front text ≡ Ok (lexeme p.form (length p.bytes))
front_of p behind text e h = ap front e ∙ stands_front p.form p.bytes behind h

pub one_cut : (ps qs : List Part) (text r s : List ℕ) → IsCut ps text r → IsCut qs text s → IsStopped r → IsStopped s → Same ps qs r s
one_cut [] [] text r s a b x y = record { parts = refl; rest = sym a ∙ b }
one_cut [] (q ∷ qs) text r s a b x y =
    absurd (x (lexeme q.form (length q.bytes)) (ap front (sym a) ∙ front_of q b.0 text b.1 b.2))
one_cut (p ∷ ps) [] text r s a b x y =
    absurd (y (lexeme p.form (length p.bytes)) (ap front (sym b) ∙ front_of p a.0 text a.1 a.2))
one_cut (p ∷ ps) (q ∷ qs) text r s a b x y =
    let f : front text ≡ Ok (lexeme p.form (length p.bytes)) = front_of p a.0 text a.1 a.2 in
    let g : front text ≡ Ok (lexeme q.form (length q.bytes)) = front_of q b.0 text b.1 b.2 in
    let e : lexeme p.form (length p.bytes) ≡ lexeme q.form (length q.bytes) = cc in
    let forms : p.form ≡ q.form = ap (λ (z : Lexeme). z.form) e in
    let lengths : length p.bytes ≡ length q.bytes = ap (λ (z : Lexeme). z.length) e in
    let t : p.bytes ++ a.0 ≡ q.bytes ++ b.0 = sym a.1 ∙ b.1 in
    let bytes : p.bytes ≡ q.bytes =
    sym (take_at p.bytes a.0 (length p.bytes) refl) ∙ (ap (take (length p.bytes)) t ∙ take_at q.bytes b.0 (length p.bytes) (sym lengths)) in
    let behinds : a.0 ≡ b.0 =
    sym (drop_at p.bytes a.0 (length p.bytes) refl) ∙ (ap (drop (length p.bytes)) t ∙ drop_at q.bytes b.0 (length p.bytes) (sym lengths)) in
    let c : IsCut ps b.0 r = subst (λ z. IsCut ps z r) behinds a.3 in
    let i : Same ps qs r s = one_cut ps qs b.0 r s c b.3 x y in
    record { parts = heads p q ps qs forms bytes i.parts; rest = i.rest }

pub one_list : (text : List ℕ) (a b : List Token) → AreTokens text a → AreTokens text b → a ≡ b
one_list text a b x y =
    let s : Same x.parts y.parts [] [] = one_cut x.parts y.parts text [] [] x.cut y.cut stopped_end stopped_end in
    x.tokens ∙ (ap (tokens_of 0) s.parts ∙ sym y.tokens)
