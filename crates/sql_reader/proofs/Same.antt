-- A text says one thing: its tokens, terminals, statements and first fault are determined by it.
use Rattle.std.proofs.Common.{◌≡◌, ℕ, ℤ, ◌^◌, ◌<◌, Bool, true, false, List, [], ◌∷◌, ◌++◌, Option, sym, refl, ap, ◌∙◌, subst, ◌⊎◌, inl, inr, append_assoc, append-nil}
use Rattle.std.specs.Option.{ForSome}
use Rattle.std.specs.Prelude.{pos, neg_ℤ, ◌<ℤ◌}
use denote.Struct.Props.{props}
use mathlib.Core.HLevel.{is_prop→PathP}
use Rattle.sql_tokens.specs.declared.token.Span.{Span}
use Rattle.sql_tokens.specs.declared.token.Token.{Token}
use Rattle.sql_reader.specs.declared.terminal.Terminal.{Terminal}
use Rattle.sql_reader.specs.declared.terminal.Mark.{Mark}
use Rattle.sql_reader.specs.Terminals.{AreTerminals, IsTerminal, WithToken, mark_behind, is_weight}
use Rattle.sql_reader.specs.Rule.{Meaning}
use Rattle.sql_reader.specs.Exact.{GoesOn, NoneGoesOn, FailsAt}

least_prop : (number : Option ℤ) → IsProp (ForSome number (λ n. neg_ℤ (pos (10 ^ 18)) <ℤ n))
least_prop number = hlevel props

most_prop : (number : Option ℤ) → IsProp (ForSome number (λ n. n <ℤ pos (10 ^ 18)))
most_prop number = hlevel props

placed_prop : (s : Span) → IsProp (s.from < 2 ^ 32)
placed_prop s = hlevel props

-- terminals with the same parts are the same
same_terminal : (p q : Terminal) → p.kind ≡ q.kind → p.span ≡ q.span → p.number ≡ q.number → p.mark ≡ q.mark → p ≡ q
same_terminal p q kind span number mark =
    let least = is_prop→PathP (λ i. ForSome (number i) (λ n. neg_ℤ (pos (10 ^ 18)) <ℤ n)) (λ i. least_prop (number i)) p.least q.least in
    let most = is_prop→PathP (λ i. ForSome (number i) (λ n. n <ℤ pos (10 ^ 18))) (λ i. most_prop (number i)) p.most q.most in
    let placed = is_prop→PathP (λ i. (span i).from < 2 ^ 32) (λ i. placed_prop (span i)) p.placed q.placed in
    λ i. record { kind = kind i; span = span i; number = number i; mark = mark i; least = least i; most = most i; placed = placed i }

pub one_terminal : (text : List ℕ) (mark : Mark) (t : Token) (p q : Terminal) → IsTerminal text mark t p → IsTerminal text mark t q → p ≡ q
one_terminal text mark t p q a b =
    same_terminal p q (a.kind ∙ sym b.kind) (a.span ∙ sym b.span) (a.number ∙ sym b.number) (a.mark_is ∙ sym b.mark_is)

with_one_token : (text : List ℕ) (mark : Mark) (t : Token) (behind : Mark → List Terminal → Type 0) →
    ((m : Mark) (ps qs : List Terminal) → behind m ps → behind m qs → ps ≡ qs) → (weight : Bool) (ps qs : List Terminal) →
    WithToken text mark t behind weight ps → WithToken text mark t behind weight qs → ps ≡ qs
with_one_token text mark t behind one true ps qs a b = one (mark_behind text t mark) ps qs a b
with_one_token text mark t behind one false ps qs (p, more, e, is, h) (q, others, f, is_q, k) =
    let first = one_terminal text mark t p q is is_q in
    let rest = one mark more others h k in
    cc

-- tokens are one list of terminals
pub one_terminals : (text : List ℕ) (tokens : List Token) (mark : Mark) (ps qs : List Terminal) → AreTerminals text tokens mark ps → AreTerminals text tokens mark qs → ps ≡ qs
one_terminals text [] mark ps qs a b = a ∙ sym b
one_terminals text (t ∷ ts) mark ps qs a b = with_one_token text mark t (AreTerminals text ts) (one_terminals text ts) (is_weight t.kind) ps qs a b

-- the first front is the shorter
Shorter : List Terminal → List Terminal → List Terminal → Type 0
Shorter front other rest = (p : Terminal) × (mid behind : List Terminal) × (other ≡ front ++ p ∷ mid) × (rest ≡ p ∷ behind)

-- of two ways to part a list one front is the shorter, or what is behind is the same
parted : (front other rest behind : List Terminal) → front ++ rest ≡ other ++ behind → (rest ≡ behind) ⊎ (Shorter front other rest ⊎ Shorter other front behind)
unfolding Shorter
parted [] [] rest behind e = inl e
parted [] (q ∷ other) rest behind e = inr (inl (q, other, other ++ behind, refl, e))
parted (p ∷ front) [] rest behind e = inr (inr (p, front, front ++ rest, refl, sym e))
parted (p ∷ front) (q ∷ other) rest behind e = longer (parted front other rest behind cc)
  where
    same : p ≡ q
    same = cc

    longer : (rest ≡ behind) ⊎ (Shorter front other rest ⊎ Shorter other front behind) →
        (rest ≡ behind) ⊎ (Shorter (p ∷ front) (q ∷ other) rest ⊎ Shorter (q ∷ other) (p ∷ front) behind)
    longer (inl h) = inl h
    longer (inr (inl (x, mid, more, f, g))) = inr (inl (x, mid, more, cc, g))
    longer (inr (inr (x, mid, more, f, g))) = inr (inr (x, mid, more, cc, g))

-- where nothing goes on, nothing longer does
not_longer : {A B : Type 0} (is : Meaning A B) (a : A) (front other rest : List Terminal) → NoneGoesOn is a front rest → GoesOn is a other → Shorter front other rest → ⊥
unfolding Shorter
not_longer is a front other rest none (more, b, h) (p, mid, behind, f, g) =
    subst (λ (r : List Terminal). NoneGoesOn is a front r) g none p (mid ++ more) b refl
    (subst (λ (ps : List Terminal). is a ps b) (ap (λ (ps : List Terminal). ps ++ more) f ∙ append_assoc front (p ∷ mid) more) h)

-- terminals fail at one place
pub one_failure : {A B : Type 0} (is : Meaning A B) (a : A) (terminals rest behind : List Terminal) → FailsAt is a terminals rest → FailsAt is a terminals behind → rest ≡ behind
one_failure is a terminals rest behind x y = by_parts (parted x.front y.front rest behind (sym x.split ∙ y.split))
  where
    by_parts : (rest ≡ behind) ⊎ (Shorter x.front y.front rest ⊎ Shorter y.front x.front behind) → rest ≡ behind
    by_parts (inl h) = h
    by_parts (inr (inl h)) = absurd (not_longer is a x.front y.front rest x.none y.before h)
    by_parts (inr (inr h)) = absurd (not_longer is a y.front x.front behind y.none x.before h)

-- what is meant doesn't fail
pub meant_or_fails : {A B : Type 0} (is : Meaning A B) (a : A) (terminals rest : List Terminal) (b : B) → is a terminals b → FailsAt is a terminals rest → ⊥
meant_or_fails {A} {B} is a terminals rest b h x = by_rest rest x.none (subst (λ (ps : List Terminal). is a ps b) x.split h)
  where
    by_rest : (r : List Terminal) → NoneGoesOn is a x.front r → is a (x.front ++ r) b → ⊥
    by_rest [] none k = none b (subst (λ (ps : List Terminal). is a ps b) (append-nil x.front) k)
    by_rest (p ∷ r) none k = none p r b refl k
