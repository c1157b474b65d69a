-- Rules that mean the same, though their nested forms may have different rules.
use Rattle.std.proofs.Common.{◌≡◌, ℕ, zero, suc, Bool, true, false, ◌&&◌, List, [], ◌∷◌, ◌++◌, refl, ap, ◌∙◌, subst, inl, inr}
use Rattle.std.proofs.lemmas.Bool.{and_parts}
use Rattle.sql_reader.specs.declared.kind.TerminalKind.{TerminalKind}
use Rattle.sql_reader.specs.declared.terminal.Terminal.{Terminal}
use Rattle.sql_reader.specs.Kinds.{has}
use Rattle.sql_reader.specs.Rule.{Nesting, State, Rule, Give, Take, Then, Use, Either, Many, Nest, Meaning, Turns, IsOver}

-- what two rules lead to is the same, where d and e are the meanings of their nested forms
pub record Same (d e : (x : Nesting) → Meaning (State x) (State x)) {A B : Type 0} (r s : Rule A B) : Type 0 where
  pub there : (a : A) (ps : List Terminal) (b : B) → IsOver d r a ps b → IsOver e s a ps b
  pub back : (a : A) (ps : List Terminal) (b : B) → IsOver e s a ps b → IsOver d r a ps b

-- the rule has no nested forms
abbrev pub flat : {A B : Type 0} → Rule A B → Bool
flat (Give f) = true
flat (Take kinds f) = true
flat (Then first second) = flat first && flat second
flat (Use part rule join) = flat rule
flat (Either kinds left right) = flat left && flat right
flat (Many kinds turn) = flat turn
flat (Nest x) = false

turns_there : (d e : (x : Nesting) → Meaning (State x) (State x)) {A : Type 0} (r s : Rule A A) → ((a : A) (ps : List Terminal) (b : A) → IsOver d r a ps b → IsOver e s a ps b) →
    (n : ℕ) (a : A) (ps : List Terminal) (b : A) → Turns (IsOver d r) n a ps b → Turns (IsOver e s) n a ps b
turns_there d e r s f zero a ps b h = h
turns_there d e r s f (suc n) a ps b (front, back, m, split, h, t) = (front, back, m, split, f a front m h, turns_there d e r s f n m back b t)

flat_there : (d e : (x : Nesting) → Meaning (State x) (State x)) {A B : Type 0} (r : Rule A B) → flat r ≡ true → (a : A) (ps : List Terminal) (b : B) → IsOver d r a ps b → IsOver e r a ps b
flat_there d e (Give f) g a ps b h = h
flat_there d e (Take kinds f) g a ps b h = h
flat_there d e (Then first second) g a ps b (front, back, m, split, h, k) =
    let parts = and_parts (flat first) (flat second) g in
    (front, back, m, split, flat_there d e first parts.0 a front m h, flat_there d e second parts.1 m back b k)
flat_there d e (Use part rule join) g a ps b (m, h, q) = (m, flat_there d e rule g (part a) ps m h, q)
flat_there d e (Either kinds left right) g a ps b (inl h) = inl (flat_there d e left (and_parts (flat left) (flat right) g).0 a ps b h)
flat_there d e (Either kinds left right) g a ps b (inr h) = inr (flat_there d e right (and_parts (flat left) (flat right) g).1 a ps b h)
flat_there d e (Many kinds turn) g a ps b (n, t) = (n, turns_there d e turn turn (flat_there d e turn g) n a ps b t)
flat_there d e (Nest x) g a ps b h = absurd cc

module _ (d e : (x : Nesting) → Meaning (State x) (State x)) where
  -- a rule without nested forms means itself
  pub flat_same : {A B : Type 0} (r : Rule A B) → flat r ≡ true → Same d e r r
  flat_same r g = record { there = flat_there d e r g; back = flat_there e d r g }

  pub give_same : {A B : Type 0} (f : A → B) → Same d e (Give f) (Give f)
  give_same f = record { there = λ a ps b h. h; back = λ a ps b h. h }

  pub take_same : {A B : Type 0} (kinds : List TerminalKind) (f : A → Terminal → B) → Same d e (Take kinds f) (Take kinds f)
  take_same kinds f = record { there = λ a ps b h. h; back = λ a ps b h. h }

  then_there : {A M B : Type 0} (r s : Rule A M) (r2 s2 : Rule M B) → Same d e r s → Same d e r2 s2 → (a : A) (ps : List Terminal) (b : B) → IsOver d (Then r r2) a ps b → IsOver e (Then s s2) a ps b
  then_there r s r2 s2 f g a ps b (front, back, m, split, h, k) = (front, back, m, split, f.there a front m h, g.there m back b k)

  then_back : {A M B : Type 0} (r s : Rule A M) (r2 s2 : Rule M B) → Same d e r s → Same d e r2 s2 → (a : A) (ps : List Terminal) (b : B) → IsOver e (Then s s2) a ps b → IsOver d (Then r r2) a ps b
  then_back r s r2 s2 f g a ps b (front, back, m, split, h, k) = (front, back, m, split, f.back a front m h, g.back m back b k)

  pub then_same : {A M B : Type 0} {r s : Rule A M} {r2 s2 : Rule M B} → Same d e r s → Same d e r2 s2 → Same d e (Then r r2) (Then s s2)
  then_same {r = r} {s = s} {r2 = r2} {s2 = s2} f g = record { there = then_there r s r2 s2 f g; back = then_back r s r2 s2 f g }

  use_there : {A B C D : Type 0} (part : A → B) (r s : Rule B C) (join : A → C → D) → Same d e r s → (a : A) (ps : List Terminal) (b : D) → IsOver d (Use part r join) a ps b → IsOver e (Use part s join) a ps b
  use_there part r s join f a ps b (m, h, q) = (m, f.there (part a) ps m h, q)

  use_back : {A B C D : Type 0} (part : A → B) (r s : Rule B C) (join : A → C → D) → Same d e r s → (a : A) (ps : List Terminal) (b : D) → IsOver e (Use part s join) a ps b → IsOver d (Use part r join) a ps b
  use_back part r s join f a ps b (m, h, q) = (m, f.back (part a) ps m h, q)

  pub use_same : {A B C D : Type 0} {r s : Rule B C} (part : A → B) (join : A → C → D) → Same d e r s → Same d e (Use part r join) (Use part s join)
  use_same {r = r} {s = s} part join f = record { there = use_there part r s join f; back = use_back part r s join f }

  either_there : {A B : Type 0} (ks ks2 : List TerminalKind) (r s r2 s2 : Rule A B) → Same d e r s → Same d e r2 s2 → (a : A) (ps : List Terminal) (b : B) → IsOver d (Either ks r r2) a ps b → IsOver e (Either ks2 s s2) a ps b
  either_there ks ks2 r s r2 s2 f g a ps b (inl h) = inl (f.there a ps b h)
  either_there ks ks2 r s r2 s2 f g a ps b (inr h) = inr (g.there a ps b h)

  either_back : {A B : Type 0} (ks ks2 : List TerminalKind) (r s r2 s2 : Rule A B) → Same d e r s → Same d e r2 s2 → (a : A) (ps : List Terminal) (b : B) → IsOver e (Either ks2 s s2) a ps b → IsOver d (Either ks r r2) a ps b
  either_back ks ks2 r s r2 s2 f g a ps b (inl h) = inl (f.back a ps b h)
  either_back ks ks2 r s r2 s2 f g a ps b (inr h) = inr (g.back a ps b h)

  pub either_same : {A B : Type 0} {r s r2 s2 : Rule A B} (ks ks2 : List TerminalKind) → Same d e r s → Same d e r2 s2 → Same d e (Either ks r r2) (Either ks2 s s2)
  either_same {r = r} {s = s} {r2 = r2} {s2 = s2} ks ks2 f g = record { there = either_there ks ks2 r s r2 s2 f g; back = either_back ks ks2 r s r2 s2 f g }

  many_there : {A : Type 0} (ks ks2 : List TerminalKind) (r s : Rule A A) → Same d e r s → (a : A) (ps : List Terminal) (b : A) → IsOver d (Many ks r) a ps b → IsOver e (Many ks2 s) a ps b
  many_there ks ks2 r s f a ps b (n, t) = (n, turns_there d e r s f.there n a ps b t)

  many_back : {A : Type 0} (ks ks2 : List TerminalKind) (r s : Rule A A) → Same d e r s → (a : A) (ps : List Terminal) (b : A) → IsOver e (Many ks2 s) a ps b → IsOver d (Many ks r) a ps b
  many_back ks ks2 r s f a ps b (n, t) = (n, turns_there e d s r f.back n a ps b t)

  pub many_same : {A : Type 0} {r s : Rule A A} (ks ks2 : List TerminalKind) → Same d e r s → Same d e (Many ks r) (Many ks2 s)
  many_same {r = r} {s = s} ks ks2 f = record { there = many_there ks ks2 r s f; back = many_back ks ks2 r s f }

-- A rule behind one terminal.
module _ (d : (x : Nesting) → Meaning (State x) (State x)) {A M B : Type 0} (kinds : List TerminalKind) (f : A → Terminal → M) (r : Rule M B) (a : A) (ps : List Terminal) (b : B) where
  -- which terminal it is
  pub took : IsOver d (Then (Take kinds f) r) a ps b → (p : Terminal) × (rest : List Terminal) × (has kinds p.kind ≡ true) × (ps ≡ p ∷ rest) × IsOver d r (f a p) rest b
  took (front, back, m, split, (p, k, ef, em), h) =
      (p, back, k, split ∙ ap (λ (x : List Terminal). x ++ back) ef, subst (λ (x : M). IsOver d r x back b) em h)

  pub put : (p : Terminal) (rest : List Terminal) → has kinds p.kind ≡ true → ps ≡ p ∷ rest → IsOver d r (f a p) rest b → IsOver d (Then (Take kinds f) r) a ps b
  put p rest k split h = (p ∷ [], rest, f a p, split, (p, k, refl, refl), h)
