-- What reading keeps: where each step of a rule makes of what is known before what is known after, so does the rule.
use Rattle.std.proofs.Common.{◌≡◌, ℕ, zero, suc, ◌+◌, ◌<◌, ◌≤◌, true, List, [], ◌∷◌, ◌++◌, sym, refl, ap, ◌∙◌, subst, inl, inr, arith}
use Rattle.sql_reader.specs.declared.kind.TerminalKind.{TerminalKind}
use Rattle.sql_reader.specs.declared.terminal.Terminal.{Terminal}
use Rattle.sql_reader.specs.Kinds.{has}
use Rattle.sql_reader.specs.Rule.{Nesting, State, Rule, Give, Take, Then, Use, Either, Many, Meaning, Turns, IsOver}

-- what is known of a value, by the weight of the terminals that were read for it
abbrev pub Known : Type 0 → Type 1
Known A = ℕ → A → Type 0

-- nothing is known
abbrev pub Free : {A : Type 0} → ℕ → A → Type 0
Free k a = Unit {0}

-- What each terminal weighs, what all terminals stay below, what is known of each terminal, and what nested forms mean.
pub record Scale : Type 1 where
  pub weigh : Terminal → ℕ
  pub limit : ℕ
  pub Good : Terminal → Type 0
  pub deeper : (x : Nesting) → Meaning (State x) (State x)

abbrev pub weight_of : Scale → List Terminal → ℕ
weight_of c [] = 0
weight_of c (p ∷ ps) = c.weigh p + weight_of c ps

abbrev pub AllGood : Scale → List Terminal → Type 0
AllGood c [] = Unit {0}
AllGood c (p ∷ ps) = c.Good p × AllGood c ps

-- the rule makes Q of P
pub record Keeps (c : Scale) {A B : Type 0} (P : Known A) (r : Rule A B) (Q : Known B) : Type 0 where
  pub keeps : (k j : ℕ) (a : A) (ps : List Terminal) (b : B) → j ≡ k + weight_of c ps → j < c.limit → AllGood c ps → P k a → IsOver c.deeper r a ps b → Q j b

weight-append : (c : Scale) (xs ys : List Terminal) → weight_of c (xs ++ ys) ≡ weight_of c xs + weight_of c ys
weight-append c [] ys = omega arith
weight-append c (p ∷ xs) ys = omega (arith, weight-append c xs ys)

good_parts : (c : Scale) (xs ys : List Terminal) → AllGood c (xs ++ ys) → AllGood c xs × AllGood c ys
good_parts c [] ys h = (tt, h)
good_parts c (p ∷ xs) ys (g, h) = let parts = good_parts c xs ys h in ((g, parts.0), parts.1)

-- where two parts of terminals are read one behind the other
record Parted (c : Scale) (k j : ℕ) (front back : List Terminal) : Type 0 where
  middle : ℕ
  first : middle ≡ k + weight_of c front
  second : j ≡ middle + weight_of c back
  room : middle < c.limit
  good_front : AllGood c front
  good_back : AllGood c back

parted : (c : Scale) (k j : ℕ) (ps front back : List Terminal) → ps ≡ front ++ back → j ≡ k + weight_of c ps → j < c.limit → AllGood c ps → Parted c k j front back
parted c k j ps front back split e room good =
    let sum : weight_of c ps ≡ weight_of c front + weight_of c back = ap (weight_of c) split ∙ weight-append c front back in
    let both = good_parts c front back (subst (AllGood c) split good) in
    record {
      middle = k + weight_of c front;
      first = refl;
      second = omega (arith, e, sum);
      room = omega (arith, e, sum, room);
      good_front = both.0;
      good_back = both.1;
    }

nothing_read : (c : Scale) (k j : ℕ) (ps : List Terminal) → ps ≡ [] → j ≡ k + weight_of c ps → k ≡ j
nothing_read c k j [] nil e = omega (arith, e)
nothing_read c k j (p ∷ ps) nil e = absurd cc

one_read : (c : Scale) (k j : ℕ) (ps : List Terminal) (p : Terminal) → ps ≡ p ∷ [] → j ≡ k + weight_of c ps → k + c.weigh p ≡ j
one_read c k j ps p one e = let sum : weight_of c ps ≡ c.weigh p + 0 = ap (weight_of c) one in omega (arith, e, sum)

turns_keep : (c : Scale) {A : Type 0} (P : Known A) (r : Rule A A) → Keeps c P r P →
    (n k j : ℕ) (a : A) (ps : List Terminal) (b : A) → j ≡ k + weight_of c ps → j < c.limit → AllGood c ps → P k a → Turns (IsOver c.deeper r) n a ps b → P j b
turns_keep c P r f zero k j a ps b e room good known (nil, same) =
    subst (λ x. P j x) (sym same) (subst (λ i. P i a) (nothing_read c k j ps nil e) known)
turns_keep c P r f (suc n) k j a ps b e room good known (front, back, m, split, h, t) =
    let p = parted c k j ps front back split e room good in
    turns_keep c P r f n p.middle j m back b p.second room p.good_back (f.keeps k p.middle a front m p.first p.room p.good_front known h) t

module _ (c : Scale) where
  pub give_keeps : {A B : Type 0} {P : Known A} {Q : Known B} {f : A → B} → ((k : ℕ) (a : A) → k < c.limit → P k a → Q k (f a)) → Keeps c P (Give f) Q
  give_keeps {P = P} {Q = Q} {f = f} step = record {
    keeps = λ k j a ps b e room good known is.
        let same = nothing_read c k j ps is.0 e in
        subst (λ x. Q j x) (sym is.1) (subst (λ i. Q i (f a)) same (step k a (subst (λ i. i < c.limit) (sym same) room) known));
  }

  pub take_keeps : {A B : Type 0} {P : Known A} {Q : Known B} {kinds : List TerminalKind} {f : A → Terminal → B} →
      ((k : ℕ) (a : A) (p : Terminal) → k + c.weigh p < c.limit → has kinds p.kind ≡ true → c.Good p → P k a → Q (k + c.weigh p) (f a p)) → Keeps c P (Take kinds f) Q
  take_keeps {P = P} {Q = Q} {kinds = kinds} {f = f} step = record {
    keeps = λ k j a ps b e room good known is.
        let (p, among, one, same_value) = is in
        let same = one_read c k j ps p one e in
        let good_one : c.Good p = (subst (AllGood c) one good).0 in
        subst (λ x. Q j x) (sym same_value) (subst (λ i. Q i (f a p)) same (step k a p (subst (λ i. i < c.limit) (sym same) room) among good_one known));
  }

  pub then_keeps : {A M B : Type 0} {P : Known A} {Q : Known B} {r : Rule A M} {s : Rule M B} (R : Known M) → Keeps c P r R → Keeps c R s Q → Keeps c P (Then r s) Q
  then_keeps R f g = record {
    keeps = λ k j a ps b e room good known is.
        let (front, back, m, split, h, t) = is in
        let p = parted c k j ps front back split e room good in
        g.keeps p.middle j m back b p.second room p.good_back (f.keeps k p.middle a front m p.first p.room p.good_front known h) t;
  }

  -- a rule that is read from a part of what is known, as if nothing were read before
  pub use_keeps : {A B C D : Type 0} {P : Known A} {Q : Known D} {part : A → B} {r : Rule B C} {join : A → C → D} (P2 : Known B) (Q2 : Known C) → Keeps c P2 r Q2 →
      ((k : ℕ) (a : A) → P k a → P2 0 (part a)) → ((k i : ℕ) (a : A) (m : C) → k + i < c.limit → P k a → Q2 i m → Q (k + i) (join a m)) → Keeps c P (Use part r join) Q
  use_keeps {P = P} {Q = Q} {part = part} {r = r} {join = join} P2 Q2 f start step = record {
    keeps = λ k j a ps b e room good known is.
        let (m, h, same) = is in
        let after = f.keeps 0 (weight_of c ps) (part a) ps m (omega arith) (omega (arith, e, room)) good (start k a known) h in
        subst (λ x. Q j x) (sym same) (subst (λ i. Q i (join a m)) (sym e) (step k (weight_of c ps) a m (subst (λ i. i < c.limit) e room) known after));
  }

  -- a rule that is read from a part of what is known, and goes on from what was read before
  pub part_keeps : {A B C D : Type 0} {P : Known A} {Q : Known D} {part : A → B} {r : Rule B C} {join : A → C → D} (P2 : Known B) (Q2 : Known C) → Keeps c P2 r Q2 →
      ((k : ℕ) (a : A) → P k a → P2 k (part a)) → ((k j : ℕ) (a : A) (m : C) → k ≤ j → j < c.limit → P k a → Q2 j m → Q j (join a m)) → Keeps c P (Use part r join) Q
  part_keeps {P = P} {Q = Q} {part = part} {r = r} {join = join} P2 Q2 f start step = record {
    keeps = λ k j a ps b e room good known is.
        let (m, h, same) = is in
        subst (λ x. Q j x) (sym same) (step k j a m (omega (arith, e)) room known (f.keeps k j (part a) ps m e room good (start k a known) h));
  }

  pub either_keeps : {A B : Type 0} {P : Known A} {Q : Known B} {kinds : List TerminalKind} {r s : Rule A B} → Keeps c P r Q → Keeps c P s Q → Keeps c P (Either kinds r s) Q
  either_keeps f g = record {
    keeps = λ k j a ps b e room good known is. elim is [
      | inl h ↦ f.keeps k j a ps b e room good known h
      | inr h ↦ g.keeps k j a ps b e room good known h
    ];
  }

  pub many_keeps : {A : Type 0} {P : Known A} {kinds : List TerminalKind} {r : Rule A A} → Keeps c P r P → Keeps c P (Many kinds r) P
  many_keeps {P = P} {r = r} f = record {
    keeps = λ k j a ps b e room good known is. turns_keep c P r f is.0 k j a ps b e room good known is.1;
  }

  -- what is known before may be more, and what is known after less
  pub known_keeps : {A B : Type 0} {P P2 : Known A} {Q Q2 : Known B} {r : Rule A B} → ((k : ℕ) (a : A) → P2 k a → P k a) → ((k : ℕ) (b : B) → Q k b → Q2 k b) → Keeps c P r Q → Keeps c P2 r Q2
  known_keeps before after f = record {
    keeps = λ k j a ps b e room good known is. after j b (f.keeps k j a ps b e room good (before k a known) is);
  }

  pub free_keeps : {A B : Type 0} {P : Known A} {r : Rule A B} → Keeps c P r Free
  free_keeps = record { keeps = λ k j a ps b e room good known is. tt }
