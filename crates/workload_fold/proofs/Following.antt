-- Reading follows: terminals that agree are read alike.
use Rattle.std.proofs.Common.{◌≡◌, ℕ, zero, suc, true, List, [], ◌∷◌, ◌++◌, sym, refl, subst, inl, inr}
use Rattle.sql_reader.specs.declared.kind.TerminalKind.{TerminalKind}
use Rattle.sql_reader.specs.declared.terminal.Terminal.{Terminal}
use Rattle.sql_reader.specs.Kinds.{has}
use Rattle.sql_reader.specs.Rule.{Nesting, State, Rule, Give, Take, Then, Use, Either, Many, Meaning, Turns, IsOver}
use Rattle.sql_reader.specs.Printed as printed
use Rattle.workload_fold.specs.Pairs.{Pairs}

-- when terminals agree, which are of one kind then, and what nested forms mean
pub record Kin : Type 1 where
  pub Agree : Terminal → Terminal → Type 0
  pub kind : (p q : Terminal) → Agree p q → p.kind ≡ q.kind
  pub deeper : (x : Nesting) → Meaning (State x) (State x)

-- nothing is asked
abbrev pub Any : {A : Type 0} → A → A → Type 0
Any a c = Unit {0}

-- where terminals lead from a to b, such as agree lead from what is like a to what is like b
pub record Follows (k : Kin) {A B : Type 0} (P : A → A → Type 0) (r : Rule A B) (Q : B → B → Type 0) : Type 0 where
  pub follows : (a c : A) (ps qs : List Terminal) (b : B) → P a c → Pairs k.Agree ps qs → IsOver k.deeper r a ps b → (d : B) × IsOver k.deeper r c qs d × Q b d

none_there : {X Y : Type 0} (R : X → Y → Type 0) (xs : List X) (ys : List Y) → Pairs R xs ys → xs ≡ [] → ys ≡ []
none_there R [] [] h e = refl
none_there R [] (y ∷ ys) h e = absurd h
none_there R (x ∷ xs) ys h e = absurd cc

pub record OneThere {X Y : Type 0} (R : X → Y → Type 0) (x : X) (ys : List Y) : Type 0 where
  pub y : Y
  pub is : ys ≡ y ∷ []
  pub agree : R x y

one_there : {X Y : Type 0} (R : X → Y → Type 0) (x : X) (ys : List Y) → Pairs R (x ∷ []) ys → OneThere R x ys
one_there R x [] h = absurd h
one_there R x (y ∷ []) h = record { y = y; is = refl; agree = h.0 }
one_there R x (y ∷ z ∷ zs) h = absurd h.1

pub record PartsThere {X Y : Type 0} (R : X → Y → Type 0) (front back : List X) (ys : List Y) : Type 0 where
  pub first : List Y
  pub second : List Y
  pub split : ys ≡ first ++ second
  pub fronts : Pairs R front first
  pub backs : Pairs R back second

pub parts_there : {X Y : Type 0} (R : X → Y → Type 0) (front back : List X) (ys : List Y) → Pairs R (front ++ back) ys → PartsThere R front back ys
parts_there R [] back ys h = record { first = []; second = ys; split = refl; fronts = tt; backs = h }
parts_there R (x ∷ front) back [] h = absurd h
parts_there R (x ∷ front) back (y ∷ ys) h =
    let rest = parts_there R front back ys h.1 in
    record { first = y ∷ rest.first; second = rest.second; split = λ i. y ∷ rest.split i; fronts = (h.0, rest.fronts); backs = rest.backs }

pub pairs_push : {X Y : Type 0} (R : X → Y → Type 0) (xs : List X) (ys : List Y) (x : X) (y : Y) → Pairs R xs ys → R x y → Pairs R (xs ++ x ∷ []) (ys ++ y ∷ [])
pairs_push R [] [] x y h k = (k, tt)
pairs_push R [] (z ∷ ys) x y h k = absurd h
pairs_push R (w ∷ xs) [] x y h k = absurd h
pairs_push R (w ∷ xs) (z ∷ ys) x y h k = (h.0, pairs_push R xs ys x y h.1 k)

turns_follow : (k : Kin) {A : Type 0} (P : A → A → Type 0) (r : Rule A A) → Follows k P r P → (n : ℕ) (a c : A) (ps qs : List Terminal) (b : A) → P a c → Pairs k.Agree ps qs
    → Turns (IsOver k.deeper r) n a ps b → (d : A) × Turns (IsOver k.deeper r) n c qs d × P b d
turns_follow k P r f zero a c ps qs b known agree (nil, same) =
    (c, (none_there k.Agree ps qs agree nil, refl), subst (λ (x : _). P x c) (sym same) known)
turns_follow k P r f (suc n) a c ps qs b known agree (front, back, m, split, h, t) =
    let parts = parts_there k.Agree front back qs (subst (λ (xs : List Terminal). Pairs k.Agree xs qs) split agree) in
    let one = f.follows a c front parts.first m known parts.fronts h in
    let rest = turns_follow k P r f n m one.0 back parts.second b one.2 parts.backs t in
    (rest.0, (parts.first, parts.second, one.0, parts.split, one.1, rest.1), rest.2)

module _ (k : Kin) where
  pub give_follows : {A B : Type 0} {P : A → A → Type 0} {Q : B → B → Type 0} {f : A → B} → ((a c : A) → P a c → Q (f a) (f c)) → Follows k P (Give f) Q
  give_follows {Q = Q} {f = f} step = record {
    follows = λ a c ps qs b known agree is. (f c, (none_there k.Agree ps qs agree is.0, refl), subst (λ x. Q x (f c)) (sym is.1) (step a c known));
  }

  pub take_follows : {A B : Type 0} {P : A → A → Type 0} {Q : B → B → Type 0} {kinds : List TerminalKind} {f : A → Terminal → B}
      → ((a c : A) (p q : Terminal) → k.Agree p q → P a c → Q (f a p) (f c q)) → Follows k P (Take kinds f) Q
  take_follows {P = P} {Q = Q} {kinds = kinds} {f = f} step = record {
    follows = λ a c ps qs b known agree is.
        let (p, among, one, same) = is in
        let there = one_there k.Agree p qs (subst (λ (xs : List Terminal). Pairs k.Agree xs qs) one agree) in
        (f c there.y, (there.y, subst (λ (x : TerminalKind). has kinds x ≡ true) (k.kind p there.y there.agree) among, there.is, refl), subst (λ x. Q x (f c there.y)) (sym same) (step a c p there.y there.agree known));
  }

  pub then_follows : {A M B : Type 0} {P : A → A → Type 0} {Q : B → B → Type 0} {r : Rule A M} {s : Rule M B} (R : M → M → Type 0) → Follows k P r R → Follows k R s Q → Follows k P (Then r s) Q
  then_follows R f g = record {
    follows = λ a c ps qs b known agree is.
        let (front, back, m, split, h, t) = is in
        let parts = parts_there k.Agree front back qs (subst (λ (xs : List Terminal). Pairs k.Agree xs qs) split agree) in
        let one = f.follows a c front parts.first m known parts.fronts h in
        let two = g.follows m one.0 back parts.second b one.2 parts.backs t in
        (two.0, (parts.first, parts.second, one.0, parts.split, one.1, two.1), two.2);
  }

  pub use_follows : {A B C D : Type 0} {P : A → A → Type 0} {Q : D → D → Type 0} {part : A → B} {r : Rule B C} {join : A → C → D} (P2 : B → B → Type 0) (Q2 : C → C → Type 0) → Follows k P2 r Q2
      → ((a c : A) → P a c → P2 (part a) (part c)) → ((a c : A) (m n : C) → P a c → Q2 m n → Q (join a m) (join c n)) → Follows k P (Use part r join) Q
  use_follows {Q = Q} {part = part} {join = join} P2 Q2 f start step = record {
    follows = λ a c ps qs b known agree is.
        let (m, h, same) = is in
        let inner = f.follows (part a) (part c) ps qs m (start a c known) agree h in
        (join c inner.0, (inner.0, inner.1, refl), subst (λ x. Q x (join c inner.0)) (sym same) (step a c m inner.0 known inner.2));
  }

  pub either_follows : {A B : Type 0} {P : A → A → Type 0} {Q : B → B → Type 0} {kinds : List TerminalKind} {r s : Rule A B} → Follows k P r Q → Follows k P s Q → Follows k P (Either kinds r s) Q
  either_follows f g = record {
    follows = λ a c ps qs b known agree is. elim is [
      | inl h ↦ (let x = f.follows a c ps qs b known agree h in (x.0, inl x.1, x.2))
      | inr h ↦ (let x = g.follows a c ps qs b known agree h in (x.0, inr x.1, x.2))
    ];
  }

  pub many_follows : {A : Type 0} {P : A → A → Type 0} {kinds : List TerminalKind} {r : Rule A A} → Follows k P r P → Follows k P (Many kinds r) P
  many_follows {P = P} {r = r} f = record {
    follows = λ a c ps qs b known agree is.
        let x = turns_follow k P r f is.0 a c ps qs b known agree is.1 in
        (x.0, (is.0, x.1), x.2);
  }

  -- a word or sign that says no more than that it stands there
  pub word_follows : {A : Type 0} {P : A → A → Type 0} {kind : TerminalKind} → Follows k P (printed.word kind) P
  word_follows = take_follows (λ a c p q agree known. known)

  pub maybe_follows : {A : Type 0} {P : A → A → Type 0} {r : Rule A A} → Follows k P r P → Follows k P (printed.maybe r) P
  maybe_follows f = either_follows f (give_follows (λ a c known. known))

  -- rule { "," rule }
  pub commas_follow : {A : Type 0} {P : A → A → Type 0} {r : Rule A A} → Follows k P r P → Follows k P (printed.commas r) P
  commas_follow {P = P} f = then_follows P f (many_follows (then_follows P word_follows f))

  pub behind_follows : {X : Type 0} {r : Rule (Unit {0}) X} (R : X → X → Type 0) → Follows k Any r R → Follows k (Pairs R) (printed.behind r) (Pairs R)
  behind_follows R f = use_follows Any R f (λ a c known. tt) (λ xs ys x y known new. pairs_push R xs ys x y known new)
