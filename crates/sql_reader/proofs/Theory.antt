-- What good rules have, whatever they read.
use Rattle.std.proofs.Common.{◌≡◌, ℕ, zero, suc, ◌≤◌, Bool, true, false, not, List, [], ◌∷◌, ◌++◌, length, sym, refl, ap, ◌∙◌, subst, ◌⊎◌, inl, inr, arith, length-append, append-nil, append_assoc, if◌then◌else◌, None, le_refl}
use Rattle.std.proofs.lemmas.Bool.{and_parts, or_parts, or_left, or_right, not-true}
use Rattle.std.proofs.lemmas.List.{append_cancel_right}
use Rattle.sql_reader.specs.declared.kind.TerminalKind.{TerminalKind}
use Rattle.sql_reader.specs.declared.terminal.Terminal.{Terminal}
use Rattle.sql_reader.specs.Kinds.{has, apart, within}
use Rattle.sql_reader.specs.Rule.{Nesting, State, Rule, Give, Take, Then, Use, Either, Many, Nest, Meaning, Turns, IsOver, Reading, Read, Stuck, ◌>>=◌, begins, Reader, repeated, read_over, Borders, may_be_empty, first_of_rule, more_of_rule, not_empty, closes, good}
use Rattle.sql_reader.proofs.KindSets.{not_both, not_in_other, not_in_first, in_wider, has-append, begins-append, nil_parts, no_front, same_itself}

-- what is left behind a reading
abbrev pub left_of : {B : Type 0} → Reading B → List Terminal
left_of (Read b rest) = rest
left_of (Stuck rest) = rest

-- the same reading, with other terminals behind it
abbrev pub moved : {B : Type 0} → List Terminal → Reading B → Reading B
moved rest (Read b old) = Read b rest
moved rest (Stuck old) = Stuck rest

-- both are empty, or begin with a terminal of one kind
abbrev pub SameHead : List Terminal → List Terminal → Type 0
SameHead [] [] = Unit {0}
SameHead [] (q ∷ qs) = ⊥
SameHead (p ∷ ps) [] = ⊥
SameHead (p ∷ ps) (q ∷ qs) = p.kind ≡ q.kind

-- nothing, or the front of something that is meant
abbrev pub Viable : {A B : Type 0} → Meaning A B → A → List Terminal → Type 0
Viable {A} {B} is a front = (front ≡ []) ⊎ ((more : List Terminal) × (b : B) × is a (front ++ more) b)

-- A reading is right: what was read is meant, or it is the front of something that is meant.
abbrev pub Explains : {A B : Type 0} → Meaning A B → A → List Terminal → Reading B → Type 0
Explains is a terminals (Read b rest) = (front : List Terminal) × (terminals ≡ front ++ rest) × is a front b
Explains is a terminals (Stuck rest) = (front : List Terminal) × (terminals ≡ front ++ rest) × Viable is a front

-- what the theorem says of the nested forms
pub record Sensible (borders : Borders) (deeper : (x : Nesting) → Meaning (State x) (State x)) (reader : (x : Nesting) → Reader (State x) (State x)) : Type 0 where
  pub something : (x : Nesting) (a b : State x) → deeper x a [] b → ⊥
  pub begun : (x : Nesting) (a : State x) (p : Terminal) (ps : List Terminal) (b : State x) → deeper x a (p ∷ ps) b → has (borders.first x) p.kind ≡ true
  pub right : (x : Nesting) (a : State x) (ps : List Terminal) → Explains (deeper x) a ps (reader x a ps)
  pub complete : (x : Nesting) (a : State x) (front : List Terminal) (b : State x) (rest : List Terminal) → deeper x a front b → begins (borders.more x) rest ≡ false → reader x a (front ++ rest) ≡ Read b rest
  pub local : (x : Nesting) (a : State x) (front rest other : List Terminal) → SameHead rest other → left_of (reader x a (front ++ rest)) ≡ rest → reader x a (front ++ other) ≡ moved other (reader x a (front ++ rest))

-- what is explained by one meaning is explained by a wider one
explains_more : {A B : Type 0} (is other : Meaning A B) (a : A) → ((front : List Terminal) (b : B) → is a front b → other a front b) → (ps : List Terminal) (x : Reading B) → Explains is a ps x → Explains other a ps x
explains_more is other a f ps (Read b rest) (front, e, h) = (front, e, f front b h)
explains_more is other a f ps (Stuck rest) (front, e, inl h) = (front, e, inl h)
explains_more is other a f ps (Stuck rest) (front, e, inr (more, b, h)) = (front, e, inr (more, b, f (front ++ more) b h))

explains_choice : {A B : Type 0} (is : Meaning A B) (a : A) (ps : List Terminal) (c : Bool) (x y : Reading B) → Explains is a ps x → Explains is a ps y → Explains is a ps (if c then x else y)
explains_choice is a ps true x y hx hy = hx
explains_choice is a ps false x y hx hy = hy

-- the terminals are those that were read and those that are left
pub read_front : {A B : Type 0} (is : Meaning A B) (a : A) (ps : List Terminal) (x : Reading B) → Explains is a ps x → (front : List Terminal) × (ps ≡ front ++ left_of x)
read_front is a ps (Read b rest) (front, e, h) = (front, e)
read_front is a ps (Stuck rest) (front, e, h) = (front, e)

same_head_behind : (front rest other : List Terminal) → SameHead rest other → SameHead (front ++ rest) (front ++ other)
same_head_behind [] rest other h = h
same_head_behind (p ∷ front) rest other h = refl

begins_same : (kinds : List TerminalKind) (rest other : List Terminal) → SameHead rest other → begins kinds rest ≡ begins kinds other
begins_same kinds [] [] h = refl
begins_same kinds [] (q ∷ qs) h = absurd h
begins_same kinds (p ∷ ps) [] h = absurd h
begins_same kinds (p ∷ ps) (q ∷ qs) h = ap (has kinds) h

pub repeated_ends : {A : Type 0} (n : ℕ) (kinds : List TerminalKind) (turn : Reader A A) (a : A) (ps : List Terminal) → begins kinds ps ≡ false → repeated n kinds turn a ps ≡ Read a ps
repeated_ends zero kinds turn a ps h = refl
repeated_ends (suc n) kinds turn a ps h = rw h refl

module _ (borders : Borders) (deeper : (x : Nesting) → Meaning (State x) (State x)) (reader : (x : Nesting) → Reader (State x) (State x)) (sensible : Sensible borders deeper reader) where
  -- what is meant without a terminal may be empty
  pub empty_only : {A B : Type 0} (r : Rule A B) (a : A) (b : B) → IsOver deeper r a [] b → may_be_empty r ≡ true
  empty_only (Give f) a b h = refl
  empty_only (Take kinds f) a b (p, k, e, _) = absurd cc
  empty_only (Then {B = M} first second) a b (front, back, m, e, h1, h2) =
      let parts = nil_parts front back e in
      let one = empty_only first a m (subst (λ f. IsOver deeper first a f m) parts.0 h1) in
      let two = empty_only second m b (subst (λ f. IsOver deeper second m f b) parts.1 h2) in
      rw (one, two) refl
  empty_only (Use part rule join) a b (m, h, e) = empty_only rule (part a) m h
  empty_only (Either kinds left right) a b (inl h) = or_left (may_be_empty left) (may_be_empty right) (empty_only left a b h)
  empty_only (Either kinds left right) a b (inr h) = or_right (may_be_empty left) (may_be_empty right) (empty_only right a b h)
  empty_only (Many kinds turn) a b h = refl
  empty_only (Nest x) a b h = absurd (sensible.something x a b h)

  -- the first terminal of what is meant is of the kinds with which the rule begins
  then_first : {A M B : Type 0} (first : Rule A M) (second : Rule M B) (a : A) (m : M) (b : B) (front back : List Terminal) (p : Terminal) (ps : List Terminal) →
      ((q : Terminal) (qs : List Terminal) → IsOver deeper first a (q ∷ qs) m → has (first_of_rule borders first) q.kind ≡ true) →
      (IsOver deeper second m (p ∷ ps) b → has (first_of_rule borders second) p.kind ≡ true) →
      p ∷ ps ≡ front ++ back → IsOver deeper first a front m → IsOver deeper second m back b →
      has (first_of_rule borders (Then first second)) p.kind ≡ true
  then_first first second a m b [] back p ps one two e h1 h2 =
      let empty = empty_only first a m h1 in
      rw (empty, has-append (first_of_rule borders first) (first_of_rule borders second) p.kind) (or_right (has (first_of_rule borders first) p.kind) (has (first_of_rule borders second) p.kind)
      (two (subst (λ f. IsOver deeper second m f b) (sym e) h2)))
  then_first first second a m b (q ∷ front) back p ps one two e h1 h2 =
      let same : p ≡ q = cc in
      rw (has-append (first_of_rule borders first) (if may_be_empty first then first_of_rule borders second else []) p.kind) (or_left (has (first_of_rule borders first) p.kind) (has (if may_be_empty first then first_of_rule borders second else []) p.kind)
      (subst (λ (x : Terminal). has (first_of_rule borders first) x.kind ≡ true) (sym same) (one q front h1)))

  turns_first : {A : Type 0} (turn : Rule A A) (n : ℕ) (a b : A) (p : Terminal) (ps : List Terminal) →
      ((c d : A) (q : Terminal) (qs : List Terminal) → IsOver deeper turn c (q ∷ qs) d → has (first_of_rule borders turn) q.kind ≡ true) →
      Turns (IsOver deeper turn) n a (p ∷ ps) b → has (first_of_rule borders turn) p.kind ≡ true
  turns_first turn zero a b p ps one (e, _) = absurd cc
  turns_first turn (suc n) a b p ps one ([], back, m, e, h1, h2) =
      turns_first turn n m b p ps one (subst (λ f. Turns (IsOver deeper turn) n m f b) (sym e) h2)
  turns_first turn (suc n) a b p ps one (q ∷ front, back, m, e, h1, h2) =
      let same : p ≡ q = cc in
      subst (λ (x : Terminal). has (first_of_rule borders turn) x.kind ≡ true) (sym same) (one a m q front h1)

  pub first_in : {A B : Type 0} (r : Rule A B) (a : A) (b : B) (p : Terminal) (ps : List Terminal) → IsOver deeper r a (p ∷ ps) b → has (first_of_rule borders r) p.kind ≡ true
  first_in (Give f) a b p ps (e, _) = absurd cc
  first_in (Take kinds f) a b p ps (q, k, e, _) =
      let same : p ≡ q = cc in subst (λ (x : Terminal). has kinds x.kind ≡ true) (sym same) k
  first_in (Then first second) a b p ps (front, back, m, e, h1, h2) =
      then_first first second a m b front back p ps (first_in first a m) (first_in second m b p ps) e h1 h2
  first_in (Use part rule join) a b p ps (m, h, e) = first_in rule (part a) m p ps h
  first_in (Either kinds left right) a b p ps (inl h) =
      rw (has-append (first_of_rule borders left) (first_of_rule borders right) p.kind) (or_left (has (first_of_rule borders left) p.kind) (has (first_of_rule borders right) p.kind) (first_in left a b p ps h))
  first_in (Either kinds left right) a b p ps (inr h) =
      rw (has-append (first_of_rule borders left) (first_of_rule borders right) p.kind) (or_right (has (first_of_rule borders left) p.kind) (has (first_of_rule borders right) p.kind) (first_in right a b p ps h))
  first_in (Many kinds turn) a b p ps (n, h) = turns_first turn n a b p ps (first_in turn) h
  first_in (Nest x) a b p ps h = sensible.begun x a p ps b h

  -- what is taken where the last alternative is taken everywhere
  sample : (kinds : List TerminalKind) → not_empty kinds ≡ true → (p : Terminal) × (has kinds p.kind ≡ true)
  sample [] h = absurd cc
  sample (k ∷ kinds) h = (record { kind = k; span = record { from = 0; to = 0 }; number = None; mark = record { place = 0; weight = 0 }; least = λ x e. cc; most = λ x e. cc; placed = omega arith }, rw same_itself refl)

  pub closing : {A B : Type 0} (r : Rule A B) → closes r ≡ true → (a : A) → (more : List Terminal) × (b : B) × IsOver deeper r a more b
  closing (Give f) h a = ([], f a, (refl, refl))
  closing (Take kinds f) h a = let (p, k) = sample kinds h in (p ∷ [], f a p, (p, k, refl, refl))
  closing (Then first second) h a =
      let parts = and_parts (closes first) (closes second) h in
      let one = closing first parts.0 a in
      let two = closing second parts.1 one.1 in
      (one.0 ++ two.0, two.1, (one.0, two.0, one.1, refl, one.2, two.2))
  closing (Use part rule join) h a = let one = closing rule h (part a) in (one.0, join a one.1, (one.1, one.2, refl))
  closing (Either kinds left right) h a = let one = closing right h a in (one.0, one.1, inr one.2)
  closing (Many kinds turn) h a = ([], a, (zero, (refl, refl)))
  closing (Nest x) h a = absurd cc

  -- where a rule closes, what is viable can be completed
  completed : {A B : Type 0} (r : Rule A B) → closes r ≡ true → (a : A) (front : List Terminal) → Viable (IsOver deeper r) a front → (more : List Terminal) × (b : B) × IsOver deeper r a (front ++ more) b
  completed r h a front (inl e) =
      let one = closing r h a in
      (one.0, one.1, subst (λ f. IsOver deeper r a (f ++ one.0) one.1) (sym e) one.2)
  completed r h a front (inr one) = one

  -- readings are right

  second_right : {A M B : Type 0} (first : Rule A M) (second : Rule M B) → closes second ≡ true → (a : A) (m : M) (ps front rest : List Terminal) →
      ps ≡ front ++ rest → IsOver deeper first a front m → (x : Reading B) → Explains (IsOver deeper second) m rest x → Explains (IsOver deeper (Then first second)) a ps x
  second_right first second c a m ps front rest e h (Read b rest2) (back, e2, h2) =
      (front ++ back, e ∙ ap (λ x. front ++ x) e2 ∙ sym (append_assoc front back rest2), (front, back, m, refl, h, h2))
  second_right first second c a m ps front rest e h (Stuck rest2) (back, e2, v) =
      let (more, b, h2) = completed second c m back v in
      (front ++ back, e ∙ ap (λ x. front ++ x) e2 ∙ sym (append_assoc front back rest2), inr (more, b, (front, back ++ more, m, append_assoc front back more, h, h2)))

  then_right : {A M B : Type 0} (first : Rule A M) (second : Rule M B) → closes second ≡ true → (a : A) (ps : List Terminal) (x : Reading M) →
      Explains (IsOver deeper first) a ps x → ((m : M) (rest : List Terminal) → Explains (IsOver deeper second) m rest (read_over reader second m rest)) →
      Explains (IsOver deeper (Then first second)) a ps (x >>= read_over reader second)
  then_right first second c a ps (Read m rest) (front, e, h) two =
      second_right first second c a m ps front rest e h (read_over reader second m rest) (two m rest)
  then_right first second c a ps (Stuck rest) (front, e, inl v) two = (front, e, inl v)
  then_right first second c a ps (Stuck rest) (front, e, inr (more, m, h)) two =
      let (more2, b, h2) = closing second c m in
      (front, e, inr (more ++ more2, b, (front ++ more, more2, m, sym (append_assoc front more more2), h, h2)))

  use_right : {A B C D : Type 0} (part : A → B) (rule : Rule B C) (join : A → C → D) (a : A) (ps : List Terminal) (x : Reading C) →
      Explains (IsOver deeper rule) (part a) ps x → Explains (IsOver deeper (Use part rule join)) a ps (x >>= λ m rest. Read (join a m) rest)
  use_right part rule join a ps (Read m rest) (front, e, h) = (front, e, (m, h, refl))
  use_right part rule join a ps (Stuck rest) (front, e, inl v) = (front, e, inl v)
  use_right part rule join a ps (Stuck rest) (front, e, inr (more, m, h)) = (front, e, inr (more, join a m, (m, h, refl)))

  take_right : {A B : Type 0} (kinds : List TerminalKind) (f : A → Terminal → B) (a : A) (p : Terminal) (ps : List Terminal) (c : Bool) → has kinds p.kind ≡ c →
      Explains (IsOver deeper (Take kinds f)) a (p ∷ ps) ((if c then Read p ps else Stuck (p ∷ ps)) >>= λ q rest. Read (f a q) rest)
  take_right kinds f a p ps true k = (p ∷ [], refl, (p, k, refl, refl))
  take_right kinds f a p ps false k = ([], refl, inl refl)

  -- some number of turns
  SomeTurns : {A : Type 0} → Rule A A → Meaning A A
  SomeTurns turn a ps b = (n : ℕ) × Turns (IsOver deeper turn) n a ps b

  one_more : {A : Type 0} (turn : Rule A A) (a m : A) (ps front rest : List Terminal) → ps ≡ front ++ rest → IsOver deeper turn a front m →
      (x : Reading A) → Explains (SomeTurns turn) m rest x → Explains (SomeTurns turn) a ps x
  unfolding SomeTurns
  one_more turn a m ps front rest e h (Read b rest2) (back, e2, (k, t)) =
      (front ++ back, e ∙ ap (λ x. front ++ x) e2 ∙ sym (append_assoc front back rest2), (suc k, (front, back, m, refl, h, t)))
  one_more turn a m ps front rest e h (Stuck rest2) (back, e2, inl v) = (
    front ++ back,
    e ∙ ap (λ x. front ++ x) e2 ∙ sym (append_assoc front back rest2),
    inr ([], m, (1, (front, [], m, append-nil (front ++ back) ∙ ap (λ x. front ++ x) v, h, (refl, refl)))),
  )
  one_more turn a m ps front rest e h (Stuck rest2) (back, e2, inr (more, b, (k, t))) = (
    front ++ back,
    e ∙ ap (λ x. front ++ x) e2 ∙ sym (append_assoc front back rest2),
    inr (more, b, (suc k, (front, back ++ more, m, append_assoc front back more, h, t))),
  )

  turn_right : {A : Type 0} (turn : Rule A A) (a : A) (ps : List Terminal) (again : Reader A A) → ((m : A) (rest : List Terminal) → Explains (SomeTurns turn) m rest (again m rest)) →
      (x : Reading A) → Explains (IsOver deeper turn) a ps x → Explains (SomeTurns turn) a ps (x >>= again)
  unfolding SomeTurns
  turn_right turn a ps again more (Read m rest) (front, e, h) = one_more turn a m ps front rest e h (again m rest) (more m rest)
  turn_right turn a ps again more (Stuck rest) (front, e, inl v) = (front, e, inl v)
  turn_right turn a ps again more (Stuck rest) (front, e, inr (end, m, h)) =
      (front, e, inr (end, m, (1, (front ++ end, [], m, sym (append-nil (front ++ end)), h, (refl, refl)))))

  turns_right : {A : Type 0} (kinds : List TerminalKind) (turn : Rule A A) → ((a : A) (ps : List Terminal) → Explains (IsOver deeper turn) a ps (read_over reader turn a ps)) →
      (n : ℕ) (a : A) (ps : List Terminal) → Explains (SomeTurns turn) a ps (repeated n kinds (read_over reader turn) a ps)
  unfolding SomeTurns
  turns_right kinds turn one zero a ps = ([], refl, (zero, (refl, refl)))
  turns_right kinds turn one (suc n) a ps =
      explains_choice (SomeTurns turn) a ps (begins kinds ps) _ _
      (turn_right turn a ps (repeated n kinds (read_over reader turn)) (turns_right kinds turn one n) (read_over reader turn a ps) (one a ps))
      ([], refl, (zero, (refl, refl)))

  pub right : {A B : Type 0} (r : Rule A B) → good borders r ≡ true → (a : A) (ps : List Terminal) → Explains (IsOver deeper r) a ps (read_over reader r a ps)
  unfolding SomeTurns
  right (Give f) g a ps = ([], refl, (refl, refl))
  right (Take kinds f) g a [] = ([], refl, inl refl)
  right (Take kinds f) g a (p ∷ ps) = take_right kinds f a p ps (has kinds p.kind) refl
  right (Then first second) g a ps =
      let parts = and_parts (good borders first) _ g in
      let parts2 = and_parts (good borders second) _ parts.1 in
      let parts3 = and_parts (apart (more_of_rule borders first) (first_of_rule borders second)) (closes second) parts2.1 in
      then_right first second parts3.1 a ps (read_over reader first a ps) (right first parts.0 a ps) (right second parts2.0)
  right (Use part rule join) g a ps = use_right part rule join a ps (read_over reader rule (part a) ps) (right rule g (part a) ps)
  right (Either {A} {B} kinds left right_rule) g a ps =
      let parts = and_parts (good borders left) _ g in
      let parts2 = and_parts (good borders right_rule) _ parts.1 in
      explains_choice (IsOver deeper (Either kinds left right_rule)) a ps (begins kinds ps) _ _
      (explains_more (IsOver deeper left) (IsOver deeper (Either kinds left right_rule)) a (λ front b h. inl h) ps (read_over reader left a ps) (right left parts.0 a ps))
      (explains_more (IsOver deeper right_rule) (IsOver deeper (Either kinds left right_rule)) a (λ front b h. inr h) ps (read_over reader right_rule a ps) (right right_rule parts2.0 a ps))
  right (Many kinds turn) g a ps =
      let parts = and_parts (good borders turn) _ g in
      turns_right kinds turn (right turn parts.0) (length ps) a ps
  right (Nest x) g a ps = sensible.right x a ps

  -- what is meant is read

  -- where the second rule goes on, the first has ended
  first_ended : {A M B : Type 0} (first : Rule A M) (second : Rule M B) → apart (more_of_rule borders first) (first_of_rule borders second) ≡ true →
      (m : M) (b : B) (back rest : List Terminal) → IsOver deeper second m back b → begins (more_of_rule borders (Then first second)) rest ≡ false →
      (begins (more_of_rule borders first) (back ++ rest) ≡ false) × (begins (more_of_rule borders second) rest ≡ false)
  first_ended first second away m b [] rest h stop =
      let empty = empty_only second m b h in
      let parts = or_parts (begins (more_of_rule borders second) rest) (begins (if may_be_empty second then more_of_rule borders first else []) rest) (sym (begins-append (more_of_rule borders second) _ rest) ∙ stop) in
      (subst (λ (c : Bool). begins (if c then more_of_rule borders first else []) rest ≡ false) empty parts.1, parts.0)
  first_ended first second away m b (p ∷ back) rest h stop =
      let parts = or_parts (begins (more_of_rule borders second) rest) (begins (if may_be_empty second then more_of_rule borders first else []) rest) (sym (begins-append (more_of_rule borders second) _ rest) ∙ stop) in
      (not_in_first (more_of_rule borders first) (first_of_rule borders second) p.kind away (first_in second m b p back h), parts.0)

  left_complete : {A B : Type 0} (kinds : List TerminalKind) (left right_rule : Rule A B) → may_be_empty left ≡ false → within (first_of_rule borders left) kinds ≡ true →
      (a : A) (b : B) (front rest : List Terminal) → IsOver deeper left a front b → read_over reader left a (front ++ rest) ≡ Read b rest →
      read_over reader (Either kinds left right_rule) a (front ++ rest) ≡ Read b rest
  left_complete kinds left right_rule full wide a b [] rest h e = not_both (may_be_empty left) (empty_only left a b h) full
  left_complete kinds left right_rule full wide a b (p ∷ front) rest h e =
      let k = in_wider (first_of_rule borders left) kinds p.kind wide (first_in left a b p front h) in
      rw k e

  right_complete : {A B : Type 0} (kinds : List TerminalKind) (left right_rule : Rule A B) → apart (first_of_rule borders right_rule) kinds ≡ true →
      (a : A) (b : B) (front rest : List Terminal) → IsOver deeper right_rule a front b → begins (if may_be_empty right_rule then kinds else []) rest ≡ false →
      read_over reader right_rule a (front ++ rest) ≡ Read b rest → read_over reader (Either kinds left right_rule) a (front ++ rest) ≡ Read b rest
  right_complete kinds left right_rule away a b [] rest h stop e =
      let empty = empty_only right_rule a b h in
      let k : begins kinds rest ≡ false = subst (λ (c : Bool). begins (if c then kinds else []) rest ≡ false) empty stop in
      rw k e
  right_complete kinds left right_rule away a b (p ∷ front) rest h stop e =
      let k = not_in_other (first_of_rule borders right_rule) kinds p.kind away (first_in right_rule a b p front h) in
      rw k e

  -- where another turn goes on, the turn before has ended
  turn_ended : {A : Type 0} (kinds : List TerminalKind) (turn : Rule A A) → may_be_empty turn ≡ false → apart (more_of_rule borders turn) kinds ≡ true → within (first_of_rule borders turn) kinds ≡ true →
      (n : ℕ) (a b : A) (back rest : List Terminal) → Turns (IsOver deeper turn) n a back b → begins (more_of_rule borders turn) rest ≡ false →
      begins (more_of_rule borders turn) (back ++ rest) ≡ false
  turn_ended kinds turn full away wide n a b [] rest h stop = stop
  turn_ended kinds turn full away wide n a b (p ∷ back) rest h stop =
      not_in_other' (in_wider (first_of_rule borders turn) kinds p.kind wide (turns_first turn n a b p back (first_in turn) h))
    where
      not_in_other' : has kinds p.kind ≡ true → has (more_of_rule borders turn) p.kind ≡ false
      not_in_other' k = not_in_first (more_of_rule borders turn) kinds p.kind away k

  turns_complete : {A : Type 0} (kinds : List TerminalKind) (turn : Rule A A) → may_be_empty turn ≡ false → apart (more_of_rule borders turn) kinds ≡ true → within (first_of_rule borders turn) kinds ≡ true →
      ((a b : A) (front rest : List Terminal) → IsOver deeper turn a front b → begins (more_of_rule borders turn) rest ≡ false → read_over reader turn a (front ++ rest) ≡ Read b rest) →
      (k n : ℕ) (a b : A) (front rest : List Terminal) → length (front ++ rest) ≤ n → Turns (IsOver deeper turn) k a front b →
      begins kinds rest ≡ false → begins (more_of_rule borders turn) rest ≡ false → repeated n kinds (read_over reader turn) a (front ++ rest) ≡ Read b rest
  turns_complete kinds turn full away wide one zero n a b front rest room (e, eb) stop stop2 =
      rw (e, eb) (repeated_ends n kinds (read_over reader turn) a rest stop)
  turns_complete kinds turn full away wide one (suc k) n a b front rest room ([], back, m, e, h, t) stop stop2 =
      not_both (may_be_empty turn) (empty_only turn a m h) full
  turns_complete kinds turn full away wide one (suc k) zero a b front rest room (p ∷ start, back, m, e, h, t) stop stop2 =
      absurd (omega (arith, length-append front rest, length-append (p ∷ start) back, ap length e))
  turns_complete kinds turn full away wide one (suc k) (suc n) a b front rest room (p ∷ start, back, m, e, h, t) stop stop2 =
      let again = in_wider (first_of_rule borders turn) kinds p.kind wide (first_in turn a m p start h) in
      let whole : front ++ rest ≡ p ∷ (start ++ (back ++ rest)) = ap (λ (f : List Terminal). f ++ rest) e ∙ ap (λ (f : List Terminal). p ∷ f) (append_assoc start back rest) in
      let first = one a m (p ∷ start) (back ++ rest) h (turn_ended kinds turn full away wide k m b back rest t stop2) in
      let others = turns_complete kinds turn full away wide one k n m b back rest (omega (arith, ap length whole, length-append start (back ++ rest))) t stop stop2 in
      rw (whole, again, first) others

  pub complete : {A B : Type 0} (r : Rule A B) → good borders r ≡ true → (a : A) (b : B) (front rest : List Terminal) → IsOver deeper r a front b → begins (more_of_rule borders r) rest ≡ false → read_over reader r a (front ++ rest) ≡ Read b rest
  complete (Give f) g a b front rest (e, eb) stop = rw (e, eb) refl
  complete (Take kinds f) g a b front rest (p, k, e, eb) stop = rw (e, eb, k) refl
  complete (Then first second) g a b front rest (start, back, m, e, h1, h2) stop =
      let parts = and_parts (good borders first) _ g in
      let parts2 = and_parts (good borders second) _ parts.1 in
      let parts3 = and_parts (apart (more_of_rule borders first) (first_of_rule borders second)) (closes second) parts2.1 in
      let ended = first_ended first second parts3.0 m b back rest h2 stop in
      let one = complete first parts.0 a m start (back ++ rest) h1 ended.0 in
      let two = complete second parts2.0 m b back rest h2 ended.1 in
      rw (e, append_assoc start back rest, one) two
  complete (Use part rule join) g a b front rest (m, h, e) stop = rw (complete rule g (part a) m front rest h stop, e) refl
  complete (Either kinds left right_rule) g a b front rest (inl h) stop =
      let parts = and_parts (good borders left) _ g in
      let parts2 = and_parts (good borders right_rule) _ parts.1 in
      let parts3 = and_parts (not (may_be_empty left)) _ parts2.1 in
      let parts4 = and_parts (within (first_of_rule borders left) kinds) _ parts3.1 in
      let stops = or_parts (begins (if may_be_empty right_rule then kinds else []) rest) _ (sym (begins-append (if may_be_empty right_rule then kinds else []) _ rest) ∙ stop) in
      let stops2 = or_parts (begins (more_of_rule borders left) rest) _ (sym (begins-append (more_of_rule borders left) _ rest) ∙ stops.1) in
      left_complete kinds left right_rule (not-true (may_be_empty left) parts3.0) parts4.0 a b front rest h (complete left parts.0 a b front rest h stops2.0)
  complete (Either kinds left right_rule) g a b front rest (inr h) stop =
      let parts = and_parts (good borders left) _ g in
      let parts2 = and_parts (good borders right_rule) _ parts.1 in
      let parts3 = and_parts (not (may_be_empty left)) _ parts2.1 in
      let parts4 = and_parts (within (first_of_rule borders left) kinds) _ parts3.1 in
      let parts5 = and_parts (apart (first_of_rule borders right_rule) kinds) (closes right_rule) parts4.1 in
      let stops = or_parts (begins (if may_be_empty right_rule then kinds else []) rest) _ (sym (begins-append (if may_be_empty right_rule then kinds else []) _ rest) ∙ stop) in
      let stops2 = or_parts (begins (more_of_rule borders left) rest) (begins (more_of_rule borders right_rule) rest) (sym (begins-append (more_of_rule borders left) _ rest) ∙ stops.1) in
      right_complete kinds left right_rule parts5.0 a b front rest h stops.0 (complete right_rule parts2.0 a b front rest h stops2.1)
  complete (Many kinds turn) g a b front rest (n, t) stop =
      let parts = and_parts (good borders turn) _ g in
      let parts2 = and_parts (not (may_be_empty turn)) _ parts.1 in
      let parts3 = and_parts (within (first_of_rule borders turn) kinds) (apart (more_of_rule borders turn) kinds) parts2.1 in
      let stops = or_parts (begins kinds rest) (begins (more_of_rule borders turn) rest) (sym (begins-append kinds (more_of_rule borders turn) rest) ∙ stop) in
      turns_complete kinds turn (not-true (may_be_empty turn) parts2.0) parts3.1 parts3.0 (complete turn parts.0) n (length (front ++ rest)) a b front rest (le_refl (length (front ++ rest))) t stops.0 stops.1
  complete (Nest x) g a b front rest h stop = sensible.complete x a front b rest h stop

  -- what is read depends on what was read and on the kind behind it

  -- the terminals before what is left
  fronts_of : {A B : Type 0} (r : Rule A B) → good borders r ≡ true → (a : A) (ps : List Terminal) → (front : List Terminal) × (ps ≡ front ++ left_of (read_over reader r a ps))
  fronts_of r g a ps = read_front (IsOver deeper r) a ps (read_over reader r a ps) (right r g a ps)

  then_local : {A M B : Type 0} (first : Rule A M) (second : Rule M B) (good_first : good borders first ≡ true) (good_second : good borders second ≡ true) →
      ((a : A) (front rest other : List Terminal) → SameHead rest other → left_of (read_over reader first a (front ++ rest)) ≡ rest → read_over reader first a (front ++ other) ≡ moved other (read_over reader first a (front ++ rest))) →
      ((m : M) (front rest other : List Terminal) → SameHead rest other → left_of (read_over reader second m (front ++ rest)) ≡ rest → read_over reader second m (front ++ other) ≡ moved other (read_over reader second m (front ++ rest))) →
      (a : A) (front rest other : List Terminal) → SameHead rest other → (x : Reading M) → read_over reader first a (front ++ rest) ≡ x →
      left_of (x >>= read_over reader second) ≡ rest → (read_over reader first a (front ++ other) >>= read_over reader second) ≡ moved other (x >>= read_over reader second)
  then_local {A} {M} {B} first second gf gs one two a front rest other same (Stuck q) e l =
      let here = one a front rest other same (ap left_of e ∙ l) in
      let start : read_over reader first a (front ++ other) ≡ Stuck other = here ∙ ap (moved other) e in
      ap (λ (y : Reading M). y >>= read_over reader second) start
  then_local {A} {M} {B} first second gf gs one two a front rest other same (Read m mid) e l =
      let (back, eb) = fronts_of second gs m mid in
      let mid_is : mid ≡ back ++ rest = eb ∙ ap (λ (y : List Terminal). back ++ y) l in
      let (start, es) = fronts_of first gf a (front ++ rest) in
      let whole : front ++ rest ≡ start ++ (back ++ rest) = es ∙ ap (λ (y : List Terminal). start ++ y) (ap left_of e ∙ mid_is) in
      let front_is : front ≡ start ++ back = append_cancel_right front (start ++ back) rest (whole ∙ sym (append_assoc start back rest)) in
      let read_start : read_over reader first a (start ++ (back ++ rest)) ≡ Read m (back ++ rest) =
      ap (read_over reader first a) (sym whole) ∙ e ∙ ap (λ (y : List Terminal). Read m y) mid_is in
      let first_there : read_over reader first a (start ++ (back ++ other)) ≡ Read m (back ++ other) =
      one a start (back ++ rest) (back ++ other) (same_head_behind back rest other same) (ap left_of read_start) ∙ ap (moved (back ++ other)) read_start in
      let other_is : front ++ other ≡ start ++ (back ++ other) = ap (λ (y : List Terminal). y ++ other) front_is ∙ append_assoc start back other in
      let left_second : left_of (read_over reader second m (back ++ rest)) ≡ rest = ap (λ (y : List Terminal). left_of (read_over reader second m y)) (sym mid_is) ∙ l in
      let second_there = two m back rest other same left_second in
      ap (λ (y : List Terminal). read_over reader first a y >>= read_over reader second) other_is
      ∙ ap (λ (y : Reading M). y >>= read_over reader second) first_there
      ∙ second_there ∙ ap (λ (y : List Terminal). moved other (read_over reader second m y)) (sym mid_is)

  use_local : {C D : Type 0} (join : C → D) (rest other : List Terminal) (x y : Reading C) → y ≡ moved other x →
      (y >>= λ c q. Read (join c) q) ≡ moved other (x >>= λ c q. Read (join c) q)
  use_local join rest other (Read c q) y e = rw e refl
  use_local join rest other (Stuck q) y e = rw e refl

  left_use : {C D : Type 0} (join : C → D) (x : Reading C) → left_of (x >>= λ c q. Read (join c) q) ≡ left_of x
  left_use join (Read c q) = refl
  left_use join (Stuck q) = refl

  choice_local : {B : Type 0} (other rest : List Terminal) (c : Bool) (x y x2 y2 : Reading B) →
      (left_of x ≡ rest → x2 ≡ moved other x) → (left_of y ≡ rest → y2 ≡ moved other y) → left_of (if c then x else y) ≡ rest →
      (if c then x2 else y2) ≡ moved other (if c then x else y)
  choice_local other rest true x y x2 y2 hx hy l = hx l
  choice_local other rest false x y x2 y2 hx hy l = hy l

  begins_behind : (kinds : List TerminalKind) (front rest other : List Terminal) → SameHead rest other → begins kinds (front ++ rest) ≡ begins kinds (front ++ other)
  begins_behind kinds front rest other same = begins_same kinds (front ++ rest) (front ++ other) (same_head_behind front rest other same)

  -- a terminal that isn't taken is left, one that is taken is gone
  pub take_local : {A B : Type 0} (kinds : List TerminalKind) (f : A → Terminal → B) (a : A) (front rest other : List Terminal) → SameHead rest other →
      left_of (read_over reader (Take kinds f) a (front ++ rest)) ≡ rest → read_over reader (Take kinds f) a (front ++ other) ≡ moved other (read_over reader (Take kinds f) a (front ++ rest))
  take_local kinds f a [] [] [] same l = refl
  take_local kinds f a [] [] (q ∷ qs) same l = absurd same
  take_local kinds f a [] (p ∷ ps) [] same l = absurd same
  take_local {A} {B} kinds f a [] (p ∷ ps) (q ∷ qs) same l = not_taken (has kinds p.kind) refl
    where
      not_taken : (c : Bool) → has kinds p.kind ≡ c → read_over reader (Take kinds f) a (q ∷ qs) ≡ moved (q ∷ qs) (read_over reader (Take kinds f) a (p ∷ ps))
      not_taken true k =
          let l2 : left_of ((if true then Read p ps else Stuck (p ∷ ps)) >>= λ x rest. Read (f a x) rest) ≡ p ∷ ps =
          subst (λ (c : Bool). left_of ((if c then Read p ps else Stuck (p ∷ ps)) >>= λ x rest. Read (f a x) rest) ≡ p ∷ ps) k l in
          absurd (omega (arith, ap length l2))
      not_taken false k = let k2 = sym (ap (has kinds) same) ∙ k in rw (k, k2) refl
  take_local {A} {B} kinds f a (p ∷ front) rest other same l = taken (has kinds p.kind) refl
    where
      taken : (c : Bool) → has kinds p.kind ≡ c → read_over reader (Take kinds f) a ((p ∷ front) ++ other) ≡ moved other (read_over reader (Take kinds f) a ((p ∷ front) ++ rest))
      taken true k =
          let l2 : front ++ rest ≡ rest = subst (λ (c : Bool). left_of ((if c then Read p (front ++ rest) else Stuck (p ∷ (front ++ rest))) >>= λ x more. Read (f a x) more) ≡ rest) k l in
          let none = no_front front rest l2 in
          rw (k, none) refl
      taken false k =
          let l2 : p ∷ (front ++ rest) ≡ rest = subst (λ (c : Bool). left_of ((if c then Read p (front ++ rest) else Stuck (p ∷ (front ++ rest))) >>= λ x more. Read (f a x) more) ≡ rest) k l in
          absurd (omega (arith, ap length l2, length-append front rest))

  -- one turn is read, and the others behind it
  turn_local : {A : Type 0} (kinds : List TerminalKind) (turn : Rule A A) → good borders turn ≡ true → may_be_empty turn ≡ false →
      ((a : A) (front rest other : List Terminal) → SameHead rest other → left_of (read_over reader turn a (front ++ rest)) ≡ rest → read_over reader turn a (front ++ other) ≡ moved other (read_over reader turn a (front ++ rest))) →
      (n n2 : ℕ) →
      ((a : A) (front rest other : List Terminal) → SameHead rest other → length (front ++ rest) ≤ n → length (front ++ other) ≤ n2 →
      left_of (repeated n kinds (read_over reader turn) a (front ++ rest)) ≡ rest →
      repeated n2 kinds (read_over reader turn) a (front ++ other) ≡ moved other (repeated n kinds (read_over reader turn) a (front ++ rest))) →
      (a : A) (front rest other : List Terminal) → SameHead rest other → length (front ++ rest) ≤ suc n → length (front ++ other) ≤ suc n2 →
      (x : Reading A) → read_over reader turn a (front ++ rest) ≡ x →
      left_of (x >>= repeated n kinds (read_over reader turn)) ≡ rest →
      (read_over reader turn a (front ++ other) >>= repeated n2 kinds (read_over reader turn)) ≡ moved other (x >>= repeated n kinds (read_over reader turn))
  unfolding SomeTurns
  turn_local kinds turn g full one n n2 again a front rest other same room room2 (Stuck q) e l =
      ap (λ y. y >>= repeated n2 kinds (read_over reader turn)) (one a front rest other same (ap left_of e ∙ l) ∙ ap (moved other) e)
  turn_local {A} kinds turn g full one n n2 again a front rest other same room room2 (Read m mid) e l =
      let (back, eb) = read_front (SomeTurns turn) m mid (repeated n kinds (read_over reader turn) m mid) (turns_right kinds turn (right turn g) n m mid) in
      let mid_is : mid ≡ back ++ rest = eb ∙ ap (λ (y : List Terminal). back ++ y) l in
      let meant : Explains (IsOver deeper turn) a (front ++ rest) (Read m mid) = subst (λ (x : Reading A). Explains (IsOver deeper turn) a (front ++ rest) x) e (right turn g a (front ++ rest)) in
      let (start, es, h) = meant in
      let whole : front ++ rest ≡ start ++ (back ++ rest) = es ∙ ap (λ (y : List Terminal). start ++ y) mid_is in
      let front_is : front ≡ start ++ back = append_cancel_right front (start ++ back) rest (whole ∙ sym (append_assoc start back rest)) in
      let read_start : read_over reader turn a (start ++ (back ++ rest)) ≡ Read m (back ++ rest) =
      ap (read_over reader turn a) (sym whole) ∙ e ∙ ap (λ (y : List Terminal). Read m y) mid_is in
      let first_there : read_over reader turn a (start ++ (back ++ other)) ≡ Read m (back ++ other) =
      one a start (back ++ rest) (back ++ other) (same_head_behind back rest other same) (ap left_of read_start) ∙ ap (moved (back ++ other)) read_start in
      let other_is : front ++ other ≡ start ++ (back ++ other) = ap (λ (y : List Terminal). y ++ other) front_is ∙ append_assoc start back other in
      let some : 1 ≤ length start = starts turn full a m start h in
      let less : length (back ++ rest) ≤ n = omega (arith, ap length whole, length-append start (back ++ rest)) in
      let less2 : length (back ++ other) ≤ n2 = omega (arith, ap length other_is, length-append start (back ++ other)) in
      let left_again : left_of (repeated n kinds (read_over reader turn) m (back ++ rest)) ≡ rest = ap (λ (y : List Terminal). left_of (repeated n kinds (read_over reader turn) m y)) (sym mid_is) ∙ l in
      ap (λ (y : List Terminal). read_over reader turn a y >>= repeated n2 kinds (read_over reader turn)) other_is
      ∙ ap (λ (y : Reading A). y >>= repeated n2 kinds (read_over reader turn)) first_there
      ∙ again m back rest other same less less2 left_again
      ∙ ap (λ (y : List Terminal). moved other (repeated n kinds (read_over reader turn) m y)) (sym mid_is)
    where
      starts : (turn : Rule A A) → may_be_empty turn ≡ false → (a m : A) (start : List Terminal) → IsOver deeper turn a start m → 1 ≤ length start
      starts turn full a m [] h = not_both (may_be_empty turn) (empty_only turn a m h) full
      starts turn full a m (p ∷ start) h = omega arith

  empty_begins : (kinds : List TerminalKind) (ps : List Terminal) → length ps ≤ 0 → begins kinds ps ≡ false
  empty_begins kinds [] h = refl
  empty_begins kinds (p ∷ ps) h = absurd (omega arith)

  -- no further turn is read
  ends_local : {A : Type 0} (kinds : List TerminalKind) (turn : Rule A A) (n n2 : ℕ) (a : A) (front rest other : List Terminal) → SameHead rest other → begins kinds (front ++ rest) ≡ false →
      left_of (repeated n kinds (read_over reader turn) a (front ++ rest)) ≡ rest →
      repeated n2 kinds (read_over reader turn) a (front ++ other) ≡ moved other (repeated n kinds (read_over reader turn) a (front ++ rest))
  ends_local kinds turn n n2 a front rest other same k l =
      let here = repeated_ends n kinds (read_over reader turn) a (front ++ rest) k in
      let k2 : begins kinds (front ++ other) ≡ false = sym (begins_behind kinds front rest other same) ∙ k in
      let there = repeated_ends n2 kinds (read_over reader turn) a (front ++ other) k2 in
      let none = no_front front rest (sym (ap left_of here) ∙ l) in
      there ∙ ap (λ (f : List Terminal). Read a (f ++ other)) none ∙ sym (ap (moved other) here)

  -- another turn is read, or none
  test_local : {A : Type 0} (kinds : List TerminalKind) (turn : Rule A A) (n n2 : ℕ) (a : A) (front rest other : List Terminal) → SameHead rest other → (c : Bool) → begins kinds (front ++ rest) ≡ c →
      (left_of (read_over reader turn a (front ++ rest) >>= repeated n kinds (read_over reader turn)) ≡ rest →
      (read_over reader turn a (front ++ other) >>= repeated n2 kinds (read_over reader turn)) ≡ moved other (read_over reader turn a (front ++ rest) >>= repeated n kinds (read_over reader turn))) →
      left_of (repeated (suc n) kinds (read_over reader turn) a (front ++ rest)) ≡ rest →
      repeated (suc n2) kinds (read_over reader turn) a (front ++ other) ≡ moved other (repeated (suc n) kinds (read_over reader turn) a (front ++ rest))
  test_local kinds turn n n2 a front rest other same false k go l = ends_local kinds turn (suc n) (suc n2) a front rest other same k l
  test_local kinds turn n n2 a front rest other same true k go l =
      let k2 : begins kinds (front ++ other) ≡ true = sym (begins_behind kinds front rest other same) ∙ k in
      let l2 : left_of (read_over reader turn a (front ++ rest) >>= repeated n kinds (read_over reader turn)) ≡ rest =
      subst (λ (c : Bool). left_of (if c then (read_over reader turn a (front ++ rest) >>= repeated n kinds (read_over reader turn)) else Read a (front ++ rest)) ≡ rest) k l in
      rw (k, k2) (go l2)

  turns_local : {A : Type 0} (kinds : List TerminalKind) (turn : Rule A A) → good borders turn ≡ true → may_be_empty turn ≡ false →
      ((a : A) (front rest other : List Terminal) → SameHead rest other → left_of (read_over reader turn a (front ++ rest)) ≡ rest → read_over reader turn a (front ++ other) ≡ moved other (read_over reader turn a (front ++ rest))) →
      (n n2 : ℕ) (a : A) (front rest other : List Terminal) → SameHead rest other → length (front ++ rest) ≤ n → length (front ++ other) ≤ n2 →
      left_of (repeated n kinds (read_over reader turn) a (front ++ rest)) ≡ rest →
      repeated n2 kinds (read_over reader turn) a (front ++ other) ≡ moved other (repeated n kinds (read_over reader turn) a (front ++ rest))
  turns_local kinds turn g full one zero n2 a front rest other same room room2 l =
      ends_local kinds turn zero n2 a front rest other same (empty_begins kinds (front ++ rest) room) l
  turns_local kinds turn g full one (suc n) zero a front rest other same room room2 l =
      ends_local kinds turn (suc n) zero a front rest other same (begins_behind kinds front rest other same ∙ empty_begins kinds (front ++ other) room2) l
  turns_local kinds turn g full one (suc n) (suc n2) a front rest other same room room2 l =
      test_local kinds turn n n2 a front rest other same (begins kinds (front ++ rest)) refl
      (turn_local kinds turn g full one n n2 (turns_local kinds turn g full one n n2) a front rest other same room room2 (read_over reader turn a (front ++ rest)) refl) l

  pub local : {A B : Type 0} (r : Rule A B) → good borders r ≡ true → (a : A) (front rest other : List Terminal) → SameHead rest other →
      left_of (read_over reader r a (front ++ rest)) ≡ rest → read_over reader r a (front ++ other) ≡ moved other (read_over reader r a (front ++ rest))
  local (Give f) g a front rest other same l = ap (λ (x : List Terminal). Read (f a) (x ++ other)) (no_front front rest l)
  local (Take kinds f) g a front rest other same l = take_local kinds f a front rest other same l
  local (Then first second) g a front rest other same l =
      let parts = and_parts (good borders first) _ g in
      let parts2 = and_parts (good borders second) _ parts.1 in
      then_local first second parts.0 parts2.0 (local first parts.0) (local second parts2.0) a front rest other same (read_over reader first a (front ++ rest)) refl l
  local (Use part rule join) g a front rest other same l =
      use_local (join a) rest other (read_over reader rule (part a) (front ++ rest)) (read_over reader rule (part a) (front ++ other))
      (local rule g (part a) front rest other same (sym (left_use (join a) (read_over reader rule (part a) (front ++ rest))) ∙ l))
  local (Either kinds left right_rule) g a front rest other same l =
      let parts = and_parts (good borders left) _ g in
      let parts2 = and_parts (good borders right_rule) _ parts.1 in
      rw (← begins_behind kinds front rest other same)
      (choice_local other rest (begins kinds (front ++ rest)) (read_over reader left a (front ++ rest)) (read_over reader right_rule a (front ++ rest))
      (read_over reader left a (front ++ other)) (read_over reader right_rule a (front ++ other))
      (local left parts.0 a front rest other same) (local right_rule parts2.0 a front rest other same) l)
  local (Many kinds turn) g a front rest other same l =
      let parts = and_parts (good borders turn) _ g in
      let parts2 = and_parts (not (may_be_empty turn)) _ parts.1 in
      turns_local kinds turn parts.0 (not-true (may_be_empty turn) parts2.0) (local turn parts.0) (length (front ++ rest)) (length (front ++ other)) a front rest other same
      (le_refl (length (front ++ rest))) (le_refl (length (front ++ other))) l
  local (Nest x) g a front rest other same l = sensible.local x a front rest other same l
