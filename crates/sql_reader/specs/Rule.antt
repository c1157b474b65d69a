-- A small language of grammar rules. A rule of type Rule A B reads terminals: from what is known before, a value of
-- A, they give what is known after, a value of B.
use Rattle.std.specs.Prelude.{◌≡◌, ℕ, zero, suc, Bool, true, false, ◌||◌, ◌&&◌, not, List, [], ◌∷◌, ◌++◌, length, ◌⊎◌, if◌then◌else◌}
use Rattle.sql_reader.specs.declared.kind.TerminalKind.{TerminalKind}
use Rattle.sql_reader.specs.declared.terminal.Terminal.{Terminal}
use Rattle.sql_reader.specs.declared.seen.Seen.{Seen}
use Rattle.sql_reader.specs.declared.parsed.Condition.{Condition}
use Rattle.sql_reader.specs.Kinds.{has, apart, within}

-- the forms that nest: conditions in parentheses, an expression in parentheses, the parentheses of a call, a sign
-- with what it stands before
pub data Nesting : Type 0 where
  Conditions : Nesting
  Parenthesis : Nesting
  Call : Nesting
  Signed : Nesting

-- what a nested form adds to
abbrev pub State : Nesting → Type 0
State Conditions = List Condition
State Parenthesis = Seen
State Call = Seen
State Signed = Seen

-- Give reads nothing. Take reads one terminal of these kinds. Then reads one rule behind another. Use reads a rule
-- from a part of what is known, and joins what it gives. Either reads one of two rules: the first exactly where
-- the next terminal is of these kinds. Many reads a rule any number of times: again where the next terminal is of these
-- kinds. Nest reads a nested form, one level deeper.
pub data Rule : Type 0 → Type 0 → Type 1 where
  Give : {A B : Type 0} → (A → B) → Rule A B
  Take : {A B : Type 0} → List TerminalKind → (A → Terminal → B) → Rule A B
  Then : {A B C : Type 0} → Rule A B → Rule B C → Rule A C
  Use : {A B C D : Type 0} → (A → B) → Rule B C → (A → C → D) → Rule A D
  Either : {A B : Type 0} → List TerminalKind → Rule A B → Rule A B → Rule A B
  Many : {A : Type 0} → List TerminalKind → Rule A A → Rule A A
  Nest : (x : Nesting) → Rule (State x) (State x)

-- What rules mean, apart from how they are read: which terminals lead from a value to which value.
abbrev pub Meaning : Type 0 → Type 0 → Type 1
Meaning A B = A → List Terminal → B → Type 0

-- n turns of a rule, one behind another
abbrev pub Turns : {A : Type 0} → Meaning A A → ℕ → Meaning A A
Turns turn zero a terminals b = (terminals ≡ []) × (b ≡ a)
Turns {A} turn (suc n) a terminals b =
    (front back : List Terminal) × (m : A) × (terminals ≡ front ++ back) × turn a front m × Turns turn n m back b

-- the meaning of a rule whose nested forms have these meanings
abbrev pub IsOver : (deeper : (x : Nesting) → Meaning (State x) (State x)) {A B : Type 0} → Rule A B → Meaning A B
IsOver deeper (Give f) a terminals b = (terminals ≡ []) × (b ≡ f a)
IsOver deeper (Take kinds f) a terminals b =
    (p : Terminal) × (has kinds p.kind ≡ true) × (terminals ≡ p ∷ []) × (b ≡ f a p)
IsOver deeper (Then {B = M} first second) a terminals b =
    (front back : List Terminal) × (m : M) × (terminals ≡ front ++ back) × IsOver deeper first a front m × IsOver deeper second m back b
IsOver deeper (Use {C = M} part rule join) a terminals b =
    (m : M) × IsOver deeper rule (part a) terminals m × (b ≡ join a m)
IsOver deeper (Either kinds left right) a terminals b = IsOver deeper left a terminals b ⊎ IsOver deeper right a terminals b
IsOver deeper (Many {A} kinds turn) a terminals b = (n : ℕ) × Turns (IsOver deeper turn) n a terminals b
IsOver deeper (Nest x) a terminals b = deeper x a terminals b

-- a grammar: the rule behind each nested form
abbrev pub Grammar : Type 1
Grammar = (x : Nesting) → Rule (State x) (State x)

-- the meaning of a nested form where at most so many levels nest
unfoldable pub IsNested : Grammar → ℕ → (x : Nesting) → Meaning (State x) (State x)
IsNested grammar zero x a terminals b = ⊥
IsNested grammar (suc n) x a terminals b = IsOver (IsNested grammar n) (grammar x) a terminals b

-- What reading leaves: a value and the terminals behind what was read, or the terminals from the first on at which
-- nothing goes on.
pub data Reading (B : Type 0) : Type 0 where
  Read : B → List Terminal → Reading B
  Stuck : List Terminal → Reading B

infixl 10 ◌>>=◌
abbrev pub ◌>>=◌ : {A B : Type 0} → Reading A → (A → List Terminal → Reading B) → Reading B
(Read a rest) >>= f = f a rest
(Stuck rest) >>= f = Stuck rest

-- the next terminal is of these kinds
abbrev pub begins : List TerminalKind → List Terminal → Bool
begins kinds [] = false
begins kinds (p ∷ terminals) = has kinds p.kind

-- one terminal of these kinds
abbrev pub terminal_of : List TerminalKind → List Terminal → Reading Terminal
terminal_of kinds [] = Stuck []
terminal_of kinds (p ∷ terminals) = if has kinds p.kind then Read p terminals else Stuck (p ∷ terminals)

-- a way to read
abbrev pub Reader : Type 0 → Type 0 → Type 0
Reader A B = A → List Terminal → Reading B

-- turns of a reader while the next terminal is of these kinds, at most so many
abbrev pub repeated : {A : Type 0} → ℕ → List TerminalKind → Reader A A → Reader A A
repeated zero kinds turn a terminals = Read a terminals
repeated (suc n) kinds turn a terminals =
    if begins kinds terminals then (turn a terminals >>= repeated n kinds turn) else Read a terminals

-- how a rule is read, with one look ahead, where its nested forms are read so
abbrev pub read_over : ((x : Nesting) → Reader (State x) (State x)) → {A B : Type 0} → Rule A B → Reader A B
read_over deeper (Give f) a terminals = Read (f a) terminals
read_over deeper (Take kinds f) a terminals = terminal_of kinds terminals >>= λ p rest. Read (f a p) rest
read_over deeper (Then first second) a terminals = read_over deeper first a terminals >>= read_over deeper second
read_over deeper (Use part rule join) a terminals =
    read_over deeper rule (part a) terminals >>= λ m rest. Read (join a m) rest
read_over deeper (Either kinds left right) a terminals =
    if begins kinds terminals then read_over deeper left a terminals else read_over deeper right a terminals
read_over deeper (Many kinds turn) a terminals = repeated (length terminals) kinds (read_over deeper turn) a terminals
read_over deeper (Nest x) a terminals = deeper x a terminals

-- how a nested form is read where at most so many levels nest: with none left, it fails at its first terminal
unfoldable pub read_nested : Grammar → ℕ → (x : Nesting) → Reader (State x) (State x)
read_nested grammar zero x a terminals = Stuck terminals
read_nested grammar (suc n) x a terminals = read_over (read_nested grammar n) (grammar x) a terminals

-- The test that a rule has to pass. The kinds with which a nested form begins, and those with which it may go on
-- where it could end too, are given; the test of a grammar checks them.
pub record Borders : Type 0 where
  pub first : Nesting → List TerminalKind
  pub more : Nesting → List TerminalKind

-- the rule may read nothing
abbrev pub may_be_empty : {A B : Type 0} → Rule A B → Bool
may_be_empty (Give f) = true
may_be_empty (Take kinds f) = false
may_be_empty (Then first second) = may_be_empty first && may_be_empty second
may_be_empty (Use part rule join) = may_be_empty rule
may_be_empty (Either kinds left right) = may_be_empty left || may_be_empty right
may_be_empty (Many kinds turn) = true
may_be_empty (Nest x) = false

-- the kinds with which the rule begins
abbrev pub first_of_rule : Borders → {A B : Type 0} → Rule A B → List TerminalKind
first_of_rule borders (Give f) = []
first_of_rule borders (Take kinds f) = kinds
first_of_rule borders (Then first second) =
    first_of_rule borders first ++ (if may_be_empty first then first_of_rule borders second else [])
first_of_rule borders (Use part rule join) = first_of_rule borders rule
first_of_rule borders (Either kinds left right) = first_of_rule borders left ++ first_of_rule borders right
first_of_rule borders (Many kinds turn) = first_of_rule borders turn
first_of_rule borders (Nest x) = borders.first x

-- the kinds with which the rule may go on where it could end too
abbrev pub more_of_rule : Borders → {A B : Type 0} → Rule A B → List TerminalKind
more_of_rule borders (Give f) = []
more_of_rule borders (Take kinds f) = []
more_of_rule borders (Then first second) =
    more_of_rule borders second ++ (if may_be_empty second then more_of_rule borders first else [])
more_of_rule borders (Use part rule join) = more_of_rule borders rule
more_of_rule borders (Either kinds left right) =
    (if may_be_empty right then kinds else []) ++ (more_of_rule borders left ++ more_of_rule borders right)
more_of_rule borders (Many kinds turn) = kinds ++ more_of_rule borders turn
more_of_rule borders (Nest x) = borders.more x

abbrev pub not_empty : List TerminalKind → Bool
not_empty [] = false
not_empty (k ∷ ks) = true

-- the rule ends, without a nested form, where the last alternative is taken everywhere
abbrev pub closes : {A B : Type 0} → Rule A B → Bool
closes (Give f) = true
closes (Take kinds f) = not_empty kinds
closes (Then first second) = closes first && closes second
closes (Use part rule join) = closes rule
closes (Either kinds left right) = closes right
closes (Many kinds turn) = true
closes (Nest x) = false

-- One look ahead is enough to read the rule: where it is read one terminal tells the alternatives apart, and whether
-- it goes on or ends.
abbrev pub good : Borders → {A B : Type 0} → Rule A B → Bool
good borders (Give f) = true
good borders (Take kinds f) = true
good borders (Then first second) =
    good borders first && (good borders second && (apart (more_of_rule borders first) (first_of_rule borders second) && closes second))
good borders (Use part rule join) = good borders rule
good borders (Either kinds left right) =
    good borders left && (good borders right && (not (may_be_empty left) && (within (first_of_rule borders left) kinds && (apart (first_of_rule borders right) kinds && closes right))))
good borders (Many kinds turn) =
    good borders turn && (not (may_be_empty turn) && (within (first_of_rule borders turn) kinds && apart (more_of_rule borders turn) kinds))
good borders (Nest x) = true

-- the rule behind a nested form is good, reads something, and has the borders that are given
abbrev pub good_nesting : Borders → Grammar → Nesting → Bool
good_nesting borders grammar x =
    good borders (grammar x) && (not (may_be_empty (grammar x)) && (within (first_of_rule borders (grammar x)) (borders.first x) && within (more_of_rule borders (grammar x)) (borders.more x)))
