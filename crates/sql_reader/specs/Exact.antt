-- What exact reading means: which value, and at which terminal nothing goes on.
use Rattle.std.specs.Prelude.{◌≡◌, ℕ, true, List, [], ◌∷◌, ◌++◌}
use Rattle.sql_reader.specs.declared.terminal.Terminal.{Terminal}
use Rattle.sql_reader.specs.Rule.{Nesting, Rule, Meaning, IsOver, Grammar, IsNested, Reading, Read, Stuck, Reader, read_over, read_nested, Borders, good_nesting}

-- which terminals a rule leads over from which value to which, where at most so many levels nest
abbrev pub IsRead : Grammar → ℕ → {A B : Type 0} → Rule A B → Meaning A B
IsRead grammar levels rule a terminals b = IsOver (IsNested grammar levels) rule a terminals b

-- how the rule is read
abbrev pub reads : Grammar → ℕ → {A B : Type 0} → Rule A B → Reader A B
reads grammar levels rule a terminals = read_over (read_nested grammar levels) rule a terminals

-- something that is meant begins with these terminals
abbrev pub GoesOn : {A B : Type 0} → Meaning A B → A → List Terminal → Type 0
GoesOn {A} {B} is a front = (more : List Terminal) × (b : B) × is a (front ++ more) b

-- nothing that is meant goes on behind the front with a terminal of this first kind, or ends there where there is none
abbrev pub NoneGoesOn : {A B : Type 0} → Meaning A B → A → List Terminal → List Terminal → Type 0
NoneGoesOn {A} {B} is a front [] = (b : B) → is a front b → ⊥
NoneGoesOn {A} {B} is a front (p ∷ rest) =
    (q : Terminal) (more : List Terminal) (b : B) → q.kind ≡ p.kind → is a (front ++ q ∷ more) b → ⊥

-- The terminals fail where this rest of them begins: something goes on up to there, and nothing from there.
pub record FailsAt {A B : Type 0} (is : Meaning A B) (a : A) (terminals rest : List Terminal) : Type 0 where
  pub front : List Terminal
  pub split : terminals ≡ front ++ rest
  pub before : GoesOn is a front
  pub none : NoneGoesOn is a front rest

-- A reading of all terminals is exact: it gives what is meant, or the place at which they fail.
abbrev pub IsExact : {A B : Type 0} → Meaning A B → A → List Terminal → Reading B → Type 0
IsExact is a terminals (Read b []) = is a terminals b
IsExact is a terminals (Read b (p ∷ rest)) = FailsAt is a terminals (p ∷ rest)
IsExact is a terminals (Stuck rest) = FailsAt is a terminals rest

-- every nested form of a grammar passes its test
abbrev pub IsGood : Borders → Grammar → Type 0
IsGood borders grammar = (x : Nesting) → good_nesting borders grammar x ≡ true
