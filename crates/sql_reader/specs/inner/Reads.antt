-- What a reader of the code has in common with the reading of a rule.
use Rattle.std.specs.Prelude.{◌≡◌, List, [], ◌∷◌, ◌++◌, Result, Ok, Err}
use Rattle.sql_reader.specs.declared.terminal.Terminal.{Terminal}
use Rattle.sql_reader.specs.declared.cursor.Cursor.{Cursor}
use Rattle.sql_reader.specs.inner.Remaining.{remaining}
use Rattle.sql_reader.specs.declared.cursor.GrammarReader.{GrammarReader}
use Rattle.sql_reader.specs.declared.cursor.Unread.{Unread}
use Rattle.sql_reader.specs.declared.cursor.Unread.TheVariants.{Memory, Here}
use Rattle.sql_reader.specs.Rule.{Nesting, State, Rule, Reading, Read, Stuck, read_nested}
use Rattle.sql_reader.specs.Exact.{reads}
use Rattle.sql_reader.specs.Grammar.{grammar}

abbrev pub same : {X : Type 0} → X → X
same x = x

-- reading stops before these terminals
abbrev pub StopsAt : {Y : Type 0} → Unread → Reading Y → List Terminal → Type 0
StopsAt Memory reading rest = Unit {0}
StopsAt Here reading rest = reading ≡ Stuck rest

-- What a function returned, seen by view, and the terminals that it left are what the reading gives, unless there was
-- no memory.
abbrev pub Gives : {X Y : Type 0} → (X → Y) → Result X Unread → Reading Y → Cursor → Type 0
Gives view (Ok x) reading new = reading ≡ Read (view x) (remaining new)
Gives view (Err stop) reading new = StopsAt stop reading (remaining new)

-- a function reads by a rule
abbrev pub ReadsBy : {A B : Type 0} → Rule A B → A → GrammarReader → Cursor → Result B Unread → Cursor → Type 0
ReadsBy rule a reader old result new = Gives same result (reads grammar reader.levels rule a (remaining old)) new

-- the value was put behind the others, unless there was no memory
abbrev pub IsPush : {X : Type 0} → List X → X → Result (Unit {0}) Unread → List X → Type 0
IsPush old x (Ok _) new = new ≡ old ++ x ∷ []
IsPush old x (Err stop) new = stop ≡ Memory

-- a function that adds to what is known reads by a rule
abbrev pub AddsBy : {A B : Type 0} → Rule A B → A → GrammarReader → Cursor → Result (Unit {0}) Unread → B → Cursor → Type 0
AddsBy rule a reader old result b new = Gives (λ _. b) result (reads grammar reader.levels rule a (remaining old)) new

-- a function that adds to what is known reads a nested form, one level deeper
abbrev pub AddsNested : (x : Nesting) → State x → GrammarReader → Cursor → Result (Unit {0}) Unread → State x → Cursor → Type 0
AddsNested x a reader old result b new = Gives (λ _. b) result (read_nested grammar reader.levels x a (remaining old)) new
