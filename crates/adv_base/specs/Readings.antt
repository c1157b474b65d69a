-- Readings of a text, or of the words of a command line: each gives a value or the first fault. The type of the faults
-- is the reader's own.
use Rattle.std.specs.Prelude.{◌≡◌, ◌≢◌, Bool, if◌then◌else◌, List, [], ◌∷◌, ◌++◌, Option, Some, None, Result, Ok, Err}

infixl 10 ◌>>=◌
-- one reading and then the next, unless the first has a fault
abbrev pub ◌>>=◌ : {E A B : Type 0} → Result A E → (A → Result B E) → Result B E
(Ok x) >>= f = f x
(Err e) >>= f = Err e

-- what a function returned, seen by view, is what reading gives, unless memory ran out
abbrev pub GivesUnless : {E X Y : Type 0} → E → (X → Y) → Result X E → Result Y E → Type 0
GivesUnless memory view (Ok x) read = read ≡ Ok (view x)
GivesUnless memory view (Err e) read = e ≢ memory → read ≡ Err e

-- a value that is there, or else the fault
abbrev pub or_fault : {E A : Type 0} → E → Option A → Result A E
or_fault fault None = Err fault
or_fault fault (Some x) = Ok x

-- a value where a test holds, or else the fault
abbrev pub where_holds : {E A : Type 0} → E → Bool → A → Result A E
where_holds fault holds x = if holds then Ok x else Err fault

-- a step for each element in turn, from what the steps before gave, up to the first fault
abbrev pub in_turn : {E S A : Type 0} → (S → A → Result S E) → S → List A → Result S E
in_turn step s [] = Ok s
in_turn step s (x ∷ xs) = step s x >>= λ t. in_turn step t xs

-- one more reading, behind those before it
abbrev pub put_behind : {E A B : Type 0} → (A → Result B E) → List B → A → Result (List B) E
put_behind f done x = f x >>= λ y. Ok (done ++ y ∷ [])

-- the reading of each element, or the first fault
abbrev pub each : {E A B : Type 0} → (A → Result B E) → List A → Result (List B) E
each f xs = in_turn (put_behind f) [] xs
