-- What it is to answer a fault of binding, and which of two faults stands first.
use Rattle.std.specs.Prelude.{ℕ, nat_le, if◌then◌else◌, Result, Ok, Err}
use Rattle.adv_base.specs.Readings.{GivesUnless}
use Rattle.binder.specs.declared.fault.BindFault.{BindFault}
use Rattle.binder.specs.declared.fault.BindFault.TheVariants.{Memory, NoTable, NoColumn, Ambiguous, TwoAliases, TooManySlots, Unjoined, TooManySlotsInAll}

-- what a function returned, seen by view, is what reading gives, unless memory ran out
abbrev pub Gives : {X Y : Type 0} → (X → Y) → Result X BindFault → Result Y BindFault → Type 0
Gives view result read = GivesUnless Memory view result read

-- where a fault stands in the text
abbrev pub fault_place : BindFault → ℕ
fault_place Memory = 0
fault_place (NoTable p) = p
fault_place (NoColumn p) = p
fault_place (Ambiguous p) = p
fault_place (TwoAliases p) = p
fault_place (TooManySlots p) = p
fault_place (Unjoined p) = p
fault_place (TooManySlotsInAll p) = p

-- the fault that stands first in the text
abbrev pub earlier : BindFault → BindFault → BindFault
earlier d e = if nat_le (fault_place d) (fault_place e) then d else e

-- two readings whose parts stand among each other in the text, or the fault that stands first
abbrev pub both : {A B : Type 0} → Result A BindFault → Result B BindFault → Result (A × B) BindFault
both (Ok a) (Ok b) = Ok (a, b)
both (Ok a) (Err e) = Err e
both (Err d) (Ok b) = Err d
both (Err d) (Err e) = Err (earlier d e)
