-- What the state of a scanner stands for.
use Rattle.std.specs.Prelude.{ℕ, List}
use Rattle.certificate.specs.declared.state.State.{State}
use Rattle.certificate.specs.declared.state.State.TheVariants as states
use Rattle.certificate.specs.inner.Pieces.{IsRead, IsReached, Breaks}

abbrev pub StandsForAt : State → List ℕ → Type 0
StandsForAt (states.Reading reading) text = IsRead reading text
StandsForAt (states.Broken number) text = Breaks text number
StandsForAt states.GivenUp text = ⊥

abbrev pub HasGivenUpAt : State → Type 0
HasGivenUpAt states.GivenUp = Unit {0}
HasGivenUpAt state = ⊥

-- what is being read was reached
abbrev pub IsReachedAt : State → Type 0
IsReachedAt (states.Reading reading) = IsReached reading
IsReachedAt state = Unit {0}
