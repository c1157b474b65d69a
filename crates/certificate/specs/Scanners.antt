-- What a scanner stands for.
use Rattle.std.specs.Prelude.{ℕ, List}
use Rattle.certificate.specs.declared.scanner.Scanner.{Scanner}
use Rattle.certificate.specs.inner.States.{StandsForAt, HasGivenUpAt}

-- a text's whole lines were read, and one is open; or it breaks at a line however it goes on
abbrev pub StandsFor : Scanner → List ℕ → Type 0
StandsFor scanner text = StandsForAt scanner.state text

-- memory ran out
abbrev pub HasGivenUp : Scanner → Type 0
HasGivenUp scanner = HasGivenUpAt scanner.state
