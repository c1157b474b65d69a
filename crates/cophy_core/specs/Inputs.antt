-- The bytes that a command answers from, and what is kept of them.
use Rattle.std.specs.Prelude.{◌≡◌, ℕ, List, [], ◌∷◌, Option, Some, None, IsSomeAnd}
use Rattle.adv_shelf.specs.Shelf.{Files}
use Rattle.certificate.specs.Scanners.{StandsFor}
use Rattle.certificate.specs.declared.scanner.Scanner.{Scanner}
use Rattle.workload_gen.specs.Texts.{catalogue_text, workload_text}
use Rattle.cophy_core.specs.declared.files.Inputs.{Inputs}
use Rattle.cophy_core.specs.Files.{InputFile, AreInputs, SomeInput}
use Rattle.cophy_core.specs.commands.{whole_files, certificate_of, files_of}
use Rattle.command_line.specs.CommandLine.{PlainCommand, Bench}

-- those of its files, in their order; those of `bench` are a catalogue and a workload that are made
abbrev pub HasInputs : Option Files → PlainCommand → List (List ℕ) → Type 0
HasInputs files (Bench seed tables statements budget) inputs = inputs ≡ catalogue_text seed tables ∷ workload_text seed tables statements ∷ []
HasInputs files command inputs = AreInputs files (files_of command) inputs

-- those that are held whole: all of them, but not those of a certificate
abbrev pub HasWhole : Option Files → PlainCommand → List (List ℕ) → Type 0
HasWhole files (Bench seed tables statements budget) whole = HasInputs files (Bench seed tables statements budget) whole
HasWhole files command whole = AreInputs files (whole_files command) whole

-- a scanner stands for the bytes of the certificate, if there is one
abbrev pub HasScanned : Option Files → Option InputFile → Option Scanner → Type 0
HasScanned files (Some file) scanner = IsSomeAnd scanner (λ s. SomeInput files file (StandsFor s))
HasScanned files None scanner = scanner ≡ None

-- what is kept of all of them
abbrev pub HasRead : Option Files → PlainCommand → Inputs → Type 0
HasRead files command read = HasWhole files command read.whole × HasScanned files (certificate_of command) read.scanner
