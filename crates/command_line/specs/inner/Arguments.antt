-- What is left of a command line, where its words are read one after another.
use Rattle.std.specs.Prelude.{◌≡◌, ℕ, suc, ◌+◌, Bool, if◌then◌else◌, List, [], ◌∷◌, length, Option, Some, None, Result, Ok, Err}
use Rattle.adv_base.specs.Readings.{◌>>=◌, or_fault}
use Rattle.command_line.specs.declared.fault.WordFault.{WordFault}
use Rattle.command_line.specs.declared.arguments.Arguments.{Arguments}
use Rattle.command_line.specs.declared.fault.WordFault.TheVariants.{BadNumber}
use Rattle.command_line.specs.CommandLine.{PlainCommand, PlainOptions, WordKind, File, Number, Takes, Row, Plain, Search, texts, no_options, word_at, number_at, end_at, options_from, read_plain}

-- what is read next, unless there was a fault before: a word, a number, the options of a search, nothing behind a command
abbrev pub next_word : Arguments → Result (List ℕ) WordFault
next_word line = line.so_far >>= λ _. word_at (texts line.words.now) (line.at + 1)

abbrev pub next_number : ℕ → ℕ → Arguments → Result ℕ WordFault
next_number least most line = line.so_far >>= λ _. number_at (texts line.words.now) (line.at + 1) least most

abbrev pub next_options : Bool → Arguments → Result PlainOptions WordFault
next_options certifies line = line.so_far >>= λ _. options_from certifies (texts line.words.now) 3 (line.at + 1) no_options

abbrev pub at_end : Arguments → PlainCommand → Result PlainCommand WordFault
at_end line command = line.so_far >>= λ _. end_at (texts line.words.now) line.at >>= λ _. Ok command

abbrev pub judged : Bool → Arguments → Result (Unit {0}) WordFault
judged go_together line = line.so_far >>= λ _. if go_together then Ok tt else Err (BadNumber line.at)

-- what stands behind the plain words of a command: nothing, or the options of a search
pub data Tail : Type 0 where
  Nothing : Tail
  Options : (certifies : Bool) → Tail

-- what plain words give: a command, or one that waits for options, unless they don't go together
abbrev pub Asked : Tail → Type 0
Asked Nothing = PlainCommand
Asked (Options certifies) = Option (PlainOptions → PlainCommand)

-- what is read behind the last plain word
abbrev pub behind : (tail : Tail) → List (List ℕ) → ℕ → Asked tail → Result PlainCommand WordFault
behind Nothing words at command = end_at words at >>= λ _. Ok command
behind (Options certifies) words at waiting =
    or_fault (BadNumber at) waiting >>= λ command. options_from certifies words 3 (at + 1) no_options >>= λ options. Ok (command options)

-- what the words behind the one of a number give by these kinds, unless there was a fault before
unfoldable pub rest : (tail : Tail) → Result (Unit {0}) WordFault → List (List ℕ) → ℕ → (kinds : List WordKind) → Takes kinds (Asked tail) → Result PlainCommand WordFault
rest tail before words at kinds asked = before >>= λ _. read_plain words (suc at) kinds asked (behind tail words (at + length kinds))

-- what is left of a command line gives by a row of the table
abbrev pub by_row : Row → Arguments → Result PlainCommand WordFault
by_row (Plain name kinds asked) line = rest Nothing line.so_far (texts line.words.now) line.at kinds asked
by_row (Search name certifies kinds asked) line = rest (Options certifies) line.so_far (texts line.words.now) line.at kinds asked

-- the name of a file was read, so that what is left gives what was left before
pub record ReadsFile (old new : Arguments) (name : List ℕ) : Type 0 where
  pub step : (tail : Tail) (kinds : List WordKind) (asked : List ℕ → Takes kinds (Asked tail)) →
      rest tail old.so_far (texts old.words.now) old.at (File ∷ kinds) asked ≡ rest tail new.so_far (texts new.words.now) new.at kinds (asked name)

-- so it is with a number
pub record ReadsNumber (least most : ℕ) (old new : Arguments) (number : ℕ) : Type 0 where
  pub step : (tail : Tail) (kinds : List WordKind) (asked : ℕ → Takes kinds (Asked tail)) →
      rest tail old.so_far (texts old.words.now) old.at (Number least most ∷ kinds) asked ≡ rest tail new.so_far (texts new.words.now) new.at kinds (asked number)

-- plain words were judged as a whole, and do or don't go together, so that what is left gives what was left before
pub record GoTogether (go_together : Bool) (old new : Arguments) : Type 0 where
  pub at_is : new.at ≡ old.at
  pub step : (certifies : Bool) (command : PlainOptions → PlainCommand) →
      rest (Options certifies) old.so_far (texts old.words.now) old.at [] (if go_together then Some command else None) ≡ rest (Options certifies) new.so_far (texts new.words.now) new.at [] (Some command)
