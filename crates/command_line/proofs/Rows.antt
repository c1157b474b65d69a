-- Rows of the table of commands, read one word after another.
use Rattle.std.proofs.Common.{◌≡◌, ℕ, suc, ◌+◌, Bool, true, false, cond, Some, None, List, [], ◌∷◌, length, Result, Ok, Err, refl, sym, ap, subst, ◌∙◌, arith}
use Rattle.std.specs.Str.{bytes_eq}
use Rattle.std.proofs.lemmas.Slice.Eq.{bytes_eq-Decides}
use Rattle.adv_base.specs.Readings.{◌>>=◌}
use Rattle.command_line.specs.declared.fault.WordFault.{WordFault}
use Rattle.command_line.specs.declared.fault.WordFault.TheVariants.{BadNumber}
use Rattle.command_line.specs.declared.commands.Command.{Command}
use Rattle.command_line.specs.CommandLine.{PlainCommand, PlainOptions, WordKind, File, Number, Takes, Row, Plain, Search, GivesBy, plain_command, no_options, name_of, read_row, named_command, word_at, number_at, end_at, options_from}
use Rattle.command_line.specs.inner.Arguments.{Tail, Nothing, Options, Asked, rest}

-- ## A word is read

pub file_read : (tail : Tail) (before : Result (Unit {0}) WordFault) (words : List (List ℕ)) (at next : ℕ) (kinds : List WordKind) (asked : List ℕ → Takes kinds (Asked tail)) (name : List ℕ) →
    next ≡ suc at → (before >>= λ _. word_at words next) ≡ Ok name → rest tail before words at (File ∷ kinds) asked ≡ rest tail before words next kinds (asked name)
unfolding rest
file_read tail (Ok u) words at next kinds asked name is e =
    let last : at + suc (length kinds) ≡ suc at + length kinds = omega arith in
    rw (is, last, (rw is at e))
file_read tail (Err f) words at next kinds asked name is e = absurd (let h : Err f ≡ Ok name = e in cc)

pub file_fault : (tail : Tail) (before : Result (Unit {0}) WordFault) (words : List (List ℕ)) (at next : ℕ) (kinds : List WordKind) (asked : List ℕ → Takes kinds (Asked tail)) (name : List ℕ) (fault : WordFault) →
    next ≡ suc at → (before >>= λ _. word_at words next) ≡ Err fault → rest tail before words at (File ∷ kinds) asked ≡ rest tail (Err fault) words next kinds (asked name)
unfolding rest
file_fault tail (Ok u) words at next kinds asked name fault is e = rw (rw is at e)
file_fault tail (Err f) words at next kinds asked name fault is e = let same : f ≡ fault = cc in ap Err same

pub number_read : (tail : Tail) (before : Result (Unit {0}) WordFault) (words : List (List ℕ)) (at next least most : ℕ) (kinds : List WordKind) (asked : ℕ → Takes kinds (Asked tail)) (number : ℕ) →
    next ≡ suc at → (before >>= λ _. number_at words next least most) ≡ Ok number → rest tail before words at (Number least most ∷ kinds) asked ≡ rest tail before words next kinds (asked number)
unfolding rest
number_read tail (Ok u) words at next least most kinds asked number is e =
    let last : at + suc (length kinds) ≡ suc at + length kinds = omega arith in
    rw (is, last, (rw is at e))
number_read tail (Err f) words at next least most kinds asked number is e = absurd (let h : Err f ≡ Ok number = e in cc)

pub number_fault : (tail : Tail) (before : Result (Unit {0}) WordFault) (words : List (List ℕ)) (at next least most : ℕ) (kinds : List WordKind) (asked : ℕ → Takes kinds (Asked tail)) (number : ℕ) (fault : WordFault) →
    next ≡ suc at → (before >>= λ _. number_at words next least most) ≡ Err fault → rest tail before words at (Number least most ∷ kinds) asked ≡ rest tail (Err fault) words next kinds (asked number)
unfolding rest
number_fault tail (Ok u) words at next least most kinds asked number fault is e = rw (rw is at e)
number_fault tail (Err f) words at next least most kinds asked number fault is e = let same : f ≡ fault = cc in ap Err same

-- ## No plain word is left

pub row_ends : (before : Result (Unit {0}) WordFault) (words : List (List ℕ)) (at : ℕ) (command : PlainCommand) →
    rest Nothing before words at [] command ≡ (before >>= λ _. end_at words at >>= λ _. Ok command)
unfolding rest
row_ends before words at command = let same : at + 0 ≡ at = omega arith in rw same

pub row_searches : (certifies : Bool) (before : Result (Unit {0}) WordFault) (words : List (List ℕ)) (at : ℕ) (command : PlainOptions → PlainCommand) →
    rest (Options certifies) before words at [] (Some command) ≡ ((before >>= λ _. options_from certifies words 3 (at + 1) no_options) >>= λ options. Ok (command options))
unfolding rest
row_searches certifies (Ok u) words at command = let same : at + 0 ≡ at = omega arith in rw same
row_searches certifies (Err fault) words at command = refl

-- plain words go together, or the last of them is at fault
pub row_together : (certifies told : Bool) (before after : Result (Unit {0}) WordFault) (words : List (List ℕ)) (at : ℕ) (command : PlainOptions → PlainCommand) →
    after ≡ (before >>= λ _. cond told (Ok tt) (Err (BadNumber at))) → rest (Options certifies) before words at [] (cond told (Some command) None) ≡ rest (Options certifies) after words at [] (Some command)
unfolding rest
row_together certifies true (Ok u) after words at command is = rw is refl
row_together certifies false (Ok u) after words at command is = let same : at + 0 ≡ at = omega arith in rw (is, same) refl
row_together certifies told (Err fault) after words at command is = rw is refl

-- ## Rows by their names

-- what the words behind a row's name give, read one after another
abbrev pub from_name : Row → List (List ℕ) → Result PlainCommand WordFault
from_name (Plain name kinds asked) words = rest Nothing (Ok tt) words 1 kinds asked
from_name (Search name certifies kinds asked) words = rest (Options certifies) (Ok tt) words 1 kinds asked

row_read : (row : Row) (words : List (List ℕ)) → read_row words row ≡ from_name row words
unfolding rest
row_read (Plain name kinds asked) words = let same : length kinds + 1 ≡ 1 + length kinds = omega arith in rw same
row_read (Search name certifies kinds asked) words =
    let last : length kinds + 1 ≡ 1 + length kinds = omega arith in
    let same : length kinds + 2 ≡ 1 + length kinds + 1 = omega arith in
    rw (same, last)

pub other_name : (word name : List ℕ) → (word ≡ name → ⊥) → bytes_eq word name ≡ false
other_name word name other = not_true (bytes_eq word name) (λ e. other ((bytes_eq-Decides word name).0 e))
  where
    not_true : (t : Bool) → (t ≡ true → ⊥) → t ≡ false
    not_true true never = absurd (never refl)
    not_true false never = refl

pub row_gives : (row : Row) (name : List ℕ) (words : List (List ℕ)) (command : Result Command WordFault) →
    name ≡ name_of row → named_command (name_of row) words ≡ read_row words row → GivesBy plain_command command (from_name row words) → GivesBy plain_command command (named_command name words)
row_gives row name words command is found gives =
    rw is (subst (GivesBy plain_command command) (sym (found ∙ row_read row words)) gives)
