use Rattle.std.proofs.Common.{◌≤◌, length}
use Rattle.sql_reader.proofs.Digits.{DigitsFrom}
use Rattle.sql_reader.proofs.words.last_digits.Given as goal

-- from the place on there are digits
abbrev pub invariant-turns : goal.invariant-turns
invariant-turns l = record { within : l.start ≤ length l.bytes; digits : DigitsFrom l.start l.bytes }

abbrev pub decreases-turns : goal.decreases-turns
decreases-turns l = l.start
