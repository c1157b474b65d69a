use Rattle.std.proofs.Common.{◌≡◌, ◌≤◌, take}
use Rattle.std.specs.Str.Parse.{digits_value}
use Rattle.sql_reader.proofs.words.number_up_to.Given as goal

-- the number of the digits so far
abbrev pub invariant-turns : goal.invariant-turns
invariant-turns l = record { value : l.number ≡ digits_value 10 (take l.byte-index l.digits); small : l.number ≤ l.most }
