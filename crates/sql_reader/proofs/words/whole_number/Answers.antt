use Rattle.std.proofs.Common.{◌≡◌, true}
use Rattle.std.specs.Char.{is_ascii_digit}
use Rattle.std.specs.List.{list_all}
use Rattle.sql_reader.proofs.Digits.{each_digit, eighteen}
use Rattle.sql_reader.proofs.words.whole_number.Goals as goal

pub number_up_to-requires-clause-digits : goal.number_up_to-requires-clause-digits
number_up_to-requires-clause-digits c = let all : list_all is_ascii_digit c.args.bytes.now ≡ true = cc in each_digit c.args.bytes.now all

pub returns-in-None-clause-value : goal.returns-in-None-clause-value
returns-in-None-clause-value c =
    let all : list_all is_ascii_digit c.args.bytes.now ≡ true = cc in
    absurd (eighteen c.args.bytes.now (each_digit c.args.bytes.now all) c.if-bytes-gt18.false c.in-None.ensures)
