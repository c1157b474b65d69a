use Rattle.std.proofs.Common.{◌+◌, sym, arith}
use Rattle.std.proofs.lemmas.Str.Parse.{digit_at}
use Rattle.sql_reader.proofs.Digits.{one_more, too_large}
use Rattle.sql_reader.proofs.words.number_up_to.Goals as goal

pub overflow_sub-digit : goal.overflow_sub-digit
overflow_sub-digit c = (digit_at c.args.digits.now c.turns.byte-index c.requires.digits c.turns-test.true).0

pub returns-then-number-most : goal.returns-then-number-most
returns-then-number-most c =
    let next = one_more c.args.digits.now c.turns.byte-index c.requires.digits c.turns-test.true in
    sym (too_large c.args.digits.now (c.turns.byte-index + 1) c.args.most (omega (arith, c.turns.invariant.value, next)))

pub turns-preserved : goal.turns-preserved
turns-preserved c =
    let next = one_more c.args.digits.now c.turns.byte-index c.requires.digits c.turns-test.true in
    record { value = omega (arith, c.turns.invariant.value, next); small = omega arith }
