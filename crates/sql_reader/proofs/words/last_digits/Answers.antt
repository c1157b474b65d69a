use Rattle.std.proofs.Common.{◌≡◌, ◌-◌, ◌<◌, false, get_or, sym, ◌∙◌, subst, arith}
use Rattle.std.specs.Char.{is_ascii_digit}
use Rattle.std.specs.Str.Parse.{AllDigits}
use Rattle.std.proofs.lemmas.List.{take_rest}
use Rattle.sql_reader.proofs.Digits.{digits_behind, are_last}
use Rattle.sql_reader.proofs.words.last_digits.Goals as goal
use Rattle.sql_reader.proofs.words.last_digits.Goals.{then-turns-test+else-is_ascii_digit, else-turns-test}

pub returns-clause-value : goal.returns-clause-value
returns-clause-value c =
    let none : 0 < c.turns.start → is_ascii_digit (get_or c.args.bytes.now (c.turns.start - 1) 0) ≡ false = elim c.turns-test.branch [
      | then-turns-test+else-is_ascii_digit w ↦ λ _. sym w.is_ascii_digit.ensures.value ∙ w.if-is_ascii_digit.false
      | else-turns-test w ↦ λ some. absurd (omega arith)
    ] in
    take_rest c.args.bytes.now c.turns.start ∙ are_last c.args.bytes.now c.turns.start c.turns.invariant.within c.turns.invariant.digits none

pub returns-clause-digits : goal.returns-clause-digits
returns-clause-digits c = subst (AllDigits 10) (sym (take_rest c.args.bytes.now c.turns.start)) (digits_behind c.args.bytes.now c.turns.start c.turns.invariant.digits)
