use Rattle.std.proofs.Common.{◌≡◌, ◌+◌, ◌++◌, drop}
use Rattle.certificate.specs.Answers.{numbers_from}
use Rattle.certificate.specs.Texts.{words}
use Rattle.certificate.proofs.lines.push_numbers.Given as goal

-- the numbers so far, and those of the flags that are left, are those of all
abbrev pub invariant-flags : goal.invariant-flags
invariant-flags l =
    l.out.items ++ words (numbers_from (l.at + 1) (drop l.at l.config.on)) ≡ l.initial.out.items ++ words (numbers_from 1 l.config.on)
