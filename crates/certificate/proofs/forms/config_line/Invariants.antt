use Rattle.std.proofs.Common.{◌≡◌, ◌≤◌, ◌++◌, length}
use Rattle.std.specs.Prelude.{codes}
use Rattle.certificate.specs.Limits.{Rise}
use Rattle.certificate.specs.Texts.{words}
use Rattle.certificate.proofs.FormLaws.{next_least, Leaves}
use Rattle.certificate.proofs.forms.config_line.Given as goal

-- the numbers so far rise, and what is left of the line is what is left of any configuration of that line
abbrev pub invariant-numbers : goal.invariant-numbers
invariant-numbers l = record {
  parts : l.line ≡ codes "config" ++ (words l.numbers.items ++ l.rest);
  rise : Rise 1 l.numbers.items;
  least : l.least ≡ next_least 1 l.numbers.items;
  few : l.least ≤ 257;
  leaves : Leaves l.line l.least l.rest;
}

abbrev pub decreases-numbers : goal.decreases-numbers
decreases-numbers l = length l.rest
