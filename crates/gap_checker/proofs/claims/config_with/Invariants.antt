use Rattle.std.proofs.Common.{◌≡◌, take}
use Rattle.gap_checker.specs.Views as views
use Rattle.gap_checker.proofs.claims.config_with.Given as goal

abbrev pub invariant-loop-number : goal.invariant-loop-number
invariant-loop-number l = l.config ≡ views.config_with (take l.number-index l.numbers)
