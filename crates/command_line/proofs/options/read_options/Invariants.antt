use Rattle.std.proofs.Common.{◌≡◌, ◌+◌, ◌-◌, ◌*◌}
use Rattle.command_line.specs.CommandLine.{texts, plain_options, no_options, options_from}
use Rattle.command_line.proofs.options.read_options.Given as goal

-- the options that are left give, behind those so far, what all give
abbrev pub invariant-options : goal.invariant-options
invariant-options l =
    options_from l.certifies (texts l.words) (3 - l.turn) (l.first + 2 * l.turn) (plain_options l.given) ≡ options_from l.certifies (texts l.words) 3 l.first no_options
