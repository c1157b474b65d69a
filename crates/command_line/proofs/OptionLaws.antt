-- Options, read one at a time.
use Rattle.std.proofs.Common.{◌≡◌, ℕ, suc, ◌+◌, ◌<◌, ◌≤◌, Bool, List, length, Ok, arith}
use Rattle.std.proofs.lemmas.Bool.Decides.{nat_tests}
use Rattle.adv_base.specs.Readings.{◌>>=◌}
use Rattle.command_line.specs.CommandLine.{PlainOptions, options_from, option_at}

-- no word is left
pub options_from-end : (certifies : Bool) (words : List (List ℕ)) (turns number : ℕ) (given : PlainOptions) → length words < number → options_from certifies words (suc turns) number given ≡ Ok given
unfolding options_from
options_from-end certifies words turns number given h = grind (arith, nat_tests)

-- the option at the next word, and those behind it
pub options_from-next : (certifies : Bool) (words : List (List ℕ)) (turns number : ℕ) (given : PlainOptions) → number ≤ length words → options_from certifies words (suc turns) number given ≡ (option_at certifies words number given >>= options_from certifies words turns (number + 2))
unfolding options_from
options_from-next certifies words turns number given h = grind (arith, nat_tests)
