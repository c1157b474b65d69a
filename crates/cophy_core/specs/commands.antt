-- What each command means: the files that it reads, and what it refuses, gives and puts over the bytes that it answers from.
pub mod Advise
pub mod Bench
pub mod Candidates
pub mod Check
pub mod CheckRuled
pub mod Cost
pub mod Explain
pub mod Fold
pub mod WhatIf
pub mod Retune
pub mod Ruled
pub mod Sweep
use Rattle.std.specs.Prelude.{◌≡◌, List, ℕ, [], ◌∷◌, ◌++◌, Option, Some, None, option_to_list}
use Rattle.adv_base.specs.declared.limits.TheConstants.{MOST_CERTIFICATE_BYTES}
use Rattle.adv_base.specs.Settings.{TheSetting}
use Rattle.report.specs.declared.done.Done.{Done}
use Rattle.report.specs.declared.done.Refusal.{Refusal}
use Rattle.report.specs.declared.done.Role.TheVariants.{Third, Fourth}
use Rattle.command_line.specs.CommandLine as line
use Rattle.command_line.specs.CommandLine.{PlainCommand}
use Rattle.cophy_core.specs.Endings.{Put}
use Rattle.cophy_core.specs.Files.{InputFile, input, input_file, setting_files, three_files}
use Rattle.cophy_core.specs.Stops.{LacksProgramme}

-- the files that a command reads whole, in the order in which it reads them; `bench` reads none
abbrev pub whole_files : PlainCommand → List InputFile
whole_files (line.Candidates cat load) = setting_files cat load
whole_files (line.Cost cat load) = setting_files cat load
whole_files (line.WhatIf cat load conf) = three_files cat load conf
whole_files (line.Explain cat load conf number) = three_files cat load conf
whole_files (line.Advise cat load budget nodes cert) = setting_files cat load
whole_files (line.Ruled cat load budget rules nodes cert) = three_files cat load rules
whole_files (line.Sweep cat load first step count nodes cert) = setting_files cat load
whole_files (line.Retune cat load edits budget nodes) = three_files cat load edits
whole_files (line.Check cat load cert) = setting_files cat load
whole_files (line.CheckRuled cat load rules cert) = three_files cat load rules
whole_files (line.Fold cat load out) = setting_files cat load
whole_files (line.Bench seed tables statements budget) = []

-- the certificate that it reads behind them, piece by piece
abbrev pub certificate_of : PlainCommand → Option InputFile
certificate_of (line.Check cat load cert) = Some (input_file Third cert MOST_CERTIFICATE_BYTES)
certificate_of (line.CheckRuled cat load rules cert) = Some (input_file Fourth cert MOST_CERTIFICATE_BYTES)
certificate_of command = None

-- all files that it reads
abbrev pub files_of : PlainCommand → List InputFile
files_of command = whole_files command ++ option_to_list (certificate_of command)

-- what a command refuses of the bytes that it answers from and their setting, beyond the setting's own refusals
abbrev pub RefusesOver : PlainCommand → List (List ℕ) → TheSetting → Refusal → Type 0
RefusesOver (line.WhatIf cat load conf) inputs setting why = WhatIf.Refuses (input inputs 2) setting why
RefusesOver (line.Explain cat load conf number) inputs setting why = Explain.Refuses number (input inputs 2) setting why
RefusesOver (line.Advise cat load budget nodes cert) inputs setting why = LacksProgramme setting why
RefusesOver (line.Ruled cat load budget rules nodes cert) inputs setting why = Ruled.Refuses budget (input inputs 2) setting why
RefusesOver (line.Sweep cat load first step count nodes cert) inputs setting why = LacksProgramme setting why
RefusesOver (line.Retune cat load edits budget nodes) inputs setting why = Retune.Refuses (input inputs 2) setting why
RefusesOver (line.CheckRuled cat load rules cert) inputs setting why = CheckRuled.Refuses (input inputs 2) setting why
RefusesOver (line.Fold cat load out) inputs setting why = Fold.Refuses (input inputs 1) setting why
RefusesOver (line.Bench seed tables statements budget) inputs setting why = LacksProgramme setting why
RefusesOver command inputs setting why = ⊥

-- what a command gives over the bytes that it answers from and their setting
abbrev pub GivesOver : PlainCommand → List (List ℕ) → TheSetting → Done → Type 0
GivesOver (line.Candidates cat load) inputs setting done = Candidates.Gives setting done
GivesOver (line.Cost cat load) inputs setting done = Cost.Gives setting done
GivesOver (line.WhatIf cat load conf) inputs setting done = WhatIf.Gives (input inputs 2) setting done
GivesOver (line.Explain cat load conf number) inputs setting done = Explain.Gives number (input inputs 2) setting done
GivesOver (line.Advise cat load budget nodes cert) inputs setting done = Advise.Gives budget nodes setting done
GivesOver (line.Ruled cat load budget rules nodes cert) inputs setting done = Ruled.Gives budget nodes (input inputs 2) setting done
GivesOver (line.Sweep cat load first step count nodes cert) inputs setting done = Sweep.Gives first step count nodes setting done
GivesOver (line.Retune cat load edits budget nodes) inputs setting done = Retune.Gives budget nodes (input inputs 2) setting done
GivesOver (line.Check cat load cert) inputs setting done = Check.Gives (input inputs 2) setting done
GivesOver (line.CheckRuled cat load rules cert) inputs setting done = CheckRuled.Gives (input inputs 2) (input inputs 3) setting done
GivesOver (line.Fold cat load out) inputs setting done = Fold.Gives (input inputs 1) setting done
GivesOver (line.Bench seed tables statements budget) inputs setting done = Bench.Gives budget setting done

-- the names of the files that a command puts, in turn
abbrev pub files_put : PlainCommand → List (List ℕ)
files_put (line.Advise cat load budget nodes cert) = option_to_list cert
files_put (line.Ruled cat load budget rules nodes cert) = option_to_list cert
files_put (line.Sweep cat load first step count nodes cert) = Sweep.certificate_names cert count
files_put (line.Fold cat load out) = out ∷ []
files_put command = []

-- what a command puts for an answer over the bytes that it answers from and their setting
abbrev pub PutsOver : PlainCommand → List (List ℕ) → TheSetting → Done → List Put → Type 0
PutsOver (line.Advise cat load budget nodes cert) inputs setting done puts = Advise.Puts cert setting done puts
PutsOver (line.Ruled cat load budget rules nodes cert) inputs setting done puts = Ruled.Puts cert setting done puts
PutsOver (line.Sweep cat load first step count nodes cert) inputs setting done puts = Sweep.Puts cert setting done puts
PutsOver (line.Fold cat load out) inputs setting done puts = Fold.Puts (input inputs 0) (input inputs 1) out setting done puts
PutsOver command inputs setting done puts = puts ≡ []
